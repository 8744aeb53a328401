-- What the functions require, as plain facts.
use Rattle.std.specs.Prelude.{◌≡◌, List, ℕ, ◌+◌, ◌-◌, ◌≤◌, ◌<◌, length, get_or}
use Rattle.leaf_node.specs.Limits.{most_page_bytes}
use Rattle.leaf_node.specs.Page.{count, length_at, run, values_size}
use Rattle.leaf_node.specs.Steps.{Laid}
use Rattle.leaf_work.specs.declared.Entry.{Entry}
use Rattle.leaf_work.specs.Lent.{blank, most_store_bytes}
use Rattle.leaf_work.specs.Ready.{EntryIn}
use Rattle.leaf_cut.specs.declared.Gauge.{Gauge}
use Rattle.leaf_cut.specs.declared.Aim.{Aim}
use Rattle.leaf_cut.specs.declared.Span.{Span}
use Rattle.leaf_cut.specs.declared.Cursor.{Cursor}
use Rattle.leaf_cut.specs.declared.Taken.{Taken}
use Rattle.leaf_cut.specs.Sizes.{body_of, cut_sizes, entry_sizes, index_of, sizes_from, sizes_behind, count_behind, passed_by}

-- a gauge of what a list and a store have room for
pub record Modest (g : Gauge) : Type 0 where
  pub few : g.count ≤ 65536
  pub short : g.bytes ≤ most_store_bytes

-- the gauge of all that is pending, by that of what is listed and a base's n records from `low` on; three quarters of 131,072 are enough for it
abbrev pub WithRest : Gauge → List ℕ → ℕ → ℕ → Gauge → Type 0
WithRest listed page low n g = (g.count ≡ listed.count + (n - low)) × (g.bytes ≡ listed.bytes + values_size page low n) × (g.count ≤ 98304) × (g.bytes ≤ 98304)

-- the base's rest begins at `low`; a page with records is a good one
pub record Rest (page : List ℕ) (low : ℕ) : Type 0 where
  pub low_in : low ≤ count page
  pub laid : 0 < count page → Laid page (count page)
  pub few : count page ≤ 32767
  pub short : length page ≤ most_page_bytes

-- a leaf that is still below its target, which is no more than a page takes
pub record Leaf (a : Aim) (g : Gauge) : Type 0 where
  pub below : body_of g < a.target
  pub reachable : a.target ≤ a.limit
  pub small : a.limit ≤ most_page_bytes

-- entries and base that can be walked
pub record Spread (list : List Entry) (page : List ℕ) (s : Span) : Type 0 where
  pub used_in : s.used ≤ length list
  pub used_few : s.used ≤ 65536
  pub entries : (i : ℕ) → i < s.used → EntryIn s.low most_store_bytes (get_or list i blank)
  pub rest : Rest page s.low

-- a cursor at one of the records, or behind them all
pub record CursorIn (list : List Entry) (page : List ℕ) (s : Span) (at : Cursor) : Type 0 where
  pub entry_in : at.entry ≤ s.used
  pub skip_in : at.entry < s.used → at.skip < length (entry_sizes page (get_or list at.entry blank))
  pub rest_in : at.entry ≡ s.used → s.low + at.skip ≤ count page

-- an entry that has records from a cursor on, in the store or in a base of n records
pub record EntryAt (n : ℕ) (e : Entry) (at : Cursor) : Type 0 where
  pub insert : e.kind ≡ 1 → (e.from ≤ e.to) × (e.to ≤ most_store_bytes)
  pub chunk : (e.kind ≡ 1 → ⊥) → (e.from + at.skip ≤ e.to) × (e.to ≤ n)
  pub few : at.entry ≤ 65536
  pub short : at.skip ≤ 65536

-- what a leaf took of an entry that it came to at a cursor, and the cursor behind that
abbrev pub EntryTaken : Aim → List ℕ → Entry → Cursor → Gauge → Taken → Type 0
EntryTaken a page e at leaf t =
    (t.end ≡ cut_sizes a.limit a.target leaf.count leaf.bytes (sizes_behind page e at.skip)) × (t.at ≡ passed_by at (count_behind e at.skip) (t.end.leaf.count - leaf.count))

-- what it took of the rest of a base of n records, behind the first `skip`
abbrev pub RestTaken : Aim → List ℕ → ℕ → Span → ℕ → Gauge → Taken → Type 0
RestTaken a page n s skip leaf t =
    (t.end ≡ cut_sizes a.limit a.target leaf.count leaf.bytes (run (n - (s.low + skip)) (s.low + skip) (length_at page)))
    × (t.at ≡ record { entry = s.used; skip = skip + (t.end.leaf.count - leaf.count) })

-- a leaf that began at `start` and has come to `at`
pub record Walked (a : Aim) (list : List Entry) (page : List ℕ) (s : Span) (start at : Cursor) (leaf : Gauge) : Type 0 where
  pub there : CursorIn list page s at
  pub ended : cut_sizes a.limit a.target 0 0 (sizes_from list page s start) ≡ cut_sizes a.limit a.target leaf.count leaf.bytes (sizes_from list page s at)
  pub further : index_of list page at ≡ index_of list page start + leaf.count
  pub room : Leaf a leaf

-- a leaf that began at `start`, where it ends, and the cursor behind it
pub record Leafed (a : Aim) (list : List Entry) (page : List ℕ) (s : Span) (start : Cursor) (t : Taken) : Type 0 where
  pub ended : t.end ≡ cut_sizes a.limit a.target 0 0 (sizes_from list page s start)
  pub further : index_of list page t.at ≡ index_of list page start + t.end.leaf.count
  pub there : CursorIn list page s t.at

-- entries, store and base whose records can be read
pub record Kept (list : List Entry) (store page : List ℕ) (s : Span) : Type 0 where
  pub used_in : s.used ≤ length list
  pub used_few : s.used ≤ 65536
  pub entries : (i : ℕ) → i < s.used → EntryIn s.low (length store) (get_or list i blank)
  pub rest : Rest page s.low
  pub store_short : length store ≤ most_store_bytes
