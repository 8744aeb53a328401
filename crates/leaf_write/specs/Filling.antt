-- The page of a leaf, filled from store and base: the records that are pushed, and what pushing them requires.
use Rattle.std.specs.Prelude.{cond, ◌≡◌, List, [], ◌∷◌, ℕ, ◌+◌, ◌-◌, ◌≤◌, ◌<◌, ltb, length, get_or, take, drop}
use Rattle.std.proofs.Math.Option.{Option, none, some}
use Rattle.leaf_node.specs.Record.{Record, total}
use Rattle.leaf_node.specs.Page.{count, pointer, key_at}
use Rattle.leaf_node.specs.Build.{pushed}
use Rattle.leaf_node.specs.Steps.{Laid}
use Rattle.leaf_node.specs.Fits.{All, Keyed, Fits}
use Rattle.leaf_work.specs.declared.Entry.{Entry}
use Rattle.leaf_work.specs.Tests.{is_set}
use Rattle.leaf_work.specs.Lent.{blank, an_insert}
use Rattle.leaf_cut.specs.declared.Gauge.{Gauge}
use Rattle.leaf_cut.specs.declared.Span.{Span}
use Rattle.leaf_cut.specs.declared.Cursor.{Cursor}
use Rattle.leaf_write.specs.declared.Place.{Place}

-- "an insert with its place in the store"
unfoldable pub insert_record : List ℕ → Entry → Record
insert_record store e = record { key = e.key; value = take (e.to - e.from) (drop e.from store); flag = is_set e.flag }

-- the place behind records that were pushed
abbrev pub place_behind : Place → List Record → Place
place_behind p rs = record { index = p.index + length rs; at = p.at + total rs; left = p.left - length rs }

-- as many of some records as the page still takes were pushed into d, and the place behind them
abbrev pub PushedAt : List ℕ → Place → List Record → List ℕ → Place → Type 0
PushedAt d p rs d' r = (d' ≡ pushed d p.index p.at (take p.left rs)) × (r ≡ place_behind p (take p.left rs))

-- ---- what is required

pub record RangeIn (page : List ℕ) (from to : ℕ) : Type 0 where
  pub order : from ≤ to
  pub there : to ≤ count page
  pub laid : Laid page (count page)

-- an insert whose value lies below byte `end` of the store
pub record InsertIn (e : Entry) (end : ℕ) : Type 0 where
  pub order : e.from ≤ e.to
  pub there : e.to ≤ end

pub record EntryThere (store page : List ℕ) (e : Entry) (skip : ℕ) : Type 0 where
  pub insert : e.kind ≡ 1 → (skip ≡ 0) × InsertIn e (length store)
  pub chunk : (e.kind ≡ 1 → ⊥) → RangeIn page (e.from + skip) e.to

-- records have room in a page of m bytes as records from j on, with their values from byte `at` on
pub record Filling (m j at : ℕ) (rs : List Record) : Type 0 where
  pub keys : All Keyed rs
  pub room : pointer (j + length rs) ≤ at
  pub fits : at + total rs ≤ m
  pub small : m < 32768

-- as many of some records as the page still takes have room in it
abbrev pub RoomAt : ℕ → Place → List Record → Type 0
RoomAt m p rs = Filling m p.index p.at (take p.left rs)

-- a leaf of the first of some records, which a page of m bytes takes
pub record LeafFits (m : ℕ) (leaf : Gauge) (rs : List Record) : Type 0 where
  pub there : leaf.count ≤ length rs
  pub bytes : leaf.bytes ≡ total (take leaf.count rs)
  pub fits : Fits m (take leaf.count rs)

-- ---- keys

-- the key of the first record, where there is one
abbrev pub first_key : List Record → Option (List ℕ)
first_key [] = none
first_key (r ∷ rs) = some r.key

-- that of an entry's first record behind the first `skip`
abbrev pub entry_key : List ℕ → Entry → ℕ → List ℕ
entry_key page e skip = cond (an_insert e) e.key (key_at page (e.from + skip))

-- that of the records from a cursor on, by the cursor's entry
unfoldable pub key_from : Span → List Entry → List ℕ → Cursor → Option (List ℕ)
key_from s list page at =
    cond (ltb at.entry s.used)
    (some (entry_key page (get_or list at.entry blank) at.skip))
    (cond (ltb (s.low + at.skip) (count page)) (some (key_at page (s.low + at.skip))) none)
