-- Nos. 1 to 8 passed: what the steps below the calls require of what is lent, as plain facts. `page` is the page as the work regards it.
-- `proofs/Readiness.antt` has them of all that earns no refusal.
use Rattle.std.specs.Prelude.{◌≡◌, List, ℕ, ◌+◌, ◌-◌, ◌≤◌, ◌<◌, length, get_or}
use Rattle.leaf_node.specs.Limits.{most_page_bytes}
use Rattle.leaf_node.specs.Page.{count, values_size}
use Rattle.leaf_node.specs.Steps.{Laid, Sorted}
use Rattle.leaf_work.specs.declared.Work.{Work}
use Rattle.leaf_work.specs.declared.Entry.{Entry}
use Rattle.leaf_work.specs.Lent.{blank, most_entries, most_store_bytes}

-- an insert's place lies in the used part of the store, a chunk is nonempty and lies in the passed part
pub record EntryIn (low filled : ℕ) (e : Entry) : Type 0 where
  pub insert : e.kind ≡ 1 → (e.from ≤ e.to) × (e.to ≤ filled)
  pub chunk : (e.kind ≡ 1 → ⊥) → (e.from < e.to) × (e.to ≤ low)

pub record Ready (w : Work) (list : List Entry) (store page : List ℕ) : Type 0 where
  pub used_in : w.used ≤ length list
  pub filled_in : w.filled ≤ length store
  pub low_in : w.low ≤ count page
  pub entries : (i : ℕ) → i < w.used → EntryIn w.low w.filled (get_or list i blank)
  -- each entry has a record; the store holds no more than the listed values
  pub used_few : w.used ≤ w.count
  pub filled_few : w.filled ≤ w.bytes
  -- what is pending has room
  pub few : w.count + (count page - w.low) ≤ most_entries
  pub store_room : w.bytes + values_size page w.low (count page) ≤ length store
  -- a page with records is a good one
  pub laid : 0 < count page → Laid page (count page)
  pub rising : 0 < count page → Sorted page (count page)
  pub list_there : 0 < length list
  pub list_short : length list ≤ most_entries
  pub store_short : length store ≤ most_store_bytes
  pub page_short : length page ≤ most_page_bytes
