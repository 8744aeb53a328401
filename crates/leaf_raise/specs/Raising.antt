-- Records raised to the end of list and store as inserts, the last one first; what raising them requires.
use Rattle.std.specs.Prelude.{◌≡◌, List, ℕ, ◌+◌, ◌-◌, ◌≤◌, ◌<◌, length}
use Rattle.leaf_node.specs.Record.{Record, values, total}
use Rattle.leaf_node.specs.Page.{count}
use Rattle.leaf_node.specs.Steps.{Laid}
use Rattle.leaf_work.specs.declared.Entry.{Entry}
use Rattle.leaf_work.specs.Digest.{inserts_of}
use Rattle.leaf_write.specs.Filling.{InsertIn}
use Rattle.leaf_move.specs.Moving.{under}
use Rattle.leaf_raise.specs.declared.Top.{Top}

-- below so many records with so many bytes
abbrev pub lower_by : Top → ℕ → ℕ → Top
lower_by top few bytes = record { entry = top.entry - few; to = top.to - bytes; at = top.at - bytes }

module _ (list : List Entry) (store : List ℕ) (top : Top) (rs : List Record) where
  pub record Room : Type 0 where
    pub list_in : top.entry ≤ length list
    pub store_in : top.at ≤ length store
    pub few : length rs ≤ top.entry
    pub short : total rs ≤ top.to
    pub fits : total rs ≤ top.at

  -- the records stand right below the top, their entries with the places that their values will have
  pub record Raised (list' : List Entry) (store' : List ℕ) : Type 0 where
    pub list_is : list' ≡ under list top.entry (inserts_of (top.to - total rs) rs)
    pub store_is : store' ≡ under store top.at (values rs)

-- ---- what is required

pub record RecordThere (page : List ℕ) (i : ℕ) : Type 0 where
  pub there : i < count page
  pub laid : Laid page (count page)

-- leaf_write's `RangeIn`, but it may be empty, and then the page need not be laid out
pub record RangeThere (page : List ℕ) (from to : ℕ) : Type 0 where
  pub order : from ≤ to
  pub there : to ≤ count page
  pub laid : from < to → Laid page (count page)

-- leaf_write's `EntryThere`, but an insert's value ends below the top, and a chunk's range may be empty
pub record EntryBelow (page : List ℕ) (e : Entry) (skip : ℕ) (top : Top) : Type 0 where
  pub insert : e.kind ≡ 1 → (skip ≡ 0) × InsertIn e top.at
  pub chunk : (e.kind ≡ 1 → ⊥) → RangeThere page (e.from + skip) e.to
