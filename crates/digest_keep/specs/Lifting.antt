-- One record raised, the parts of what is kept, and what raising them requires.
use Rattle.std.specs.Prelude.{◌≡◌, cond, List, ℕ, ◌+◌, ◌-◌, ◌≤◌, ◌<◌, ltb, min, length}
use Rattle.leaf_node.specs.Record.{Record, total}
use Rattle.leaf_node.specs.Page.{record_at}
use Rattle.leaf_work.specs.declared.Entry.{Entry}
use Rattle.leaf_work.specs.Tests.{bit}
use Rattle.leaf_work.specs.Lent.{an_insert, insert_at, chunk_of}
use Rattle.leaf_cut.specs.declared.Span.{Span}
use Rattle.leaf_cut.specs.declared.Cursor.{Cursor}
use Rattle.leaf_cut.specs.Records.{entry_records}
use Rattle.leaf_write.specs.Filling.{insert_record, InsertIn}
use Rattle.leaf_raise.specs.declared.Top.{Top}
use Rattle.leaf_raise.specs.Raising.{lower_by, Room, Raised, RecordThere, EntryBelow}
use Rattle.leaf_merge.specs.Lifting.{skip_at}
use Rattle.leaf_move.specs.Moving.{under}
use Rattle.digest_keep.specs.declared.Lifted.{Lifted}

-- ---- one record

-- the entry of a record right below the top, with the place that its value will have, and the top below it
abbrev pub lifted_of : Top → Record → Lifted
lifted_of top r = record { top = lower_by top 1 (length r.value); entry = insert_at (top.to - length r.value) top.to r.key (bit r.flag) }

-- a record raised: its entry and the top below it, and its value in the store
abbrev pub LiftedTo : List ℕ → Top → Record → Lifted → List ℕ → Type 0
LiftedTo store top r l store' = (l ≡ lifted_of top r) × (store' ≡ under store top.at r.value)

-- a value of so many bytes has room below the top, in a store of so many
pub record RoomFor (bytes : ℕ) (top : Top) (value : ℕ) : Type 0 where
  pub entry : 0 < top.entry
  pub place : value ≤ top.to
  pub fits : value ≤ top.at
  pub store_in : top.at ≤ bytes

-- an entry's last record but i
unfoldable pub last_record : List ℕ → List ℕ → Entry → ℕ → Record
last_record store page e i = cond (an_insert e) (insert_record store e) (record_at page (e.to - 1 - i))

pub record LastThere (store page : List ℕ) (e : Entry) (i : ℕ) (top : Top) : Type 0 where
  pub insert : e.kind ≡ 1 → InsertIn e top.at
  pub chunk : (e.kind ≡ 1 → ⊥) → RecordThere page (e.to - 1 - i)
  pub within : (e.kind ≡ 1 → ⊥) → i < e.to
  pub room : RoomFor (length store) top (length (last_record store page e i).value)

-- ---- one entry

abbrev pub part_records : List ℕ → List ℕ → Entry → List Record
part_records store page e = entry_records store page e 0

-- its records raised, and the top below them
abbrev pub RaisedTo : List Entry → List ℕ → Top → List Record → Top → List Entry → List ℕ → Type 0
RaisedTo list store top rs r list' store' = Raised list store top rs list' store' × (r ≡ lower_by top (length rs) (total rs))

-- an entry whose records can be raised
pub record Raisable (list : List Entry) (store page : List ℕ) (e : Entry) (top : Top) : Type 0 where
  pub below : EntryBelow page e 0 top
  pub room : Room list store top (part_records store page e)

-- ---- the parts of what is kept

-- the cursor of the last part but i: the base's rest is entry `used`
abbrev pub place_before : Span → Cursor → ℕ → Cursor
place_before s at i = record { entry = s.used - i; skip = skip_at at (s.used - i) }

-- what a cursor stands before, by its entry, which was split there; the base's rest, up to its n records, is a chunk
unfoldable pub part_of : Entry → ℕ → Span → Cursor → Entry
part_of e n s at = cond (ltb at.entry s.used) e (chunk_of (s.low + at.skip) n 0)

pub record RestThere (n : ℕ) (s : Span) (at : Cursor) : Type 0 where
  pub rest : s.used ≤ at.entry → s.low + at.skip ≤ n

-- ---- room

-- the entry to which kept records are raised: beside the used ones, or the list's end
abbrev pub room_by : ℕ → ℕ → ℕ → ℕ
room_by used kept entries = min (used + kept) entries
