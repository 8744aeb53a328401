-- All kept records are raised, part after part from the last one; what that requires.
use Rattle.std.specs.Prelude.{cond, ◌≡◌, List, ℕ, ◌+◌, ◌≤◌, ◌<◌, eqb, length, get_or}
use Rattle.leaf_node.specs.Record.{total}
use Rattle.leaf_work.specs.declared.Entry.{Entry}
use Rattle.leaf_work.specs.Lent.{blank}
use Rattle.leaf_cut.specs.declared.Span.{Span}
use Rattle.leaf_cut.specs.declared.Cursor.{Cursor}
use Rattle.leaf_cut.specs.Records.{records_from}
use Rattle.leaf_cut.specs.Steps.{CursorIn, Kept}
use Rattle.leaf_raise.specs.declared.Top.{Top}

-- nothing is raised yet, of records with so many bytes, which are to end at entry `room` and at the store's end
abbrev pub full_top : ℕ → List ℕ → ℕ → Top
full_top room store bytes = record { entry = room; to = bytes; at = length store }

-- how many records of entry e stand before the cursor, where it stands in this entry or in one before
unfoldable pub skip_at : Cursor → ℕ → ℕ
skip_at at e = cond (eqb e at.entry) at.skip 0

-- ---- what is required

-- records from a cursor on that can be raised to entry `room`: what is raised never covers an entry or a value that is still to be read
pub record Raises (list : List Entry) (store page : List ℕ) (s : Span) (at : Cursor) (bytes room : ℕ) : Type 0 where
  pub kept : Kept list store page s
  pub there : CursorIn list page s at
  pub bytes_is : bytes ≡ total (records_from s list store page at)
  pub room_in : room ≤ length list
  pub few : length (records_from s list store page at) ≤ room
  pub short : bytes ≤ length store
  pub entries_below : (i : ℕ) → at.entry < i → i ≤ s.used → i + length (records_from s list store page (record { entry = i; skip = 0 })) ≤ room
  pub values_below : (i : ℕ) → i < s.used → (get_or list i blank).kind ≡ 1
      → (get_or list i blank).to + total (records_from s list store page (record { entry = i + 1; skip = 0 })) ≤ length store
