-- What stands at a cursor: the records of its entry, or the base's rest. Assumes nothing.
use mathlib.Core.Bool.{cond}
use mathlib.Core.List.{List}
use Prim.Native.Nat.{ℕ, ◌+◌, ◌≤◌, ◌<◌}
use lib.Dec.{ltb}
use lib.ListN.{length, get_or}
use Rattle.leaf_node.specs.Record.{Record}
use Rattle.leaf_node.specs.Page.{count, records_between}
use Rattle.leaf_work.specs.declared.Entry.{Entry}
use Rattle.leaf_work.specs.Lent.{blank}
use Rattle.leaf_cut.specs.declared.Span.{Span}
use Rattle.leaf_cut.specs.declared.Cursor.{Cursor}
use Rattle.leaf_cut.specs.Records.{entry_records}
use Rattle.leaf_write.specs.Filling.{RangeIn, EntryThere}

-- what the cursor's entry, or the base's rest, has from it on
unfoldable pub part_from : Span → List Entry → List ℕ → List ℕ → Cursor → List Record
part_from s list store page at =
    cond (ltb at.entry s.used) (entry_records store page (get_or list at.entry blank) at.skip)
    (records_between page (s.low + at.skip) (count page))

-- they can be read
pub record PartThere (list : List Entry) (store page : List ℕ) (s : Span) (at : Cursor) : Type 0 where
  pub entry_in : at.entry < s.used → at.entry < length list
  pub entry : at.entry < s.used → EntryThere store page (get_or list at.entry blank) at.skip
  pub rest : s.used ≤ at.entry → RangeIn page (s.low + at.skip) (count page)
