-- What a digest keeps: leaf_merge's `Keeps` to the entry for which there is room, in a list that is zero behind its used entries.
use Rattle.std.specs.Prelude.{◌≡◌, List, ℕ, ◌-◌, length, drop, replicate}
use Rattle.leaf_work.specs.declared.Work.{Work}
use Rattle.leaf_work.specs.declared.Entry.{Entry}
use Rattle.leaf_work.specs.Lent.{blank}
use Rattle.leaf_cut.specs.declared.Cursor.{Cursor}
use Rattle.leaf_cut.specs.declared.Gauge.{Gauge}
use Rattle.leaf_merge.specs.Keeping.{Keeps}
use Rattle.digest_keep.specs.Lifting.{room_by}

-- the records from the cursor on have the gauge `left`; "unused entries .. are zero"
pub record KeepsIn (w : Work) (list : List Entry) (store page : List ℕ) (at : Cursor) (left : Gauge) : Type 0 where
  pub keeps : Keeps w list store page at left (room_by w.used left.count (length list))
  pub unused : drop w.used list ≡ replicate (length list - w.used) blank
