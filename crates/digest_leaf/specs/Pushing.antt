-- The page of a leaf, filled entry by entry: what that requires.
use Rattle.std.specs.Prelude.{List, ℕ, ◌≤◌, length}
use Rattle.leaf_work.specs.declared.Entry.{Entry}
use Rattle.leaf_cut.specs.declared.Gauge.{Gauge}
use Rattle.leaf_cut.specs.declared.Span.{Span}
use Rattle.leaf_cut.specs.declared.Cursor.{Cursor}
use Rattle.leaf_cut.specs.Records.{records_from}
use Rattle.leaf_cut.specs.Steps.{CursorIn, Kept}
use Rattle.leaf_write.specs.declared.Place.{Place}
use Rattle.leaf_write.specs.Filling.{RoomAt, LeafFits}

module _ (list : List Entry) (store page : List ℕ) (s : Span) (start : Cursor) where
  -- as many records as a page of m bytes still takes
  pub record RecordsAsked (first : Place) (m : ℕ) : Type 0 where
    pub kept : Kept list store page s
    pub there : CursorIn list page s start
    pub enough : first.left ≤ length (records_from s list store page start)
    pub room : RoomAt m first (records_from s list store page start)

  -- a leaf that a page of m bytes takes
  pub record LeafAsked (leaf : Gauge) (m : ℕ) : Type 0 where
    pub kept : Kept list store page s
    pub there : CursorIn list page s start
    pub fits : LeafFits m leaf (records_from s list store page start)
