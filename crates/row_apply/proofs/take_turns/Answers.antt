-- `row_apply::take_turns` meets its contract.
use Rattle.std.proofs.Common.{sym}
use Rattle.row_apply.proofs.Bare.{it_can_be_opened, an_empty_row_is_taken}
use Rattle.row_apply.proofs.take_turns.Goals as goal

pub load_leaf-requires : goal.load_leaf-requires
load_leaf-requires c = it_can_be_opened _ _ _ _ _ _ _ _ c.requires _ c.begin_row.ensures _ c.leaf_at.ensures (sym c.if-not-is_bare.ensures)

pub returns : goal.returns
returns c =
    an_empty_row_is_taken _ _ _ _ _ _ _ _ c.requires _ c.begin_row.ensures _ c.leaf_at.ensures (sym c.if-not-is_bare.ensures) _ _ _ _ _ c.load_leaf.ensures
