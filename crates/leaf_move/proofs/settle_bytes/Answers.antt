-- `leaf_move::settle_bytes` meets its contract.
-- Assumes nothing.
use Rattle.std.proofs.Common.{◌∙◌}
use Rattle.leaf_move.proofs.Within.{copied_down_is_lowered}
use Rattle.leaf_move.proofs.Settling.{bytes_in_use_are_cleared}
use Rattle.leaf_move.proofs.settle_bytes.Goals as goal

pub returns : goal.returns
returns c =
    let low = c.copy_within.ensures.after ∙ copied_down_is_lowered _ _ c.requires.few in
    bytes_in_use_are_cleared _ _ _ c.requires _ low _ _ c.max-used.ensures c.max-top.ensures _ _ c.clear_between.ensures c.clear_between-2.ensures
