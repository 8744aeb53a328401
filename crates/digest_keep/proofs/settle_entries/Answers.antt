-- `digest_keep::settle_entries` meets its contract.
-- Assumes nothing.
use Rattle.std.proofs.Common.{◌∙◌}
use Rattle.leaf_work.specs.Lent.{blank}
use Rattle.leaf_move.proofs.Lowering.{what_is_lowered_and_cleared_is_settled}
use Rattle.leaf_move.proofs.Within.{copied_down_is_lowered}
use Rattle.digest_keep.proofs.settle_entries.Goals as goal

pub returns : goal.returns
returns c =
    let low = c.copy_within.ensures.after ∙ copied_down_is_lowered _ _ c.requires in
    what_is_lowered_and_cleared_is_settled _ _ c.requires _ low blank _ c.drain.ensures
