-- `leaf_move::move_up` meets its contract.
-- Assumes nothing.
use Rattle.std.proofs.Common.{rules}
use Rattle.leaf_move.proofs.Within.{copied_up_is_under}
use Rattle.leaf_move.proofs.move_up.Goals as goal

pub returns : goal.returns
returns c = search (copied_up_is_under, rules)
