-- `leaf_check::Tested::turn_right` meets its contract.
-- Assumes nothing.
use Rattle.std.proofs.Common.{rules}
use Rattle.leaf_check.proofs.Results.{turn_by}
use Rattle.leaf_check.proofs.Tested.turn_right.Goals as goal

pub returns : goal.returns
returns c = search (turn_by, rules)
