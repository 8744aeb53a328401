-- `leaf_check::Tested::is_pass_right` meets its contract.
-- Assumes nothing.
use Rattle.std.proofs.Common.{rules}
use Rattle.leaf_check.proofs.Results.{pass_right_by}
use Rattle.leaf_check.proofs.Tested.is_pass_right.Goals as goal

pub returns : goal.returns
returns c = search (pass_right_by, rules)
