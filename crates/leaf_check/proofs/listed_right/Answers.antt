-- `leaf_check::listed_right` meets its contract.
-- Assumes nothing.
use Rattle.std.proofs.Common.{rules}
use Rattle.leaf_check.proofs.Results.{listed_by}
use Rattle.leaf_check.proofs.listed_right.Goals as goal

pub returns : goal.returns
returns c = search (listed_by, rules)
