-- `leaf_check::record_right` meets its contract.
-- Assumes nothing.
use Rattle.std.proofs.Common.{rules}
use Rattle.leaf_check.proofs.Results.{record_by}
use Rattle.leaf_check.proofs.record_right.Goals as goal

pub returns : goal.returns
returns c = search (record_by, rules)
