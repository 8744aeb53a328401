-- `leaf_check::Tested::waiting_fits` meets its contract.
-- Assumes nothing.
use Rattle.std.proofs.Common.{rules}
use Rattle.leaf_check.proofs.Results.{waiting_by}
use Rattle.leaf_check.proofs.Tested.waiting_fits.Goals as goal

pub returns : goal.returns
returns c = search (waiting_by, rules)
