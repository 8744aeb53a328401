-- `leaf_check::Tested::room_for` meets its contract.
-- Assumes nothing.
use Rattle.std.proofs.Common.{rules}
use Rattle.leaf_check.proofs.Results.{room_by}
use Rattle.leaf_check.proofs.Tested.room_for.Goals as goal

pub returns : goal.returns
returns c = search (room_by, rules)
