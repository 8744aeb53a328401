-- `leaf_pending::TwinPlaceFromResultPlaceRefusal/from` meets its contract.
-- Assumes nothing.
use Rattle.std.proofs.Common.{rules}
use Rattle.leaf_pending.specs.Reply.{twin_out}
use Rattle.leaf_pending.proofs.TwinPlaceFromResultPlaceRefusal.from.Goals as goal

pub returns-in-Ok : goal.returns-in-Ok
unfolding twin_out
returns-in-Ok c = search rules

pub returns-in-Err : goal.returns-in-Err
unfolding twin_out
returns-in-Err c = search rules
