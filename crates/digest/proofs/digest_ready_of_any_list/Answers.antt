-- `digest::digest_ready_of_any_list` meets its contract.
-- Assumes nothing.
use Rattle.digest.proofs.Clearing.{a_cleared_list_is_ready, a_cleared_list_leaves_its_outcome}
use Rattle.digest.proofs.digest_ready_of_any_list.Goals as goal

pub digest_ready-requires : goal.digest_ready-requires
digest_ready-requires c = a_cleared_list_is_ready _ _ _ _ _ _ _ c.requires _ c.drain.ensures

pub returns : goal.returns
returns c = a_cleared_list_leaves_its_outcome _ _ _ _ _ _ _ c.requires _ c.drain.ensures _ _ _ _ _ _ c.digest_ready.ensures
