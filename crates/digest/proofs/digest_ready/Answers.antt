-- `digest::digest_ready` meets its contract.
-- Assumes nothing.
use Rattle.digest.proofs.Digesting.{the_outcome_is_made}
use Rattle.digest.proofs.digest_ready.Goals as goal

pub returns : goal.returns
returns c = the_outcome_is_made _ _ _ _ _ _ _ c.requires _ _ _ c.give_leaves-p.ensures _ _ c.prepare_merge_ops.ensures _ c.given_by-given.ensures _ c.digest_work.ensures
