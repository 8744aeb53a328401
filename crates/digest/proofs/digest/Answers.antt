-- `digest::digest` meets its contract.
-- Assumes nothing.
use Rattle.std.proofs.Common.{rules}
use Rattle.refusal.proofs.Refused.{passed_on}
use Rattle.digest.proofs.Calls.{an_accepted_work_is_ready, an_accepted_digest_leaves_its_outcome, a_refused_digest_changes_nothing}
use Rattle.digest.proofs.digest.Goals as goal

pub returns-in_err-node : goal.returns-in_err-node
returns-in_err-node c = rw (passed_on _ _ c.from_residual.ensures) (a_refused_digest_changes_nothing _ _ _ _ _ _ _ _ c.in_err-node.ensures.number)

pub digest_ready-given-requires : goal.digest_ready-given-requires
digest_ready-given-requires c = let n = c.in_ok-node.ensures in an_accepted_work_is_ready _ _ _ _ _ _ _ n.number (search rules) c.read_keys.ensures _ n.base

pub returns : goal.returns
returns c = let n = c.in_ok-node.ensures in an_accepted_digest_leaves_its_outcome _ _ _ _ _ _ _ n.number (search rules) c.read_keys.ensures _ n.base _ _ _ _ _ _ c.digest_ready-given.ensures
