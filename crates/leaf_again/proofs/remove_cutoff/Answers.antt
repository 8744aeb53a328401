-- `leaf_again::remove_cutoff` meets its contract.
-- Assumes nothing.
use Rattle.std.proofs.Common.{refl}
use Rattle.refusal.proofs.Refused.{refused, passed_on}
use Rattle.leaf_again.proofs.Again.{a_refused_removal_changes_nothing, an_accepted_removal_changes_the_work}
use Rattle.leaf_again.proofs.remove_cutoff.Goals as goal

pub returns-in_err-remove_verdict : goal.returns-in_err-remove_verdict
returns-in_err-remove_verdict c = rw (passed_on _ _ c.from_residual.ensures) (a_refused_removal_changes_nothing 4096 _ _ _ _ c.in_err-remove_verdict.ensures (refused _))

pub returns : goal.returns
returns c = an_accepted_removal_changes_the_work 4096 _ _ _ _ c.in_ok-remove_verdict.ensures refl _ c.remove_work.ensures
