-- `leaf_again::next_base` meets its contract.
-- Assumes nothing.
use Rattle.std.proofs.Common.{refl}
use Rattle.refusal.proofs.Refused.{refused, passed_on}
use Rattle.leaf_again.proofs.Again.{a_refused_next_base_changes_nothing, an_accepted_next_base_changes_the_work}
use Rattle.leaf_again.proofs.next_base.Goals as goal

pub returns-in_err-next_base_verdict : goal.returns-in_err-next_base_verdict
returns-in_err-next_base_verdict c = rw (passed_on _ _ c.from_residual.ensures) (a_refused_next_base_changes_nothing 4096 _ _ _ _ _ _ _ c.in_err-next_base_verdict.ensures (refused _))

pub returns : goal.returns
returns c = an_accepted_next_base_changes_the_work 4096 _ _ _ _ _ _ _ c.in_ok-next_base_verdict.ensures refl _ c.next_base_work.ensures
