-- `leaf_open::open` meets its contract.
-- Assumes nothing.
use Rattle.refusal.proofs.Refused.{refused, passed_on}
use Rattle.leaf_open.proofs.Openings.{a_refused_opening_changes_nothing, an_accepted_opening_clears_all}
use Rattle.leaf_open.proofs.open.Goals as goal

pub returns-in_err-open_verdict : goal.returns-in_err-open_verdict
returns-in_err-open_verdict c =
    rw (passed_on _ _ c.from_residual.ensures) (λ held. a_refused_opening_changes_nothing 4096 _ _ held _ _ _ c.in_err-open_verdict.ensures (refused _))

pub returns : goal.returns
returns c =
    λ held. an_accepted_opening_clears_all 4096 _ _ _ held _ _ c.in_ok-open_verdict.ensures _ _ _ (rw c.separator_of.ensures at c.fresh_work.ensures)
    (rw c.blank_entry.ensures at (c.fill.ensures.after (λ y e. e))) (c.fill-2.ensures.after (λ y e. e))
