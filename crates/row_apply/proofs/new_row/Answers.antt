-- `row_apply::new_row` meets its contract.
use Rattle.refusal.proofs.Refused.{passed_on}
use Rattle.row_apply.proofs.Closing.{a_refused_row_changes_nothing, the_call_says}
use Rattle.row_apply.proofs.new_row.Goals as goal

pub returns-in_err-row_verdict : goal.returns-in_err-row_verdict
returns-in_err-row_verdict c = rw (passed_on _ _ c.from_residual.ensures) (a_refused_row_changes_nothing _ _ c.args.lent _ _ _ (rw (c.of.ensures.0, c.of.ensures.1) at c.in_err-row_verdict.ensures))

pub returns : goal.returns
returns c =
    let kept = c.take_turns-turned.auto in
    the_call_says _ _ _ _ _ (rw (c.of.ensures.0, c.of.ensures.1) at c.in_ok-row_verdict.ensures) c.requires _ (rw c.blank_entry.ensures at (c.fill.ensures.after (λ y e. e))) _ (c.fill-2.ensures.after (λ y e. e))
    _ _ _ _ kept.list kept.store kept.area kept.tickets _ _ _ _ _ _ c.take_turns-turned.ensures c.close_row.ensures
