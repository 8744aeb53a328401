-- `row_check::lent_row_verdict` meets its contract.
-- Assumes nothing.
use Rattle.std.proofs.Common.{rules}
use Rattle.refusal.proofs.Refused.{refused, passed_on}
use Rattle.row_check.proofs.Calls.{no_whole_pages_have_number_1, a_bad_leaf_has_its_number, a_lent_row_too_long_has_number_18, a_right_lent_row_is_accepted}
use Rattle.row_check.proofs.lent_row_verdict.Goals as goal

pub returns-then-not-whole_pages : goal.returns-then-not-whole_pages
returns-then-not-whole_pages c = search (no_whole_pages_have_number_1, rules)

pub returns-in_err-leaves_verdict : goal.returns-in_err-leaves_verdict
returns-in_err-leaves_verdict c = rw (passed_on _ _ c.from_residual.ensures) (search (a_bad_leaf_has_its_number, refused, c.in_err-leaves_verdict.ensures, rules))

pub returns-then-not-short_from_zero : goal.returns-then-not-short_from_zero
returns-then-not-short_from_zero c = search (a_lent_row_too_long_has_number_18, c.in_ok-leaves_verdict.ensures, rules)

pub returns : goal.returns
returns c = search (a_right_lent_row_is_accepted, c.in_ok-leaves_verdict.ensures, rules)
