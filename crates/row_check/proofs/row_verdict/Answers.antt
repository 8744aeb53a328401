-- `row_check::row_verdict` meets its contract.
-- Assumes nothing.
use Rattle.std.proofs.Common.{rules}
use Rattle.refusal.proofs.Refused.{refused, passed_on}
use Rattle.row_check.proofs.Calls.{the_call_needs_whole_pages, the_call_needs_good_leaves, the_rest_decides}
use Rattle.row_check.proofs.row_verdict.Goals as goal

pub returns-then-not-whole_pages : goal.returns-then-not-whole_pages
returns-then-not-whole_pages c = search (the_call_needs_whole_pages, rules)

pub returns-in_err-leaves_verdict : goal.returns-in_err-leaves_verdict
returns-in_err-leaves_verdict c = rw (passed_on _ _ c.from_residual.ensures) (search (the_call_needs_good_leaves, refused, c.in_err-leaves_verdict.ensures, rules))

pub returns : goal.returns
returns c = search (the_rest_decides, c.in_ok-leaves_verdict.ensures, rules)
