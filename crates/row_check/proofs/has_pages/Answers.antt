-- `row_check::has_pages` meets its contract.
-- Assumes nothing.
use Rattle.std.proofs.Common.{rules}
use Rattle.row_check.proofs.Calls.{too_few_pages, a_budget_fits, the_budget_decides}
use Rattle.row_check.proofs.has_pages.Goals as goal

pub returns-then-pages-n : goal.returns-then-pages-n
returns-then-pages-n c = search (too_few_pages, rules)

pub overflow_mul-pages : goal.overflow_mul-pages
overflow_mul-pages c =
    rw c.merge_below.ensures.0 (a_budget_fits _ _ _ c.args.size.right c.args.n 0 _ c.pages_lent-pages.ensures (search rules))

pub returns : goal.returns
returns c =
    let budget = rw c.merge_below.ensures.0 at c.bodies_within.ensures in
    the_budget_decides _ _ _ c.args.size.right _ _ _ c.pages_lent-pages.ensures c.if-pages-n.false _ budget
