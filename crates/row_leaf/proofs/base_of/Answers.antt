-- `row_leaf::base_of` meets its contract.
-- Assumes nothing.
use Rattle.row_leaf.proofs.Leaves.{a_good_page_is_counted}
use Rattle.row_leaf.proofs.base_of.Goals as goal

pub invariant_of-result : goal.invariant_of-result
invariant_of-result c =
    let page = c.page_in-page.ensures in
    record { counted = rw page (a_good_page_is_counted _ (c.requires.good c.if-is_none.ensures) _ (rw page at c.count_of.ensures.0)) }
