-- `row_check::whole_pages` meets its contract.
-- Assumes nothing.
use Rattle.row_check.proofs.Leaves.{whole_pages_are_counted}
use Rattle.row_check.proofs.whole_pages.Goals as goal

pub returns : goal.returns
returns c = whole_pages_are_counted _ _ _ c.args.size.right
