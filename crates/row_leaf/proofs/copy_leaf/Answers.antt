-- `row_leaf::copy_leaf` meets its contract.
-- Assumes nothing.
use Rattle.std.proofs.Common.{ap, length, arith}
use Rattle.row_leaf.proofs.Leaves.{a_page_is_no_longer}
use Rattle.row_leaf.proofs.copy_leaf.Goals as goal

pub copy_in-requires : goal.copy_in-requires
copy_in-requires c = omega (arith, c.requires.area_room, ap length c.page_in.ensures, a_page_is_no_longer c.args.leaf c.args.pages.now)
