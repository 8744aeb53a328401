-- `melt_sheet::weigh_row` meets its contract. The invariant: `s` is the scale after the first `i` leaves.
-- Assumes nothing.
use Rattle.std.proofs.Common.{rules}
use Rattle.melt_sheet.proofs.Rows.{before_the_first_leaf, a_leaf_lies_in_the_pages, a_leafs_start_is_a_place, a_leafs_end_is_a_place, a_leaf_is_laid, room_for_a_leaf, one_leaf_more, all_leaves}
use Rattle.melt_sheet.proofs.weigh_row.Goals as goal

pub loop-i-init : goal.loop-i-init
loop-i-init c = search (before_the_first_leaf, rules)

pub overflow_mul-from : goal.overflow_mul-from
overflow_mul-from c = record { fits = search (a_leafs_start_is_a_place, rules) }

pub overflow_add-to : goal.overflow_add-to
overflow_add-to c = record { fits = search (a_leafs_end_is_a_place, rules) }

pub slice_bounds-weigh_page-end : goal.slice_bounds-weigh_page-end
slice_bounds-weigh_page-end c = search (a_leaf_lies_in_the_pages, rules)

pub weigh_page-s-requires : goal.weigh_page-s-requires
weigh_page-s-requires c = search (a_leaf_is_laid, room_for_a_leaf, rules)

pub loop-i-preserved : goal.loop-i-preserved
loop-i-preserved c = search (one_leaf_more, rules)

pub returns : goal.returns
returns c =
    all_leaves c.args.size.bytes c.args.pages.now c.args.separators.now c.args.tree.now c.requires c.loop-i.s c.loop-i.i c.loop-i.invariant (search rules)
