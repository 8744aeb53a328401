use Rattle.std.proofs.Common.{rules}
use Rattle.overflow_read.proofs.Joining.{no_page_is_joined, all_pages_are_joined, the_bytes_lie_in_the_area, the_bytes_have_room, one_more_page_is_joined}
use Rattle.overflow_read.proofs.join_pages.Goals as goal

pub loop-i-init : goal.loop-i-init
loop-i-init c = search (no_page_is_joined, rules)

pub overflow_add-end : goal.overflow_add-end
overflow_add-end c = search (the_bytes_lie_in_the_area, rules)

pub slice_bounds-copy_in-end : goal.slice_bounds-copy_in-end
slice_bounds-copy_in-end c = search (the_bytes_lie_in_the_area, rules)

pub copy_in-requires : goal.copy_in-requires
copy_in-requires c = search (the_bytes_have_room, rules)

pub loop-i-preserved : goal.loop-i-preserved
loop-i-preserved c = search (one_more_page_is_joined, rules)

pub returns : goal.returns
returns c = search (all_pages_are_joined, rules)
