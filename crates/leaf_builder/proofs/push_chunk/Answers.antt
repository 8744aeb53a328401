-- `leaf_builder::push_chunk` meets its contract: the values of a chunk are one part of its page.
-- Assumes nothing.
use Rattle.std.proofs.Common.{rules}
use Rattle.leaf_builder.proofs.Writing.{chunk_order, chunk_end, chunk_pushed}
use Rattle.leaf_builder.proofs.push_chunk.Goals as goal

pub slice_bounds-copy_in-count : goal.slice_bounds-copy_in-count
slice_bounds-copy_in-count c = search (chunk_order, rules)

pub slice_bounds-copy_in-start : goal.slice_bounds-copy_in-start
slice_bounds-copy_in-start c = search (chunk_order, rules)

pub slice_bounds-copy_in-end : goal.slice_bounds-copy_in-end
slice_bounds-copy_in-end c = search (chunk_end, rules)

pub overflow_sub-result : goal.overflow_sub-result
overflow_sub-result c = search (chunk_order, rules)

pub returns : goal.returns
returns c = (search (chunk_pushed, rules), search rules)
