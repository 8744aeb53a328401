-- `leaf_node::size_between` meets its contract: the values of a range are one part of the page.
-- Assumes nothing.
use Rattle.std.proofs.Common.{rules}
use Rattle.leaf_node.proofs.Laying.{size_order, size_is, size_inside}
use Rattle.leaf_node.proofs.size_between.Goals as goal

pub overflow_sub-result : goal.overflow_sub-result
overflow_sub-result c = search (size_order, rules)

pub returns : goal.returns
returns c = (search (size_is, rules), search (size_inside, rules))
