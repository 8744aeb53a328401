-- `leaf_node::LeafNode::new` meets its contract.
-- Assumes nothing.
use Rattle.std.proofs.Common.{rules}
use Rattle.leaf_node.proofs.Reading.{checked_long, checked_counted}
use Rattle.leaf_node.proofs.records.LeafNode.new.Goals as goal

pub count_of-requires : goal.count_of-requires
count_of-requires c = search (checked_long, rules)

pub invariant_of-result : goal.invariant_of-result
invariant_of-result c = search (checked_counted, rules)
