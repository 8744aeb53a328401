-- `leaf_node::LeafNode::ignored` meets its contract.
-- Assumes nothing.
use Rattle.leaf_node.proofs.Reading.{nothing_counted}
use Rattle.leaf_node.proofs.records.LeafNode.ignored.Goals as goal

pub invariant_of-result : goal.invariant_of-result
invariant_of-result c = nothing_counted
