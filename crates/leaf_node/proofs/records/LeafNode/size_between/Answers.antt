-- `leaf_node::LeafNode::size_between` meets its contract: no records have no bytes.
-- Assumes nothing.
use Rattle.std.proofs.Common.{rules}
use Rattle.leaf_node.proofs.Reading.{nothing_between}
use Rattle.leaf_node.proofs.records.LeafNode.size_between.Goals as goal

pub returns-then-from-to : goal.returns-then-from-to
returns-then-from-to c = (search (nothing_between, rules), search rules)
