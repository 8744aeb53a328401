-- `leaf_node::count_of` meets its contract.
-- Assumes nothing.
use Rattle.std.proofs.Common.{rules}
use Rattle.leaf_node.specs.Page.{count}
use Rattle.leaf_node.proofs.count_of.Goals as goal

pub returns : goal.returns
unfolding count
returns c = search rules
