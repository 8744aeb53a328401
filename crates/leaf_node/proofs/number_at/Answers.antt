-- `leaf_node::number_at` meets its contract.
-- Assumes nothing.
use Rattle.std.proofs.Common.{rules}
use Rattle.leaf_node.specs.Page.{number_at}
use Rattle.leaf_node.proofs.number_at.Goals as goal

pub returns : goal.returns
unfolding number_at
returns c = search rules
