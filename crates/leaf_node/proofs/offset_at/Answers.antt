-- `leaf_node::offset_at` meets its contract.
-- Assumes nothing.
use Rattle.std.proofs.Common.{rules}
use Rattle.leaf_node.specs.Page.{offset_at}
use Rattle.leaf_node.proofs.offset_at.Goals as goal

pub returns : goal.returns
unfolding offset_at
returns c = search rules
