-- `leaf_node::key_at` meets its contract.
-- Assumes nothing.
use Rattle.std.proofs.Common.{rules}
use Rattle.leaf_node.specs.Page.{key_at}
use Rattle.leaf_node.proofs.key_at.Goals as goal

pub returns : goal.returns
unfolding key_at
returns c = search rules
