-- `leaf_node::Size::merge_below` meets its contract.
-- Assumes nothing.
use mathlib.Core.Path.{refl}
use native.Mathlib.Omega.{arith}
use Rattle.leaf_node.specs.Limits.{merge_below}
use Rattle.leaf_node.proofs.size.Size.merge_below.Goals as goal

pub returns : goal.returns
unfolding merge_below
returns c = (rw (c.body_limit.ensures.0) refl, omega (arith, c.body_limit.ensures.0, c.args.self.right.least), omega (arith, c.body_limit.ensures.1))
