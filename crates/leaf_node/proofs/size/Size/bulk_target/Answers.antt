-- `leaf_node::Size::bulk_target` meets its contract.
-- Assumes nothing.
use mathlib.Core.Path.{refl}
use native.Mathlib.Omega.{arith}
use Rattle.leaf_node.specs.Limits.{bulk_target}
use Rattle.leaf_node.proofs.size.Size.bulk_target.Goals as goal

pub returns : goal.returns
unfolding bulk_target
returns c = (rw (c.body_limit.ensures.0) refl, omega (arith, c.body_limit.ensures.0, c.args.self.right.least), omega (arith, c.body_limit.ensures.1))
