-- `leaf_node::Size::body_limit` meets its contract.
-- Assumes nothing.
use mathlib.Core.Path.{refl}
use native.Mathlib.Omega.{arith}
use Rattle.leaf_node.specs.Limits.{body_limit}
use Rattle.leaf_node.proofs.size.Size.body_limit.Goals as goal

pub returns : goal.returns
unfolding body_limit
returns c = (refl, omega (arith, c.args.self.right.most))
