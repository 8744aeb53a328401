-- `leaf_node::Size::value_limit` meets its contract.
-- Assumes nothing.
use mathlib.Core.Path.{refl}
use native.Mathlib.Omega.{arith}
use Rattle.leaf_node.specs.Limits.{body_limit, value_limit}
use Rattle.leaf_node.proofs.size.Size.value_limit.Goals as goal

pub overflow_sub-result : goal.overflow_sub-result
unfolding body_limit
overflow_sub-result c = omega (arith, c.body_limit.ensures.0, c.args.self.right.least)

pub returns : goal.returns
unfolding value_limit
returns c = (rw (c.body_limit.ensures.0) refl, omega (arith, c.body_limit.ensures.1))
