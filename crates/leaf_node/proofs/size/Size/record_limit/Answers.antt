-- `leaf_node::Size::record_limit` meets its contract.
-- Assumes nothing.
use mathlib.Core.Path.{refl}
use native.Mathlib.Omega.{arith}
use Rattle.leaf_node.specs.Limits.{body_limit, record_limit}
use Rattle.leaf_node.proofs.size.Size.record_limit.Goals as goal

pub returns : goal.returns
unfolding record_limit body_limit
returns c = (rw (c.body_limit.ensures.0) refl, omega (arith, c.body_limit.ensures.0, c.args.self.right.least), omega (arith, c.body_limit.ensures.1))
