-- `leaf_node::Size::bulk_above` meets its contract.
-- Assumes nothing.
use mathlib.Core.Path.{refl}
use native.Mathlib.Omega.{arith}
use Rattle.leaf_node.specs.Limits.{bulk_above}
use Rattle.leaf_node.proofs.size.Size.bulk_above.Goals as goal

pub returns : goal.returns
unfolding bulk_above
returns c = (rw (c.body_limit.ensures.0) refl, omega (arith, c.body_limit.ensures.1))
