-- `leaf_node::values_fit` meets its contract: the values seen so far fit.
-- Assumes nothing.
use Rattle.std.proofs.Common.{rules}
use mathlib.Core.Path.{refl}
use Rattle.leaf_node.specs.Good.{all_below}
use Rattle.leaf_node.proofs.Rules.{values_long, values_more, values_done}
use Rattle.leaf_node.proofs.values_fit.Goals as goal

pub loop-i-init : goal.loop-i-init
unfolding all_below
loop-i-init c = (search rules, refl)

pub returns-then-start_at-most : goal.returns-then-start_at-most
returns-then-start_at-most c = search (values_long, rules)

pub loop-i-preserved : goal.loop-i-preserved
loop-i-preserved c =
    (search rules, values_more _ _ _ c.value_limit-most.ensures.0 _ _ _ c.loop-i.invariant.1 c.start_at.ensures.0 c.start_at-in-loop-i.ensures.0 c.if-start_at-most.false)

pub returns : goal.returns
returns c = search (values_done, rules)
