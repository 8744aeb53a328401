-- `leaf_node::keys_rise` meets its contract: the keys seen so far rise.
-- Assumes nothing.
use Rattle.std.proofs.Common.{rules}
use mathlib.Core.Path.{refl}
use Rattle.leaf_node.specs.Good.{all_below}
use Rattle.leaf_node.proofs.Rules.{keys_not, keys_more, keys_done}
use Rattle.leaf_node.proofs.keys_rise.Goals as goal

pub loop-i-init : goal.loop-i-init
unfolding all_below
loop-i-init c = refl

pub returns-then-not-less : goal.returns-then-not-less
returns-then-not-less c = search (keys_not, rules)

pub loop-i-preserved : goal.loop-i-preserved
loop-i-preserved c = search (keys_more, rules)

pub returns : goal.returns
returns c = search (keys_done, rules)
