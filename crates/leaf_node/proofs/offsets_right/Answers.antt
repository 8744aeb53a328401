-- `leaf_node::offsets_right` meets its contract: the offsets seen so far are right, and `low` is what the next must reach.
-- Assumes nothing.
use Rattle.std.proofs.Common.{rules}
use Rattle.leaf_node.proofs.Rules.{offsets_low, offsets_past, offsets_done}
use Rattle.leaf_node.proofs.offsets_right.Goals as goal

pub returns-then-offset-low : goal.returns-then-offset-low
returns-then-offset-low c = search (offsets_low, rules)

pub returns-then-page-offset : goal.returns-then-page-offset
returns-then-page-offset c = search (offsets_past, rules)

pub returns : goal.returns
returns c = search (offsets_done, rules)
