-- `leaf_node::place_from` meets its contract: lo and hi bracket the place.
-- Assumes nothing.
use Rattle.std.proofs.Common.{rules}
use Rattle.leaf_node.proofs.Searches.{bracket_up, bracket_down, bracket_end}
use Rattle.leaf_node.proofs.place_from.Goals as goal

pub loop-lo-preserved-then-less : goal.loop-lo-preserved-then-less
loop-lo-preserved-then-less c = search (bracket_up, rules)

pub loop-lo-preserved : goal.loop-lo-preserved
loop-lo-preserved c = search (bracket_down, rules)

pub returns : goal.returns
returns c = (search (bracket_end, rules), search rules)
