-- `leaf_node::place_from` meets its contract: lo and hi bracket the place.
-- Assumes nothing.
use Prim.Native.Nat.{◌-◌}
use Rattle.leaf_node.proofs.Searches.{Bracket}
use Rattle.leaf_node.proofs.place_from.Given as goal

abbrev pub invariant-loop-lo : goal.invariant-loop-lo
invariant-loop-lo l = Bracket l.page l.n l.from l.key l.lo l.hi

abbrev pub decreases-loop-lo : goal.decreases-loop-lo
decreases-loop-lo l = l.hi - l.lo
