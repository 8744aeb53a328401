-- `leaf_node::offsets_right` meets its contract: the offsets seen so far are right, and `low` is what the next must reach.
-- Assumes nothing.
use Prim.Native.Nat.{◌-◌}
use Rattle.leaf_node.proofs.Rules.{OffsetsSeen}
use Rattle.leaf_node.proofs.offsets_right.Given as goal

abbrev pub invariant-loop-i : goal.invariant-loop-i
invariant-loop-i l = OffsetsSeen l.page l.n l.i l.low

abbrev pub decreases-loop-i : goal.decreases-loop-i
decreases-loop-i l = l.n - l.i
