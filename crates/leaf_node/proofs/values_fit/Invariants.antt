-- `leaf_node::values_fit` meets its contract: the values seen so far fit.
-- Assumes nothing.
use mathlib.Core.Path.{◌≡◌}
use Prim.Native.Nat.{◌-◌, ◌≤◌}
use mathlib.Core.Bool.{true}
use Rattle.leaf_node.specs.Good.{all_below, value_fits}
use Rattle.leaf_node.proofs.values_fit.Given as goal

abbrev pub invariant-loop-i : goal.invariant-loop-i
invariant-loop-i l = (l.i ≤ l.n) × (all_below l.i (value_fits l.fn.size.bytes l.page) ≡ true)

abbrev pub decreases-loop-i : goal.decreases-loop-i
decreases-loop-i l = l.n - l.i
