-- `leaf_node::keys_rise` meets its contract: the keys seen so far rise.
-- Assumes nothing.
use mathlib.Core.Path.{◌≡◌}
use Prim.Native.Nat.{◌-◌}
use mathlib.Core.Bool.{true}
use Rattle.leaf_node.specs.Good.{all_below, key_step}
use Rattle.leaf_node.proofs.keys_rise.Given as goal

abbrev pub invariant-loop-i : goal.invariant-loop-i
invariant-loop-i l = all_below (l.i - 1) (key_step l.page) ≡ true
