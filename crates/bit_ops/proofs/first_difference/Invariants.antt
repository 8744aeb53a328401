-- `bit_ops::first_difference` meets its contract. The invariant: the words before `i` are the same in both.
-- Assumes nothing.
use mathlib.Core.Path.{◌≡◌}
use Prim.Native.Nat.{◌≤◌, ◌*◌}
use lib.ListN.{take}
use Rattle.bit_ops.proofs.first_difference.Given as goal

abbrev pub invariant-loop-i : goal.invariant-loop-i
invariant-loop-i l = (l.i ≤ 3) × (take (8 * l.i) l.a ≡ take (8 * l.i) l.b)
