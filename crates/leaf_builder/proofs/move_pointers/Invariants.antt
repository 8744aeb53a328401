-- `leaf_builder::move_pointers` meets its contract: after each record the pointers up to it are final, the later ones as before.
-- Assumes nothing.
use mathlib.Core.Path.{◌≡◌}
use Prim.Native.Nat.{◌+◌, ◌-◌, ◌≤◌}
use Rattle.leaf_node.specs.Page.{pointer}
use Rattle.leaf_builder.specs.Steps.{PointersUpTo}
use Rattle.leaf_builder.proofs.move_pointers.Given as goal

abbrev pub invariant-loop-i : goal.invariant-loop-i
invariant-loop-i l = (l.from ≤ l.i) × (l.i ≤ l.to) × (l.place ≡ pointer (l.j + (l.i - l.from))) × (PointersUpTo l.page l.from l.to l.j l.at l.initial.d l.i l.d)
