-- `leaf_node::copy_in` meets its contract: after j turns the first j bytes are copied.
-- Assumes nothing.
use mathlib.Core.Path.{◌≡◌}
use Prim.Native.Nat.{◌≤◌}
use lib.ListN.{length}
use lib.Seq.{paste}
use Rattle.leaf_node.proofs.copy_in.Given as goal

abbrev pub invariant-loop-j : goal.invariant-loop-j
invariant-loop-j l = (l.j ≤ length l.src) × (l.dst ≡ paste l.initial.dst l.at l.src l.j) × (length l.dst ≡ length l.initial.dst)
