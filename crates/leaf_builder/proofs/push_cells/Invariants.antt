-- `leaf_builder::push_cells` meets its contract: the records before i are pushed.
-- Assumes nothing.
use mathlib.Core.Path.{◌≡◌}
use Prim.Native.Nat.{◌+◌, ◌-◌, ◌≤◌}
use lib.ListN.{length}
use Rattle.leaf_node.specs.Page.{start, records_between}
use Rattle.leaf_node.specs.Build.{pushed}
use Rattle.leaf_builder.proofs.push_cells.Given as goal

abbrev pub invariant-loop-i : goal.invariant-loop-i
invariant-loop-i l = (l.from ≤ l.i) × (l.i ≤ l.to) × (l.k ≡ l.j + (l.i - l.from)) × (l.next ≡ l.at + (start l.page l.i - start l.page l.from)) × (l.d ≡ pushed l.initial.d l.j l.at (records_between l.page l.from l.i)) × (length l.d ≡ length l.initial.d)
