use Rattle.overflow_read.proofs.Checking.{Passed}
use Prim.Native.Nat.{◌-◌}
use Rattle.overflow_read.proofs.pages_right.Given as goal

abbrev pub invariant-loop-i : goal.invariant-loop-i
invariant-loop-i l = Passed l.pages l.i-end (l.i-end - 15) l.fn.cell.size l.numbers l.bytes l.i
