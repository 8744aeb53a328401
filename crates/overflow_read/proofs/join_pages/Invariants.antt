use Rattle.overflow_read.proofs.Joining.{Joined}
use Rattle.overflow_read.proofs.join_pages.Given as goal

abbrev pub invariant-loop-i : goal.invariant-loop-i
invariant-loop-i l = Joined l.pages l.i-end l.fn.cell.size l.initial.value l.value l.i l.numbers l.bytes l.from
