use Rattle.overflow_read.proofs.Joining.{Taken}
use Rattle.overflow_read.proofs.take_numbers.Given as goal

abbrev pub invariant-loop-j : goal.invariant-loop-j
invariant-loop-j l = Taken l.bytes l.from l.count l.at l.initial.out l.out l.j
