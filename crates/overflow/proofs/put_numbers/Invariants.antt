use Rattle.overflow.proofs.Numbers.{Listed}
use Rattle.overflow.proofs.put_numbers.Given as goal

abbrev pub invariant-loop-j : goal.invariant-loop-j
invariant-loop-j l = Listed l.at l.numbers l.initial.out l.out l.j
