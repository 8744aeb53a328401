use Rattle.overflow_split.proofs.Splitting.{Chunked}
use Rattle.overflow_split.proofs.chunk.Given as goal

abbrev pub invariant-loop-i : goal.invariant-loop-i
invariant-loop-i l = Chunked l.i-end l.numbers l.value l.initial.area l.area l.i l.n l.from
