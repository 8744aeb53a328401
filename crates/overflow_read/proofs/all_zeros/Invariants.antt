use Rattle.overflow_read.proofs.Checking.{Summed}
use Rattle.overflow_read.proofs.all_zeros.Given as goal

abbrev pub invariant-loop-byte : goal.invariant-loop-byte
invariant-loop-byte l = Summed l.bytes l.byte-index l.sum
