-- `row_check::leaves_verdict` meets its contract.
-- Assumes nothing.
use Rattle.refusal.specs.Numbers.{number_of}
use Rattle.row_check.proofs.Leaves.{Lowest}
use Rattle.row_check.proofs.leaves_verdict.Given as goal

abbrev pub invariant-loop-i : goal.invariant-loop-i
invariant-loop-i l = Lowest l.size.bytes l.row.pages.now l.row.separators.now (number_of l.lowest) l.i
