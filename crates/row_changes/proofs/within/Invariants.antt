-- `row_changes::within` meets its contract.
-- Assumes nothing.
use Rattle.row_changes.specs.Tests.{size_with}
use Rattle.row_changes.proofs.Loops.{Left}
use Rattle.row_changes.proofs.within.Given as goal

abbrev pub invariant-loop-change : goal.invariant-loop-change
invariant-loop-change l = Left (size_with l.beside) l.changes l.budget l.change-index l.left
