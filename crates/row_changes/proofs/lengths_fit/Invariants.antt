-- `row_changes::lengths_fit` meets its contract.
-- Assumes nothing.
use Rattle.row_changes.proofs.Loops.{Tested}
use Rattle.row_changes.proofs.lengths_fit.Given as goal

abbrev pub invariant-loop-change : goal.invariant-loop-change
invariant-loop-change l = Tested l.most l.changes l.change-index
