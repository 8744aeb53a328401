-- `row_changes::keys_rise` meets its contract.
-- Assumes nothing.
use Rattle.row_changes.proofs.Loops.{Compared}
use Rattle.row_changes.proofs.keys_rise.Given as goal

abbrev pub invariant-loop-i : goal.invariant-loop-i
invariant-loop-i l = Compared l.changes l.i
