-- `melt_sheet::weigh_row` meets its contract. The invariant: `s` is the scale after the first `i` leaves.
-- Assumes nothing.
use Rattle.melt_sheet.proofs.Rows.{AfterLeaves}
use Rattle.melt_sheet.proofs.weigh_row.Given as goal

abbrev pub invariant-loop-i : goal.invariant-loop-i
invariant-loop-i l = AfterLeaves l.fn.size.bytes l.pages l.separators l.tree l.s l.i
