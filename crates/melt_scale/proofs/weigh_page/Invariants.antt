-- `melt_scale::weigh_page` meets its contract. The invariant: `s` is the scale after the first `i` records.
-- Assumes nothing.
use Rattle.melt_scale.proofs.Records.{After}
use Rattle.melt_scale.proofs.weigh_page.Given as goal

abbrev pub invariant-loop-i : goal.invariant-loop-i
invariant-loop-i l = After l.page l.tree l.initial.s l.i-end l.s l.i
