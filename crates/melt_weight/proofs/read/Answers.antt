-- `melt_weight::read` meets its contract.
-- Assumes nothing.
use Rattle.melt_weight.proofs.Reading.{a_piece, a_sprue, a_factor, no_short_weight, a_long_weight, no_weight_of_this_length}
use Rattle.std.proofs.Common.{rules}
use Rattle.melt_weight.proofs.read.Goals as goal

pub returns-then-kind-eq1 : goal.returns-then-kind-eq1
returns-then-kind-eq1 c = (search (a_piece, rules), search rules)

pub returns-then-kind-eq2 : goal.returns-then-kind-eq2
returns-then-kind-eq2 c = (search (a_sprue, rules), search rules)

pub returns-then-value-eq5 : goal.returns-then-value-eq5
returns-then-value-eq5 c = (search (no_short_weight, rules), search rules)

pub returns-then-kind-eq3 : goal.returns-then-kind-eq3
returns-then-kind-eq3 c = (search (a_factor, rules), search rules)

pub returns-then-value-eq9 : goal.returns-then-value-eq9
returns-then-value-eq9 c = (search (a_long_weight, rules), search rules)

pub returns : goal.returns
returns c = (search (no_weight_of_this_length, rules), search rules)
