-- `melt_weight::long_weight` meets its contract.
-- Assumes nothing.
use Rattle.melt_weight.proofs.Reading.{a_heavy_weight_is_none, a_long_piece, a_long_sprue, neither_piece_nor_sprue}
use Rattle.std.proofs.Common.{rules}
use Rattle.melt_weight.proofs.long_weight.Goals as goal

pub returns-then-wax-gt-MOST_WAX : goal.returns-then-wax-gt-MOST_WAX
returns-then-wax-gt-MOST_WAX c = (search (a_heavy_weight_is_none, rules), search rules)

pub returns-then-kind-eq4 : goal.returns-then-kind-eq4
returns-then-kind-eq4 c = (search (a_long_piece, rules), search rules)

pub returns-then-kind-eq5 : goal.returns-then-kind-eq5
returns-then-kind-eq5 c = (search (a_long_sprue, rules), search rules)

pub returns : goal.returns
returns c = (search (neither_piece_nor_sprue, rules), search rules)
