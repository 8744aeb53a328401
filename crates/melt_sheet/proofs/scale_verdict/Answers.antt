-- `melt_sheet::scale_verdict` meets its contract.
-- Assumes nothing.
use Rattle.std.proofs.Common.{rules}
use Rattle.melt_sheet.proofs.Verdicts.{an_unknown_weight_has_number_19, other_sprues_have_number_20, other_factors_have_number_20, a_heavy_tree_has_number_24, a_right_tree_is_accepted}
use Rattle.melt_sheet.proofs.scale_verdict.Goals as goal

pub returns-then-not-s : goal.returns-then-not-s
returns-then-not-s c = search (an_unknown_weight_has_number_19, rules)

pub returns-then-s-ne1 : goal.returns-then-s-ne1
returns-then-s-ne1 c = search (other_sprues_have_number_20, rules)

pub returns-then-s-ne1-2 : goal.returns-then-s-ne1-2
returns-then-s-ne1-2 c = search (other_factors_have_number_20, rules)

pub returns-then-s-gt-MOST_WAX : goal.returns-then-s-gt-MOST_WAX
returns-then-s-gt-MOST_WAX c = search (a_heavy_tree_has_number_24, rules)

pub returns : goal.returns
returns c = search (a_right_tree_is_accepted, rules)
