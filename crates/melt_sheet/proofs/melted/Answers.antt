-- `melt_sheet::melted` meets its contract.
-- Assumes nothing.
use Rattle.std.proofs.Common.{rules}
use Rattle.refusal.proofs.Refused.{refused, passed_on}
use Rattle.melt_sheet.proofs.Rows.{a_row_that_passes_is_right}
use Rattle.melt_sheet.proofs.Verdicts.{a_refused_row_has_its_number, the_scale_has_the_number, an_accepted_tree_has_its_sheet, the_total_is_a_float_exactly}
use Rattle.melt_sheet.proofs.melted.Goals as goal

pub returns-in_err-lent_row_verdict-clause-number : goal.returns-in_err-lent_row_verdict-clause-number
returns-in_err-lent_row_verdict-clause-number c = rw (passed_on _ _ c.from_residual.ensures) (search (a_refused_row_has_its_number, refused, c.in_err-lent_row_verdict.ensures, rules))

pub weigh_row-s-requires : goal.weigh_row-s-requires
weigh_row-s-requires c = search (a_row_that_passes_is_right, c.args.size.right, c.in_ok-lent_row_verdict.ensures, rules)

pub returns-in_err-scale_verdict-clause-number : goal.returns-in_err-scale_verdict-clause-number
returns-in_err-scale_verdict-clause-number c =
    rw (passed_on _ _ c.from_residual-in_err-scale_verdict.ensures) (search (the_scale_has_the_number, c.in_ok-lent_row_verdict.ensures, c.in_err-scale_verdict.ensures, rules))

pub melt-requires : goal.melt-requires
melt-requires c = search (the_total_is_a_float_exactly, c.in_ok-scale_verdict.ensures, rules)

pub returns-clause-number : goal.returns-clause-number
returns-clause-number c = search (the_scale_has_the_number, c.in_ok-lent_row_verdict.ensures, c.in_ok-scale_verdict.ensures, rules)

pub returns-clause-sheet : goal.returns-clause-sheet
returns-clause-sheet c = search (an_accepted_tree_has_its_sheet, c.in_ok-lent_row_verdict.ensures, c.in_ok-scale_verdict.ensures, rules)
