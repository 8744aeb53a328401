-- `melt_sheet::sheet` meets its contract.
-- Assumes nothing.
use Rattle.std.proofs.Common.{rules}
use Rattle.melt_sheet.proofs.Verdicts.{a_refusal_has_its_number_alone}
use Rattle.melt_sheet.proofs.sheet.Goals as goal

pub returns-in-Ok : goal.returns-in-Ok
returns-in-Ok c = search (c.in-Ok.ensures.sheet, rules)

pub returns-in-Err : goal.returns-in-Err
returns-in-Err c = search (a_refusal_has_its_number_alone, c.in-Err.ensures.number, rules)
