-- `row_changes::values_there` meets its contract.
-- Assumes nothing.
use Rattle.std.proofs.Common.{◌∙◌}
use Rattle.row_changes.proofs.Loops.{values_are_there}
use Rattle.row_changes.proofs.values_there.Goals as goal

pub returns : goal.returns
returns c = c.within.ensures ∙ values_are_there _ _
