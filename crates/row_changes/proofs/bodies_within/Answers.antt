-- `row_changes::bodies_within` meets its contract.
-- Assumes nothing.
use Rattle.std.proofs.Common.{◌∙◌}
use Rattle.row_changes.proofs.Loops.{bodies_are_within}
use Rattle.row_changes.proofs.bodies_within.Goals as goal

pub returns : goal.returns
returns c = c.within.ensures ∙ bodies_are_within _ _
