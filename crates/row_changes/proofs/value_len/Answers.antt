-- `row_changes::value_len` meets its contract.
-- Assumes nothing.
use Rattle.std.proofs.Common.{arith, ◌∙◌}
use Rattle.row_changes.proofs.Entries.{a_value_is_alone}
use Rattle.row_changes.proofs.value_len.Goals as goal

pub returns : goal.returns
returns c = (c.size_with.ensures.0 ∙ a_value_is_alone _, omega (arith, c.size_with.ensures.1))
