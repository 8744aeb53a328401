-- `leaf_builder::number_of` meets its contract.
-- Assumes nothing.
use Rattle.std.proofs.Common.{rules}
use Rattle.leaf_builder.proofs.Writing.{number_flagged, number_plain}
use Rattle.leaf_builder.proofs.number_of.Goals as goal

pub returns-then-flag : goal.returns-then-flag
returns-then-flag c = (search (number_flagged, rules), search rules)

pub returns-else-flag : goal.returns-else-flag
returns-else-flag c = (search (number_plain, rules), search rules)
