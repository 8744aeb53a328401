-- `leaf_builder::push_cell` meets its contract: key, number and value, each put at its place.
-- Assumes nothing.
use Rattle.std.proofs.Common.{rules}
use Rattle.leaf_builder.proofs.Writing.{cell_pushed}
use Rattle.leaf_builder.proofs.push_cell.Goals as goal

pub returns : goal.returns
returns c = (search (cell_pushed, rules), search rules)
