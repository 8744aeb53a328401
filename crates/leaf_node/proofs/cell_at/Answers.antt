-- `leaf_node::cell_at` meets its contract: the cell, and its fields for the callers' sums.
-- Assumes nothing.
use Rattle.std.proofs.Common.{rules}
use Rattle.leaf_node.specs.Page.{length_at}
use Rattle.leaf_node.proofs.Reading.{cell_is, flag_is}
use Rattle.leaf_node.proofs.cell_at.Goals as goal

pub returns : goal.returns
returns c = (search (cell_is, rules), search rules, search rules, unfold length_at in search rules, search (flag_is, rules))
