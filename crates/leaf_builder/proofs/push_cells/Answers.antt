-- `leaf_builder::push_cells` meets its contract: the records before i are pushed.
-- Assumes nothing.
use Rattle.std.proofs.Common.{rules}
use mathlib.Core.Path.{refl}
use Rattle.leaf_builder.proofs.Writing.{cells_start, cells_one, cells_next, cells_more}
use Rattle.leaf_builder.proofs.push_cells.Goals as goal

pub loop-i-init : goal.loop-i-init
loop-i-init c = (search rules, search rules, search rules, search rules, search (cells_start, rules), refl)

pub push_record-next-requires : goal.push_record-next-requires
push_record-next-requires c = search (cells_one, rules)

pub loop-i-preserved : goal.loop-i-preserved
loop-i-preserved c = (search rules, search rules, search rules, search (cells_next, rules), search (cells_more, rules), search rules)
