use Rattle.std.proofs.Common.{rules}
use Rattle.overflow.proofs.Cells.{a_short_cell_is_wrong, a_cell_of_a_wrong_size_is_wrong, a_cell_of_another_length_is_wrong, a_right_cell_is_read}
use Rattle.overflow.proofs.decode_cell.Goals as goal

pub returns-then-cell-lt44 : goal.returns-then-cell-lt44
returns-then-cell-lt44 c = search (a_short_cell_is_wrong, rules)

pub returns-in_default : goal.returns-in_default
returns-in_default c = search (a_cell_of_a_wrong_size_is_wrong, c.in_default.ensures.number, rules)

pub returns-then-cell-in_cell : goal.returns-then-cell-in_cell
returns-then-cell-in_cell c = search (a_cell_of_another_length_is_wrong, c.in-Ok.ensures.number, c.in-Ok.ensures.count, rules)

pub returns : goal.returns
returns c = search (a_right_cell_is_read, c.in-Ok.ensures.number, c.in-Ok.ensures.count, rules)
