use Rattle.std.proofs.Common.{rules}
use Rattle.overflow.proofs.Cells.{a_cell_is_written}
use Rattle.overflow.proofs.encode_cell.Goals as goal

pub returns : goal.returns
returns c = (search (a_cell_is_written, rules), search rules)
