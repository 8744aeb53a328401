use Rattle.std.proofs.Common.{rules}
use Rattle.overflow.proofs.Counts.{counted_in_the_cell, counted_beyond_the_cell}
use Rattle.overflow.proofs.total_needed_pages.Goals as goal

pub returns-then-value_size-le61380 : goal.returns-then-value_size-le61380
returns-then-value_size-le61380 c = (search (counted_in_the_cell, rules), search rules)

pub returns : goal.returns
returns c = (search (counted_beyond_the_cell, rules), search rules)
