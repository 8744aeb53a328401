use Rattle.std.proofs.Common.{rules}
use Rattle.overflow_read.proofs.Joining.{the_pages_have_their_numbers, all_numbers_are_freed}
use Rattle.overflow_read.proofs.delete.Goals as goal

pub take_numbers-requires-2 : goal.take_numbers-requires-2
take_numbers-requires-2 c = (search (the_pages_have_their_numbers, rules), search rules)

pub returns : goal.returns
returns c = search (all_numbers_are_freed, rules)
