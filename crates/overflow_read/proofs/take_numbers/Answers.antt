use Rattle.std.proofs.Common.{rules}
use Rattle.overflow_read.proofs.Joining.{no_number_is_taken, all_numbers_are_taken, one_more_number_is_taken}
use Rattle.overflow_read.proofs.take_numbers.Goals as goal

pub loop-j-init : goal.loop-j-init
loop-j-init c = search (no_number_is_taken, rules)

pub loop-j-preserved : goal.loop-j-preserved
loop-j-preserved c = search (one_more_number_is_taken, rules)

pub returns : goal.returns
returns c = search (all_numbers_are_taken, rules)
