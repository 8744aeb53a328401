use Rattle.std.proofs.Common.{rules}
use Rattle.overflow_read.proofs.Checking.{no_byte_is_seen, the_sum_decides, one_more_byte_is_summed}
use Rattle.overflow_read.proofs.all_zeros.Goals as goal

pub loop-byte-init : goal.loop-byte-init
loop-byte-init c = search (no_byte_is_seen, rules)

pub loop-byte-preserved : goal.loop-byte-preserved
loop-byte-preserved c = search (one_more_byte_is_summed, rules)

pub returns : goal.returns
returns c = search (the_sum_decides, rules)
