use Rattle.std.proofs.Common.{rules}
use Rattle.overflow.proofs.Numbers.{one_more_is_listed, all_is_listed}
use Rattle.overflow.proofs.put_numbers.Goals as goal

pub loop-j-preserved : goal.loop-j-preserved
loop-j-preserved c = search (one_more_is_listed, rules)

pub returns : goal.returns
returns c = search (all_is_listed, rules)
