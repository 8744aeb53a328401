use Rattle.std.proofs.Common.{rules}
use Rattle.overflow_read.proofs.Joining.{the_reply_of_a_free}
use Rattle.overflow_read.proofs.free.Goals as goal

pub returns-clause-value : goal.returns-clause-value
returns-clause-value c = search (the_reply_of_a_free, rules)
