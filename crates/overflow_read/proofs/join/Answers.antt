use Rattle.std.proofs.Common.{rules}
use Rattle.overflow_read.proofs.Joining.{the_reply_of_a_join}
use Rattle.overflow_read.proofs.join.Goals as goal

pub returns-clause-value : goal.returns-clause-value
returns-clause-value c = search (the_reply_of_a_join, rules)
