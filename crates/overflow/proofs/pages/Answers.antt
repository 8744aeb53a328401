use Rattle.std.proofs.Common.{rules}
use Rattle.overflow.proofs.Counts.{the_reply_of_a_count}
use Rattle.overflow.proofs.pages.Goals as goal

pub returns : goal.returns
returns c = search (the_reply_of_a_count, rules)
