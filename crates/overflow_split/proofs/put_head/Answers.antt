use Rattle.std.proofs.Common.{rules}
use Rattle.overflow_split.proofs.Splitting.{a_head_is_written}
use Rattle.overflow_split.proofs.put_head.Goals as goal

pub returns : goal.returns
returns c = search (a_head_is_written, rules)
