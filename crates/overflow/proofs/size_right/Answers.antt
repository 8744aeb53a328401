use Rattle.std.proofs.Common.{rules}
use Rattle.overflow.proofs.Counts.{size_is_tested}
use Rattle.overflow.proofs.size_right.Goals as goal

pub returns : goal.returns
returns c = search (size_is_tested, rules)
