use Rattle.std.proofs.Common.{rules}
use Rattle.overflow.proofs.Numbers.{eight_bytes_are_read}
use Rattle.overflow.proofs.size_in.Goals as goal

pub returns : goal.returns
returns c = search (eight_bytes_are_read, rules)
