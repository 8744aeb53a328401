use Rattle.std.proofs.Common.{rules}
use Rattle.overflow.proofs.Numbers.{four_bytes_are_read}
use Rattle.overflow.proofs.number_in.Goals as goal

pub returns : goal.returns
returns c = search (four_bytes_are_read, rules)
