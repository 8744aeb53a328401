use Rattle.std.proofs.Common.{rules}
use Rattle.overflow.proofs.Numbers.{four_bytes_are_written}
use Rattle.overflow.proofs.put_number.Goals as goal

pub returns : goal.returns
returns c = search (four_bytes_are_written, rules)
