-- `leaf_write::put_separator` meets its contract.
-- Assumes nothing.
use Rattle.std.proofs.Common.{rules}
use Rattle.leaf_write.proofs.Tickets.{kind_and_separator}
use Rattle.leaf_write.proofs.put_separator.Goals as goal

pub returns : goal.returns
returns c = search (kind_and_separator, rules)
