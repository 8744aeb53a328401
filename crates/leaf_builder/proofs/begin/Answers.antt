-- `leaf_builder::begin` meets its contract.
-- Assumes nothing.
use Rattle.std.proofs.Common.{rules}
use Rattle.leaf_builder.proofs.Writing.{begun}
use Rattle.leaf_builder.proofs.begin.Goals as goal

pub returns : goal.returns
returns c = (search (begun, rules), search rules)
