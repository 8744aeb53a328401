-- `leaf_take::put_entries` meets its contract.
-- Assumes nothing.
use Rattle.std.proofs.Common.{rules}
use Rattle.leaf_take.proofs.Taking.{both_are_put}
use Rattle.leaf_take.proofs.put_entries.Goals as goal

pub returns : goal.returns
returns c = search (both_are_put, rules)
