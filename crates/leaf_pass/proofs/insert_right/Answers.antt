-- `leaf_pass::insert_right` meets its contract.
-- Assumes nothing.
use Rattle.std.proofs.Common.{rules}
use Rattle.leaf_pass.proofs.Entries.{insert_by}
use Rattle.leaf_pass.proofs.insert_right.Goals as goal

pub returns : goal.returns
returns c = search (insert_by, rules)
