-- `leaf_pass::same_key` meets its contract.
-- Assumes nothing.
use Rattle.std.proofs.Common.{rules}
use Rattle.leaf_pass.proofs.Entries.{key_numbers_decide}
use Rattle.leaf_pass.proofs.same_key.Goals as goal

pub returns : goal.returns
returns c = search (key_numbers_decide, rules)
