-- `leaf_cut::consume_insert` meets its contract.
-- Assumes nothing.
use Rattle.std.proofs.Common.{rules}
use Rattle.leaf_cut.proofs.Ending.{an_insert_ends_the_leaf, an_insert_is_taken}
use Rattle.leaf_cut.proofs.consume_insert.Goals as goal

pub returns-then-aim-body : goal.returns-then-aim-body
returns-then-aim-body c = search (an_insert_ends_the_leaf, rules)

pub returns : goal.returns
returns c = search (an_insert_is_taken, rules)
