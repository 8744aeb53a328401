-- `leaf_cut::try_split_keep_chunk` meets its contract. The invariant: from record i on the leaf ends where it does from the start.
-- Assumes nothing.
use Rattle.std.proofs.Common.{rules}
use Rattle.leaf_cut.proofs.Ending.{the_chunk_is_taken, the_leaf_ends_before, the_leaf_ends_behind, the_leaf_ends_later}
use Rattle.leaf_cut.proofs.try_split_keep_chunk.Goals as goal

pub returns-then-aim-body : goal.returns-then-aim-body
returns-then-aim-body c = search (the_leaf_ends_before, rules)

pub returns-then-aim-body-2 : goal.returns-then-aim-body-2
returns-then-aim-body-2 c = search (the_leaf_ends_behind, rules)

pub loop-i-preserved : goal.loop-i-preserved
loop-i-preserved c = (search rules, search (the_leaf_ends_later, rules))

pub returns : goal.returns
returns c = search (the_chunk_is_taken, rules)
