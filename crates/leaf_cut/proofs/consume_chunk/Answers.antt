-- `leaf_cut::consume_chunk` meets its contract.
-- Assumes nothing.
use Rattle.std.proofs.Common.{rules}
use Rattle.leaf_cut.proofs.Ending.{a_chunk_below_the_target_is_taken}
use Rattle.leaf_cut.proofs.consume_chunk.Goals as goal

pub returns-then-body-aim : goal.returns-then-body-aim
returns-then-body-aim c = search (a_chunk_below_the_target_is_taken, rules)
