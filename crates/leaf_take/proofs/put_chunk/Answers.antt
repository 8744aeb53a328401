-- `leaf_take::put_chunk` meets its contract.
-- Assumes nothing.
use Rattle.std.proofs.Common.{rules}
use Rattle.leaf_take.proofs.Taking.{no_chunk_is_put, a_chunk_is_put}
use Rattle.leaf_take.proofs.put_chunk.Goals as goal

pub returns-then-stop-low : goal.returns-then-stop-low
returns-then-stop-low c = search (no_chunk_is_put, rules)

pub returns : goal.returns
returns c = search (a_chunk_is_put, rules)
