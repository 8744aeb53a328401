-- `leaf_pass::Sight::chunk_right` meets its contract.
-- Assumes nothing.
use Rattle.std.proofs.Common.{rules}
use Rattle.leaf_pass.proofs.Entries.{not_a_chunk, chunk_order, chunk_end, chunk_first, chunk_by}
use Rattle.leaf_pass.proofs.Sight.chunk_right.Goals as goal

pub returns-then-not-chunk_lies : goal.returns-then-not-chunk_lies
returns-then-not-chunk_lies c = search (not_a_chunk, rules)

pub size_between-sum-requires : goal.size_between-sum-requires
size_between-sum-requires c = (search (chunk_order, rules), search (chunk_end, rules))

pub key-requires : goal.key-requires
key-requires c = search (chunk_first, rules)

pub returns : goal.returns
returns c = search (chunk_by, rules)
