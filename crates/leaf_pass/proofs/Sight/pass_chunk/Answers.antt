-- `leaf_pass::Sight::pass_chunk` meets its contract.
-- Assumes nothing.
use Rattle.std.proofs.Common.{arith, rules}
use Rattle.leaf_pass.proofs.Entries.{a_wrong_chunk, right_chunk_some, right_chunk_end, right_chunk_sum, chunk_count, right_chunk, chunk_small}
use Rattle.leaf_pass.proofs.Sight.pass_chunk.Goals as goal

pub returns-then-not-chunk_right : goal.returns-then-not-chunk_right
returns-then-not-chunk_right c = search (a_wrong_chunk, rules)

pub overflow_sub-tally : goal.overflow_sub-tally
overflow_sub-tally c = search (right_chunk_some, arith, rules)

pub overflow_add-tally-2 : goal.overflow_add-tally-2
overflow_add-tally-2 c = search (chunk_count, arith, rules)

pub overflow_add-tally-3 : goal.overflow_add-tally-3
overflow_add-tally-3 c = search (right_chunk_sum, arith, rules)

pub overflow_sub-entry : goal.overflow_sub-entry
overflow_sub-entry c = search (right_chunk_some, rules)

pub key-requires : goal.key-requires
key-requires c = search (right_chunk_some, right_chunk_end, arith, rules)

pub invariant_of-result : goal.invariant_of-result
invariant_of-result c = record { small = search (chunk_small, rules) }

pub returns : goal.returns
returns c = search (right_chunk, rules)
