-- `leaf_cut::consume_entry` meets its contract.
-- Assumes nothing.
use Rattle.std.proofs.Common.{rules}
use Rattle.leaf_cut.proofs.Cursors.{a_leaf_does_not_shrink, an_insert_is_consumed, an_insert_is_passed, a_chunk_is_consumed, a_chunk_is_passed, one_record_is_taken_at_most, a_chunk_has_few_records}
use Rattle.leaf_cut.proofs.consume_entry.Goals as goal

pub overflow_sub-end : goal.overflow_sub-end
overflow_sub-end c = search (a_leaf_does_not_shrink, rules)

pub pass-requires : goal.pass-requires
pass-requires c = (search rules, search rules, search (one_record_is_taken_at_most, rules))

pub returns-then-is_insert : goal.returns-then-is_insert
returns-then-is_insert c = (search (an_insert_is_consumed, rules), search (an_insert_is_passed, rules))

pub overflow_sub-end-2 : goal.overflow_sub-end-2
overflow_sub-end-2 c = search (a_leaf_does_not_shrink, rules)

pub pass-requires-2 : goal.pass-requires-2
pass-requires-2 c = (search rules, search rules, search (a_chunk_has_few_records, rules))

pub returns : goal.returns
returns c = (search (a_chunk_is_consumed, rules), search (a_chunk_is_passed, rules))
