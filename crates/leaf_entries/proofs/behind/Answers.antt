-- `leaf_entries::behind` meets its contract.
-- Assumes nothing.
use Rattle.std.proofs.Common.{rules}
use Rattle.leaf_entries.proofs.Splitting.{an_insert_stays_whole, an_empty_chunk_stays_whole, a_shorter_chunk_stays_whole, a_chunk_is_split}
use Rattle.leaf_entries.proofs.behind.Goals as goal

pub returns-then-is_insert : goal.returns-then-is_insert
returns-then-is_insert c = search (an_insert_stays_whole, rules)

pub returns-then-entry : goal.returns-then-entry
returns-then-entry c = search (an_empty_chunk_stays_whole, rules)

pub returns-then-entry-skip : goal.returns-then-entry-skip
returns-then-entry-skip c = search (a_shorter_chunk_stays_whole, rules)

pub returns : goal.returns
returns c = search (a_chunk_is_split, rules)
