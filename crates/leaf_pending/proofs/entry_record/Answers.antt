-- `leaf_pending::entry_record` meets its contract: an insert itself, or the record of the base that a chunk names.
-- Assumes nothing.
use Rattle.std.proofs.Common.{rules}
use Rattle.leaf_pending.proofs.Walking.{chunk_record_is_found, insert_is_found}
use Rattle.leaf_pending.proofs.entry_record.Goals as goal

pub returns-then-not-is_insert : goal.returns-then-not-is_insert
returns-then-not-is_insert c = search (chunk_record_is_found, rules)

pub returns : goal.returns
returns c = search (insert_is_found, rules)
