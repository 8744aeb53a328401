-- `leaf_ingest::keep_up_to` meets its contract.
-- Assumes nothing.
use Rattle.std.proofs.Common.{rules}
use Rattle.leaf_ingest.proofs.Keeping.{an_end_keeps_nothing, a_found_key_is_no_earlier, a_found_key_is_there, an_equal_record_is_dropped, an_absent_key_is_no_earlier, an_absent_key_is_within, no_record_is_dropped}
use Rattle.leaf_ingest.proofs.keep_up_to.Goals as goal

pub returns-then-node-low : goal.returns-then-node-low
returns-then-node-low c = search (an_end_keeps_nothing, rules)

pub kept_at-requires : goal.kept_at-requires
kept_at-requires c = (search (a_found_key_is_no_earlier, rules), search (a_found_key_is_there, rules))

pub kept_at-requires-in-Err : goal.kept_at-requires-in-Err
kept_at-requires-in-Err c = (search (an_absent_key_is_no_earlier, rules), search (an_absent_key_is_within, rules))

pub returns-in-Ok : goal.returns-in-Ok
returns-in-Ok c = search (an_equal_record_is_dropped, rules)

pub returns-in-Err : goal.returns-in-Err
returns-in-Err c = search (no_record_is_dropped, rules)
