-- `leaf_check::is_sound` meets its contract.
-- Assumes nothing.
use Rattle.std.proofs.Common.{rules}
use Rattle.leaf_check.proofs.Sounds.{wrong_record, not_within, not_clear, the_entries_decide}
use Rattle.leaf_check.proofs.is_sound.Goals as goal

pub returns-then-not-record_right : goal.returns-then-not-record_right
returns-then-not-record_right c = search (wrong_record, rules)

pub returns-then-not-work-list : goal.returns-then-not-work-list
returns-then-not-work-list c = search (not_within, rules)

pub returns-then-not-zeros_from : goal.returns-then-not-zeros_from
returns-then-not-zeros_from c = search (not_clear, rules)

pub returns : goal.returns
returns c = search (the_entries_decide, rules)
