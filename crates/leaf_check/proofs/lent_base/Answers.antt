-- `leaf_check::lent_base` meets its contract.
-- Assumes nothing.
use Rattle.std.proofs.Common.{rules}
use Rattle.refusal.proofs.Refused.{refused}
use Rattle.leaf_check.proofs.Verdicts.{the_page_is_refused, the_room_is_refused, few_entries, few_bytes, the_work_is_refused, all_passes, the_regarded_is_good}
use Rattle.leaf_check.proofs.lent_base.Goals as goal

pub returns-in_err-node-clause-number : goal.returns-in_err-node-clause-number
returns-in_err-node-clause-number c = search (the_page_is_refused, refused, rules)

pub returns-then-not-room_right-clause-number : goal.returns-then-not-room_right-clause-number
returns-then-not-room_right-clause-number c = search (the_room_is_refused, rules)

pub is_sound-requires : goal.is_sound-requires
is_sound-requires c = (search (the_regarded_is_good, rules), search (few_entries, rules), search (few_bytes, rules))

pub returns-then-not-is_sound-clause-number : goal.returns-then-not-is_sound-clause-number
returns-then-not-is_sound-clause-number c = search (the_work_is_refused, rules)

pub returns-clause-number : goal.returns-clause-number
returns-clause-number c = search (all_passes, rules)
