-- `leaf_open::open_verdict` meets its contract.
-- Assumes nothing.
use Rattle.std.proofs.Common.{rules}
use Rattle.refusal.proofs.Refused.{refused}
use Rattle.leaf_open.proofs.Openings.{the_base_comes_first, wrong_room_has_number_7, right_room_is_accepted}
use Rattle.leaf_open.proofs.open_verdict.Goals as goal

pub returns-in_err-open_base_verdict : goal.returns-in_err-open_base_verdict
returns-in_err-open_base_verdict c = search (the_base_comes_first, refused, rules)

pub returns-then-not-room_right : goal.returns-then-not-room_right
returns-then-not-room_right c = search (wrong_room_has_number_7, rules)

pub returns : goal.returns
returns c = search (right_room_is_accepted, rules)
