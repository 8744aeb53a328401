-- `leaf_again::follows_verdict` meets its contract.
-- Assumes nothing.
use Rattle.std.proofs.Common.{rules}
use Rattle.leaf_again.proofs.Again.{a_full_list_has_number_15, a_full_store_has_number_16, what_has_room_follows}
use Rattle.leaf_again.proofs.follows_verdict.Goals as goal

pub returns-then-room-n : goal.returns-then-room-n
returns-then-room-n c = search (a_full_list_has_number_15, rules)

pub returns-then-room-size_between : goal.returns-then-room-size_between
returns-then-room-size_between c = search (a_full_store_has_number_16, rules)

pub returns : goal.returns
returns c = search (what_has_room_follows, rules)
