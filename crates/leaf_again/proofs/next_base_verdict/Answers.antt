-- `leaf_again::next_base_verdict` meets its contract.
-- Assumes nothing.
use Rattle.std.proofs.Common.{rules}
use Rattle.refusal.proofs.Refused.{refused, passed_on}
use Rattle.leaf_again.proofs.Again.{the_new_base_comes_first, the_work_comes_before_what_follows, then_the_page_decides, a_new_base_has_room}
use Rattle.leaf_again.proofs.next_base_verdict.Goals as goal

pub returns-in_err-base_verdict : goal.returns-in_err-base_verdict
returns-in_err-base_verdict c = rw (passed_on _ _ c.from_residual.ensures) (search (the_new_base_comes_first, refused, rules))

pub returns-in_err-closed_verdict : goal.returns-in_err-closed_verdict
returns-in_err-closed_verdict c = search (the_work_comes_before_what_follows, refused, rules)

pub follows_verdict-requires : goal.follows_verdict-requires
follows_verdict-requires c = search (a_new_base_has_room, rules)

pub returns : goal.returns
returns c = search (then_the_page_decides, rules)
