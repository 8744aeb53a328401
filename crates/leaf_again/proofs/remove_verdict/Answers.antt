-- `leaf_again::remove_verdict` meets its contract.
-- Assumes nothing.
use Rattle.std.proofs.Common.{rules}
use Rattle.refusal.proofs.Refused.{refused}
use Rattle.leaf_again.proofs.Again.{the_work_comes_before_the_turn, a_work_that_does_not_wait_is_out_of_turn, a_waiting_work_is_accepted}
use Rattle.leaf_again.proofs.remove_verdict.Goals as goal

pub returns-in_err-closed_verdict : goal.returns-in_err-closed_verdict
returns-in_err-closed_verdict c = search (the_work_comes_before_the_turn, refused, rules)

pub returns-then-not-is_waiting : goal.returns-then-not-is_waiting
returns-then-not-is_waiting c = search (a_work_that_does_not_wait_is_out_of_turn, rules)

pub returns : goal.returns
returns c = search (a_waiting_work_is_accepted, rules)
