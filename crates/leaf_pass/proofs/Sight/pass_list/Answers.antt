-- `leaf_pass::Sight::pass_list` meets its contract.
-- Assumes nothing.
use Rattle.std.proofs.Common.{rules}
use Rattle.leaf_pass.proofs.Behind.{a_wrong_used_one, the_others_decide}
use Rattle.leaf_pass.proofs.Sight.pass_list.Goals as goal

pub returns-in_err-pass : goal.returns-in_err-pass
returns-in_err-pass c = search (a_wrong_used_one, rules)

pub returns : goal.returns
returns c = search (the_others_decide, c.in_ok-pass.was, rules)
