-- `leaf_read::key` meets its contract.
-- Assumes nothing.
use Rattle.std.proofs.Common.{rules}
use Rattle.refusal.proofs.Refused.{refused, passed_on}
use Rattle.leaf_read.proofs.Answers.{key_refused, key_given}
use Rattle.leaf_read.proofs.key.Goals as goal

pub returns-in_err-node : goal.returns-in_err-node
returns-in_err-node c = rw (passed_on _ _ c.from_residual.ensures) (search (key_refused, refused, rules))

pub returns : goal.returns
returns c = search (key_given, rules)
