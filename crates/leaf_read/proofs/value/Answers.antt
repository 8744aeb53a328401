-- `leaf_read::value` meets its contract.
-- Assumes nothing.
use Rattle.std.proofs.Common.{rules}
use Rattle.refusal.proofs.Refused.{refused, passed_on}
use Rattle.leaf_read.proofs.Answers.{value_refused, value_given}
use Rattle.leaf_read.proofs.value.Goals as goal

pub returns-in_err-node-clause-value : goal.returns-in_err-node-clause-value
returns-in_err-node-clause-value c = rw (passed_on _ _ c.from_residual.ensures) (search (value_refused, refused, rules))

pub returns-clause-value : goal.returns-clause-value
returns-clause-value c = search (value_given, rules)
