-- `leaf_read::with_record` meets its contract.
-- Assumes nothing.
use Rattle.std.proofs.Common.{rules}
use Rattle.refusal.proofs.Refused.{refused}
use Rattle.leaf_read.proofs.Answers.{index_page, index_none, index_some}
use Rattle.leaf_read.proofs.with_record.Goals as goal

pub returns-in_err-node-clause-number : goal.returns-in_err-node-clause-number
returns-in_err-node-clause-number c = search (index_page, refused, rules)

pub returns-then-node-i-clause-number : goal.returns-then-node-i-clause-number
returns-then-node-i-clause-number c = search (index_none, rules)

pub returns-clause-number : goal.returns-clause-number
returns-clause-number c = search (index_some, rules)
