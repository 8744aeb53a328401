-- `leaf_read::with_records` meets its contract.
-- Assumes nothing.
use Rattle.std.proofs.Common.{rules}
use Rattle.refusal.proofs.Refused.{refused}
use Rattle.leaf_read.proofs.Answers.{range_page, range_empty, range_long, range_there}
use Rattle.leaf_read.proofs.with_records.Goals as goal

pub returns-in_err-node-clause-number : goal.returns-in_err-node-clause-number
returns-in_err-node-clause-number c = search (range_page, refused, rules)

pub returns-then-to-from-clause-number : goal.returns-then-to-from-clause-number
returns-then-to-from-clause-number c = search (range_empty, rules)

pub returns-then-node-to-clause-number : goal.returns-then-node-to-clause-number
returns-then-node-to-clause-number c = search (range_long, rules)

pub returns-clause-number : goal.returns-clause-number
returns-clause-number c = search (range_there, rules)
