-- `leaf_read::get` meets its contract.
-- Assumes nothing.
use Rattle.std.proofs.Common.{rules}
use Rattle.refusal.proofs.Refused.{refused, passed_on}
use Rattle.leaf_node.proofs.Reading.{checked_rising}
use Rattle.leaf_read.proofs.Answers.{get_refused, get_found, get_absent, found_inside}
use Rattle.leaf_read.proofs.get.Goals as goal

pub returns-in_err-node-clause-value : goal.returns-in_err-node-clause-value
returns-in_err-node-clause-value c = rw (passed_on _ _ c.from_residual.ensures) (search (get_refused, refused, rules))

pub search-requires : goal.search-requires
search-requires c = (search (checked_rising, rules), search rules)

pub cell-requires : goal.cell-requires
cell-requires c = search (found_inside, rules)

pub returns-in-Ok-clause-value : goal.returns-in-Ok-clause-value
returns-in-Ok-clause-value c = search (get_found, rules)

pub returns-in-Err-clause-value : goal.returns-in-Err-clause-value
returns-in-Err-clause-value c = search (get_absent, rules)
