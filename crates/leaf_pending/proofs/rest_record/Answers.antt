-- `leaf_pending::rest_record` meets its contract: found among the records behind `low`, or No. 10.
-- Assumes nothing.
use Rattle.std.proofs.Common.{rules}
use Rattle.leaf_pending.proofs.Walking.{rest_is_short, rest_record_is_found}
use Rattle.leaf_pending.proofs.rest_record.Goals as goal

pub returns-then-node-low : goal.returns-then-node-low
returns-then-node-low c = search (rest_is_short, rules)

pub returns : goal.returns
returns c = search (rest_record_is_found, rules)
