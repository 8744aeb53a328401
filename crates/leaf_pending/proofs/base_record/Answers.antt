-- `leaf_pending::base_record` meets its contract: its cell and its key.
-- Assumes nothing.
use Rattle.std.proofs.Common.{rules}
use Rattle.leaf_pending.proofs.Walking.{base_record_is}
use Rattle.leaf_pending.proofs.base_record.Goals as goal

pub returns : goal.returns
returns c = search (base_record_is, rules)
