-- `leaf_pending::pending_record` meets its contract. The invariant: from the next entry on the record is the one with index `left`.
-- Assumes nothing.
use Rattle.std.proofs.Common.{rules}
use Rattle.leaf_pending.proofs.Walking.{entry_has_it, entry_is_passed}
use Rattle.leaf_pending.proofs.pending_record.Goals as goal

pub returns-then-left-n : goal.returns-then-left-n
returns-then-left-n c = search (entry_has_it, rules)

pub loop-entry-preserved : goal.loop-entry-preserved
loop-entry-preserved c = search (entry_is_passed, rules)
