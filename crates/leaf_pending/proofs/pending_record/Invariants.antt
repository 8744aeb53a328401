-- `leaf_pending::pending_record` meets its contract. The invariant: from the next entry on the record is the one with index `left`.
-- Assumes nothing.
use Rattle.leaf_pending.proofs.Walking.{Left}
use Rattle.leaf_pending.proofs.pending_record.Given as goal

abbrev pub invariant-loop-entry : goal.invariant-loop-entry
invariant-loop-entry l = Left l.work l.list l.node.page.now l.i l.entry-items l.entry-index l.left
