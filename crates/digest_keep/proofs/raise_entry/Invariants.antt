-- The last `i` records are raised.
use Rattle.std.proofs.Common.{refl}
use Rattle.leaf_work.specs.Pending.{records_in}
use Rattle.digest_keep.specs.Lifting.{Raisable}
use Rattle.digest_keep.proofs.Entries.{EntryRaised}
use Rattle.digest_keep.proofs.raise_entry.Given as goal

abbrev pub invariant-loop-i : goal.invariant-loop-i
invariant-loop-i l = (req : Raisable l.fn.list l.fn.store l.node.page.now l.part l.fn.start) × EntryRaised l.fn.list l.fn.store l.node.page.now l.part l.fn.start req (records_in l.part) refl l.list l.store l.top l.i
