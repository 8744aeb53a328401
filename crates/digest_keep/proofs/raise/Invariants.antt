-- The last `i` parts are raised.
use Rattle.std.proofs.Common.{◌+◌, ◌-◌, refl}
use Rattle.leaf_merge.specs.Lifting.{Raises}
use Rattle.digest_keep.proofs.Parts.{PartsRaised}
use Rattle.digest_keep.proofs.raise.Given as goal

abbrev pub invariant-loop-i : goal.invariant-loop-i
invariant-loop-i l =
    (req : Raises l.fn.list l.fn.store l.node.page.now l.span l.at l.fn.start.to l.fn.start.entry) × PartsRaised l.fn.list l.fn.store l.node.page.now l.span l.at l.fn.start.to l.fn.start.entry req (l.span.used + 1 - l.at.entry) refl l.list l.store l.top l.i
