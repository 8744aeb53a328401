-- Before a turn: what was given out, the leaf that was sought behind it, area and tickets. Each leaf has a page in the area.
use Rattle.std.proofs.Common.{◌-◌, length}
use Rattle.leaf_give.proofs.LeafByLeaf.{Cutting}
use Rattle.digest_leaves.proofs.try_build_leaves.Given as goal

abbrev pub invariant-loop-t : goal.invariant-loop-t
invariant-loop-t l = Cutting l.size.bytes l.pending.work.now l.pending.list.now l.pending.store.now l.pending.node.page.now l.initial.area l.initial.tickets l.target l.p l.area l.tickets l.t

abbrev pub decreases-loop-t : goal.decreases-loop-t
decreases-loop-t l = length l.initial.area - l.p.leaves
