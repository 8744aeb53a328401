-- The leaf has come to the next entry.
use Rattle.std.proofs.Common.{◌+◌}
use Rattle.leaf_cut.specs.Records.{span_of}
use Rattle.digest_leaf.proofs.Consuming.{Upon}
use Rattle.digest_leaf.proofs.Pending.consume_and_update_until.Given as goal

abbrev pub invariant-loop-entry : goal.invariant-loop-entry
invariant-loop-entry l = Upon l.aim l.self.list.now l.self.node.page.now (span_of l.self.work.now) l.fn.start l.at l.leaf (l.fn.start.entry + l.entry-index)
