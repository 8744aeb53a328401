-- The page is filled with the records before the next entry.
use Rattle.std.proofs.Common.{◌+◌}
use Rattle.leaf_cut.specs.Records.{span_of}
use Rattle.digest_leaf.proofs.Pushing.{Upon}
use Rattle.digest_leaf.proofs.Pending.push_records.Given as goal

abbrev pub invariant-loop-entry : goal.invariant-loop-entry
invariant-loop-entry l = Upon l.self.list.now l.self.store.now l.self.node.page.now (span_of l.self.work.now) l.fn.start l.initial.d l.fn.first l.skip l.place l.d (l.fn.start.entry + l.entry-index)
