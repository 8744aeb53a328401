-- What the changes before this one have come to.
use Rattle.row_ingest.specs.Taking.{ChangesThere}
use Rattle.row_ingest.proofs.Run.{TakenTo}
use Rattle.row_ingest.proofs.take_changes.Given as goal

abbrev pub invariant-loop-change : goal.invariant-loop-change
invariant-loop-change l =
    (req : ChangesThere l.fn.work l.initial.list l.initial.store l.node.page.now l.changes l.values) × TakenTo l.fn.work l.initial.list l.initial.store l.node.page.now l.changes l.values req l.t l.list l.store l.change-index
