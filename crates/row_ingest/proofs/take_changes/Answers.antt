-- `row_ingest::take_changes` meets its contract.
-- Assumes nothing.
use Rattle.refusal.proofs.Refused.{passed_on}
use Rattle.row_ingest.proofs.Run.{the_change_is_there, one_more_is_taken, the_refusal_stays}
use Rattle.row_ingest.proofs.take_changes.Goals as goal

pub take_change-requires : goal.take_change-requires
take_change-requires c =
    let known = c.loop-change.invariant in
    the_change_is_there _ _ _ _ _ _ known.0 _ _ _ _ known.1 _ c.loop-change-test.true

pub loop-change-preserved : goal.loop-change-preserved
loop-change-preserved c =
    let known = c.loop-change.invariant in
    (known.0, one_more_is_taken _ _ _ _ _ _ known.0 _ _ _ _ known.1 _ c.loop-change-test.true _ _ _ c.in_ok-t.ensures)

pub returns-in_err-t : goal.returns-in_err-t
returns-in_err-t c =
    let known = c.loop-change.invariant in
    rw (passed_on _ _ c.from_residual.ensures) (the_refusal_stays _ _ _ _ _ _ known.0 _ _ _ _ known.1 _ c.loop-change-test.true _ _ _ c.in_err-t.ensures)
