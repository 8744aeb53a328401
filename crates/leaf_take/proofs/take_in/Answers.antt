-- `leaf_take::take_in` meets its contract.
-- Assumes nothing.
use Rattle.std.proofs.Common.{rules}
use Rattle.refusal.proofs.Refused.{refused, passed_on}
use Rattle.leaf_ingest.proofs.Numbers.{the_key_comes_first, the_room_decides, a_fitting_value_is_short, what_is_taken_up_is_small, what_is_taken_up_is_of_the_base}
use Rattle.leaf_take.proofs.Taking.{a_refused_ingest_leaves_all, an_accepted_ingest_leaves_its_outcome}
use Rattle.leaf_take.proofs.take_in.Goals as goal

pub returns-in_err-key_verdict : goal.returns-in_err-key_verdict
returns-in_err-key_verdict c =
    rw (passed_on _ _ c.from_residual.ensures) (a_refused_ingest_leaves_all _ _ _ _ _ _ _ _ (the_key_comes_first _ _ _ _ _ _ _ _ c.in_err-key_verdict.ensures (refused _)))

pub room_verdict-requires : goal.room_verdict-requires
room_verdict-requires c =
    let k = c.keep_up_to-kept.ensures in (
      what_is_taken_up_is_small _ _ _ _ c.requires _ _ k,
      what_is_taken_up_is_of_the_base _ _ _ _ _ c.args.node.counted.counted k,
      search (a_fitting_value_is_short, rules),
    )

pub returns-in_err-room_verdict : goal.returns-in_err-room_verdict
returns-in_err-room_verdict c =
    let room = c.of.ensures in
    let number = the_room_decides _ _ _ _ _ _ _ c.in_ok-key_verdict.ensures _ c.keep_up_to-kept.ensures _ c.args.node.counted.counted _ _ room.0 room.1 _ c.in_err-room_verdict.ensures in
    rw (passed_on _ _ c.from_residual-in_err-room_verdict.ensures) (a_refused_ingest_leaves_all _ _ _ _ _ _ _ _ number)

pub returns : goal.returns
returns c =
    let room = c.of.ensures in
    let k = c.keep_up_to-kept.ensures in
    let number = the_room_decides _ _ _ _ _ _ _ c.in_ok-key_verdict.ensures _ k _ c.args.node.counted.counted _ _ room.0 room.1 _ c.in_ok-room_verdict.ensures in
    an_accepted_ingest_leaves_its_outcome _ _ _ _ _ _ _ number _ k _ (rw (← c.reports_every.ensures) c.report_of-dropped.ensures) _ _ _ _ _ _
    c.put_entries-used.ensures c.value-value.ensures c.copy_in.ensures c.added.ensures.0 c.ingest_work.ensures
