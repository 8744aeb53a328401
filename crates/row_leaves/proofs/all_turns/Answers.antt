-- `row_leaves::all_turns` meets its contract.
use Rattle.std.proofs.Common.{◌<◌, length, rules}
use Rattle.refusal.proofs.Refused.{passed_on}
use Rattle.row_leaves.proofs.Stands.{nothing_stands, the_turn_begins, the_turn_is_there, one_leaf_more, behind_the_last, with_a_refused_leaf, the_row_is_turned}
use Rattle.row_leaves.proofs.all_turns.Goals as goal

pub loop-i-init : goal.loop-i-init
loop-i-init c = (c.requires, nothing_stands _ _ _ _ _ c.requires _ c.begin_row-at.ensures)

pub turn_at-requires : goal.turn_at-requires
turn_at-requires c =
    let stands = c.loop-i.invariant in
    the_turn_begins _ _ _ _ _ stands.0 _ _ _ _ _ _ stands.1 c.loop-i-test.true

pub turn-requires : goal.turn-requires
turn-requires c =
    let stands = c.loop-i.invariant in
    let room : length c.loop-i.area < 18446744073709551616 = search rules in
    the_turn_is_there _ _ _ _ _ stands.0 _ _ _ _ _ _ stands.1 c.loop-i-test.true room _ c.turn_at.ensures

pub returns-in_err-at : goal.returns-in_err-at
returns-in_err-at c =
    let stands = c.loop-i.invariant in
    rw (passed_on _ _ c.from_residual.ensures) (the_row_is_turned _ _ _ _ _ stands.0 (with_a_refused_leaf _ _ _ _ _ _ stands.1 c.loop-i-test.true _ c.turn_at.ensures _ _ _ _ _ c.in_err-at.ensures))

pub loop-i-preserved : goal.loop-i-preserved
loop-i-preserved c =
    let stands = c.loop-i.invariant in
    (stands.0, one_leaf_more _ _ _ _ _ stands.0 _ _ _ _ _ _ stands.1 c.loop-i-test.true _ c.turn_at.ensures _ _ _ _ _ c.in_ok-at.ensures)

pub returns : goal.returns
returns c =
    let stands = c.loop-i.invariant in
    the_row_is_turned _ _ _ _ _ stands.0 (behind_the_last _ _ _ _ _ _ stands.1 c.loop-i-test.false)
