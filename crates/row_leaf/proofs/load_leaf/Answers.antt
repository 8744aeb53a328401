-- `row_leaf::load_leaf` meets its contract.
use Rattle.refusal.proofs.Refused.{passed_on}
use Rattle.row_leaf.proofs.Loads.{the_base_is_there, it_can_begin, what_waits_has_no_room, its_changes_are_there, its_changes_have_no_room, it_can_be_given, a_leaf_is_loaded}
use Rattle.row_leaf.proofs.load_leaf.Goals as goal

pub base_of-node-requires : goal.base_of-node-requires
base_of-node-requires c = the_base_is_there _ _ _ _ _ _ _ _ _ _ c.requires

pub begin_leaf-requires : goal.begin_leaf-requires
begin_leaf-requires c = rw (c.base_of-node.ensures, c.of.ensures.0, c.of.ensures.1) (it_can_begin _ _ _ _ _ _ _ _ _ _ c.requires)

pub returns-in_err-begun : goal.returns-in_err-begun
returns-in_err-begun c =
    rw (passed_on _ _ c.from_residual.ensures) (what_waits_has_no_room _ _ _ _ _ _ _ _ _ _ c.requires _ (rw (c.base_of-node.ensures, c.of.ensures.0, c.of.ensures.1) at c.in_err-begun.ensures))

pub take_changes-requires : goal.take_changes-requires
take_changes-requires c =
    let node = c.base_of-node.ensures in
    let room = c.of.ensures in
    rw node (its_changes_are_there _ _ _ _ _ _ _ _ _ _ c.requires _ (rw (node, room.0, room.1) at c.in_ok-begun.ensures))

pub returns-in_err-taken : goal.returns-in_err-taken
returns-in_err-taken c =
    let node = c.base_of-node.ensures in
    let room = c.of.ensures in
    rw (passed_on _ _ c.from_residual-in_err-taken.ensures) (its_changes_have_no_room _ _ _ _ _ _ _ _ _ _ c.requires _ (rw (node, room.0, room.1) at c.in_ok-begun.ensures) _ _ _ (rw node at c.in_err-taken.ensures))

pub digest_leaf-requires : goal.digest_leaf-requires
digest_leaf-requires c =
    let node = c.base_of-node.ensures in
    let room = c.of.ensures in
    rw node (it_can_be_given _ _ _ _ _ _ _ _ _ _ c.requires _ (rw (node, room.0, room.1) at c.in_ok-begun.ensures) _ _ _ (rw node at c.in_ok-taken.ensures))

pub returns : goal.returns
returns c =
    let node = c.base_of-node.ensures in
    let room = c.of.ensures in
    a_leaf_is_loaded _ _ _ _ _ _ _ _ _ _ c.requires _ (rw (node, room.0, room.1) at c.in_ok-begun.ensures) _ _ _ (rw node at c.in_ok-taken.ensures) _ _ _ _ _ (rw node at c.digest_leaf.ensures)
