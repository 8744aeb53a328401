-- `digest_leaves::try_build_leaves` meets its contract.
use Rattle.std.proofs.Common.{arith}
use Rattle.leaf_give.proofs.OneLeaf.{few_leaves_are_given}
use Rattle.leaf_give.proofs.LeafByLeaf.{the_first_leaf_can_be_sought, cutting_begins, no_leaf_is_left_to_cut, a_leaf_can_be_given, the_next_leaf_can_be_sought, cutting_goes_on}
use Rattle.digest_leaves.proofs.try_build_leaves.Goals as goal

pub consume_and_update_until-t-requires : goal.consume_and_update_until-t-requires
consume_and_update_until-t-requires c =
    let a = c.args in
    rw c.body_limit-limit.ensures.0 (the_first_leaf_can_be_sought a.size.bytes a.pending.work.now a.pending.list.now a.pending.store.now a.pending.node.page.now a.area.now a.tickets.now c.requires.gives a.target c.requires.target_is a.start c.requires.begun)

pub loop-t-init : goal.loop-t-init
loop-t-init c =
    let a = c.args in
    let t = c.consume_and_update_until-t in
    let l = rw c.body_limit-limit.ensures.0 at t.ensures in
    cutting_begins a.size.bytes a.pending.work.now a.pending.list.now a.pending.store.now a.pending.node.page.now a.area.now a.tickets.now c.requires.gives a.target c.requires.target_is a.start c.requires.begun t.result l

pub give_leaf-p-requires : goal.give_leaf-p-requires
give_leaf-p-requires c =
    let a = c.args in
    let k = c.loop-t in
    (a_leaf_can_be_given a.size.bytes a.pending.work.now a.pending.list.now a.pending.store.now a.pending.node.page.now a.area.now a.tickets.now c.requires.gives a.target c.requires.target_is k.p k.area k.tickets k.t k.invariant c.loop-t-test.true)

pub consume_and_update_until-t-requires-in-loop-t : goal.consume_and_update_until-t-requires-in-loop-t
consume_and_update_until-t-requires-in-loop-t c =
    let a = c.args in
    let k = c.loop-t in
    let given = c.give_leaf-p in
    let m = given.ensures in
    rw c.body_limit-limit.ensures.0 (the_next_leaf_can_be_sought a.size.bytes a.pending.work.now a.pending.list.now a.pending.store.now a.pending.node.page.now a.area.now a.tickets.now c.requires.gives a.target c.requires.target_is k.p k.area k.tickets k.t k.invariant c.loop-t-test.true given.result given.new.area given.new.tickets m)

pub loop-t-preserved : goal.loop-t-preserved
loop-t-preserved c =
    let a = c.args in
    let k = c.loop-t in
    let given = c.give_leaf-p in
    let m = given.ensures in
    let t = c.consume_and_update_until-t-in-loop-t in
    let l = rw c.body_limit-limit.ensures.0 at t.ensures in
    cutting_goes_on a.size.bytes a.pending.work.now a.pending.list.now a.pending.store.now a.pending.node.page.now a.area.now a.tickets.now c.requires.gives a.target c.requires.target_is k.p k.area k.tickets k.t k.invariant c.loop-t-test.true given.result given.new.area given.new.tickets m t.result l

pub loop-t-smaller : goal.loop-t-smaller
loop-t-smaller c =
    let a = c.args in
    let k = c.loop-t in
    let there = a_leaf_can_be_given a.size.bytes a.pending.work.now a.pending.list.now a.pending.store.now a.pending.node.page.now a.area.now a.tickets.now c.requires.gives a.target c.requires.target_is k.p k.area k.tickets k.t k.invariant c.loop-t-test.true in
    omega (arith, few_leaves_are_given _ _ _ _ _ _ _ _ _ _ there, c.give_leaf-p.ensures.leaves_are, k.auto.area)

pub returns : goal.returns
returns c =
    let a = c.args in
    let k = c.loop-t in
    no_leaf_is_left_to_cut a.size.bytes a.pending.work.now a.pending.list.now a.pending.store.now a.pending.node.page.now a.area.now a.tickets.now c.requires.gives a.target c.requires.target_is k.p k.area k.tickets k.t k.invariant c.loop-t-test.false
