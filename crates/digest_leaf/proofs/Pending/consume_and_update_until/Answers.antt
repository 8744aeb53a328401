-- `digest_leaf::Pending::consume_and_update_until` meets its contract.
use Rattle.std.proofs.Common.{arith, rules, ◌≡◌, ◌+◌}
use Rattle.leaf_cut.specs.Records.{span_of}
use Rattle.digest_leaf.proofs.Used.{it_is_used, it_is_read_from_the_list, they_are_passed}
use Rattle.digest_leaf.proofs.Consuming.{a_turn_asks, the_leaf_is_cut, upon_next, upon_last}
use Rattle.digest_leaf.proofs.Pending.consume_and_update_until.Goals as goal

pub consume_entry-taken-requires : goal.consume_entry-taken-requires
consume_entry-taken-requires c =
    let a = c.args in
    let k = c.loop-entry in
    let used = it_is_used _ _ _ c.requires.0.entry_in a.self.spread.used_in _ c.loop-entry-test.true in
    let read = it_is_read_from_the_list _ _ _ c.requires.0.entry_in a.self.spread.used_in _ c.loop-entry-test.true in
    a_turn_asks a.aim a.self.list.now a.self.node.page.now (span_of a.self.work.now) a.start a.self.spread k.at k.leaf (a.start.entry + k.entry-index) k.invariant used _
    (read _) a.self.node.n a.self.node.counted.counted

pub returns-then-taken : goal.returns-then-taken
returns-then-taken c =
    let a = c.args in
    let k = c.loop-entry in
    let used = it_is_used _ _ _ c.requires.0.entry_in a.self.spread.used_in _ c.loop-entry-test.true in
    let read = it_is_read_from_the_list _ _ _ c.requires.0.entry_in a.self.spread.used_in _ c.loop-entry-test.true in
    let taken = c.consume_entry-taken in
    the_leaf_is_cut a.aim a.self.list.now a.self.node.page.now (span_of a.self.work.now) a.start a.self.spread k.at k.leaf (a.start.entry + k.entry-index) k.invariant used _
    (read _) taken.result taken.ensures.0 taken.ensures.1 c.if-taken.true

pub loop-entry-preserved : goal.loop-entry-preserved
loop-entry-preserved c =
    let a = c.args in
    let k = c.loop-entry in
    let used = it_is_used _ _ _ c.requires.0.entry_in a.self.spread.used_in _ c.loop-entry-test.true in
    let read = it_is_read_from_the_list _ _ _ c.requires.0.entry_in a.self.spread.used_in _ c.loop-entry-test.true in
    let taken = c.consume_entry-taken in
    let one_on : a.start.entry + k.entry-index + 1 ≡ a.start.entry + (k.entry-index + 1) = omega arith in
    rw one_on at (upon_next a.aim a.self.list.now a.self.node.page.now (span_of a.self.work.now) a.start a.self.spread k.at k.leaf (a.start.entry + k.entry-index) k.invariant used _
    (read _) taken.result taken.ensures.0 taken.ensures.1 (search rules))

pub returns : goal.returns
returns c =
    let a = c.args in
    let k = c.loop-entry in
    let past = they_are_passed _ _ _ c.requires.0.entry_in a.self.spread.used_in _ c.loop-entry-test.false in
    let r = c.consume_rest in
    let e = rw (c.span_of.ensures, a.self.node.counted.counted) at r.ensures.0 in
    upon_last a.aim a.self.list.now a.self.node.page.now (span_of a.self.work.now) a.start a.self.spread k.at k.leaf (a.start.entry + k.entry-index) k.invariant past r.result e (rw c.span_of.ensures at r.ensures.1)
