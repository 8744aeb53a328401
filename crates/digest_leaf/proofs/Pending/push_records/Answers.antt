-- `digest_leaf::Pending::push_records` meets its contract.
use Rattle.std.proofs.Common.{arith, ◌≡◌, ◌+◌}
use Rattle.leaf_cut.specs.Records.{span_of}
use Rattle.digest_leaf.proofs.Used.{it_is_used, it_is_read_from_the_list, they_are_passed}
use Rattle.digest_leaf.proofs.Pushing.{the_page_is_full, a_turn_asks, upon_next, the_rest_asks, upon_last}
use Rattle.digest_leaf.proofs.Pending.push_records.Goals as goal

pub returns-then-place-eq0 : goal.returns-then-place-eq0
returns-then-place-eq0 c =
    let q = c.args.self in
    let k = c.loop-entry in
    the_page_is_full q.list.now q.store.now q.node.page.now (span_of q.work.now) c.args.start c.args.d.now c.args.first c.requires k.skip k.place k.d (c.args.start.entry + k.entry-index) k.invariant c.if-place-eq0.true

pub push_entry-place-requires : goal.push_entry-place-requires
push_entry-place-requires c =
    let q = c.args.self in
    let k = c.loop-entry in
    let used = it_is_used _ _ _ c.requires.there.entry_in q.spread.used_in _ c.loop-entry-test.true in
    let read = it_is_read_from_the_list _ _ _ c.requires.there.entry_in q.spread.used_in _ c.loop-entry-test.true in
    a_turn_asks q.list.now q.store.now q.node.page.now (span_of q.work.now) c.args.start c.args.d.now c.args.first c.requires k.skip k.place k.d (c.args.start.entry + k.entry-index) k.invariant (omega (arith, c.if-place-eq0.false)) used _
    (read _)

pub loop-entry-preserved : goal.loop-entry-preserved
loop-entry-preserved c =
    let q = c.args.self in
    let k = c.loop-entry in
    let used = it_is_used _ _ _ c.requires.there.entry_in q.spread.used_in _ c.loop-entry-test.true in
    let read = it_is_read_from_the_list _ _ _ c.requires.there.entry_in q.spread.used_in _ c.loop-entry-test.true in
    let part = c.push_entry-place in
    let one_on : c.args.start.entry + k.entry-index + 1 ≡ c.args.start.entry + (k.entry-index + 1) = omega arith in
    rw one_on at (upon_next q.list.now q.store.now q.node.page.now (span_of q.work.now) c.args.start c.args.d.now c.args.first c.requires k.skip k.place k.d (c.args.start.entry + k.entry-index) k.invariant (omega (arith, c.if-place-eq0.false)) used _
    (read _) part.result part.new.d part.ensures)

pub push_range-requires : goal.push_range-requires
push_range-requires c =
    let q = c.args.self in
    let k = c.loop-entry in
    let past = they_are_passed _ _ _ c.requires.there.entry_in q.spread.used_in _ c.loop-entry-test.false in
    rw q.node.counted.counted (the_rest_asks q.list.now q.store.now q.node.page.now (span_of q.work.now) c.args.start c.args.d.now c.args.first c.requires k.skip k.place k.d (c.args.start.entry + k.entry-index) k.invariant (omega (arith, c.if-place-ne0.true)) past)

pub returns-then-place-ne0 : goal.returns-then-place-ne0
returns-then-place-ne0 c =
    let q = c.args.self in
    let k = c.loop-entry in
    let past = they_are_passed _ _ _ c.requires.there.entry_in q.spread.used_in _ c.loop-entry-test.false in
    let e = rw q.node.counted.counted at c.push_range.ensures.0 in
    upon_last q.list.now q.store.now q.node.page.now (span_of q.work.now) c.args.start c.args.d.now c.args.first c.requires k.skip k.place k.d (c.args.start.entry + k.entry-index) k.invariant (omega (arith, c.if-place-ne0.true)) past c.push_range.new.d e

pub returns-else-place-ne0 : goal.returns-else-place-ne0
returns-else-place-ne0 c =
    let q = c.args.self in
    let k = c.loop-entry in
    the_page_is_full q.list.now q.store.now q.node.page.now (span_of q.work.now) c.args.start c.args.d.now c.args.first c.requires k.skip k.place k.d (c.args.start.entry + k.entry-index) k.invariant (omega (arith, c.if-place-ne0.false))
