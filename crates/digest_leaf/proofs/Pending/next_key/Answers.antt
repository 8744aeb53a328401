-- `digest_leaf::Pending::next_key` meets its contract.
use Rattle.std.proofs.Common.{arith}
use Rattle.leaf_cut.specs.Records.{span_of}
use Rattle.digest_leaf.proofs.Used.{it_is_in_the_list}
use Rattle.digest_leaf.proofs.Keys.{an_entry_asks, an_entrys_key_is_first, the_rests_key_is_first, no_record_is_left}
use Rattle.digest_leaf.proofs.Pending.next_key.Goals as goal

pub op_first_key-requires : goal.op_first_key-requires
op_first_key-requires c =
    let q = c.args.self in
    let e = it_is_in_the_list q.list.now c.args.at.entry _ (omega (arith, c.if-at-self.true, q.spread.used_in)) in
    an_entry_asks q.list.now q.node.page.now (span_of q.work.now) c.args.at c.if-at-self.true _ e q.spread c.requires

pub returns-then-at-self : goal.returns-then-at-self
returns-then-at-self c =
    let q = c.args.self in
    let e = it_is_in_the_list q.list.now c.args.at.entry _ (omega (arith, c.if-at-self.true, q.spread.used_in)) in
    an_entrys_key_is_first q.list.now q.node.page.now (span_of q.work.now) c.args.at c.if-at-self.true _ e _ c.op_first_key.ensures

pub returns-then-next-self : goal.returns-then-next-self
returns-then-next-self c =
    let q = c.args.self in
    the_rests_key_is_first q.list.now q.node.page.now (span_of q.work.now) c.args.at c.if-at-self.false (omega (arith, c.if-next-self.true, q.node.counted.counted)) _ c.key.ensures

pub returns : goal.returns
returns c =
    let q = c.args.self in
    no_record_is_left q.list.now q.node.page.now (span_of q.work.now) c.args.at c.if-at-self.false (omega (arith, c.if-next-self.false, q.node.counted.counted))
