-- `digest_give::give_leaf` meets its contract.
use Rattle.std.proofs.Common.{rules}
use Rattle.leaf_work.specs.Lent.{cutoff_of}
use Rattle.leaf_work.specs.Tests.{lent_key}
use Rattle.leaf_cut.specs.Records.{span_of}
use Rattle.leaf_give.proofs.OneLeaf.{a_ticket_can_be_given}
use Rattle.digest_give.proofs.OneLeaf.{the_page_has_the_last_key, a_leaf_and_its_ticket_are_given}
use Rattle.digest_give.proofs.give_leaf.Goals as goal

pub give_ticket_by_page-requires : goal.give_ticket_by_page-requires
give_ticket_by_page-requires c =
    let a = c.args in
    let q = a.pending in (
      a_ticket_can_be_given a.size.bytes q.list.now q.store.now q.node.page.now (span_of q.work.now) a.p a.taken.end.leaf a.taken.at _ _ c.requires (search rules),
      the_page_has_the_last_key a.size.bytes q.list.now q.store.now q.node.page.now (span_of q.work.now) a.p a.taken.end.leaf a.taken.at a.area.now a.tickets.now c.requires
          c.build_leaf.new.d c.build_leaf.ensures _,
    )

pub returns : goal.returns
returns c =
    let a = c.args in
    let q = a.pending in
    let given = c.give_ticket_by_page in
    a_leaf_and_its_ticket_are_given a.size.bytes q.list.now q.store.now q.node.page.now (span_of q.work.now) a.p a.taken.end.leaf a.taken.at a.area.now a.tickets.now c.requires c.build_leaf.new.d
    c.build_leaf.ensures (cutoff_of q.work.now) (lent_key c.next_key-next.result) given.result given.new.tickets c.next_key-next.ensures given.ensures.0 (rw c.cutoff-cutoff.ensures at given.ensures.1)
