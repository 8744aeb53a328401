-- `row_leaf::digest_leaf` meets its contract.
use Rattle.std.proofs.Common.{◌<◌, length, rules}
use Rattle.row_leaf.proofs.Digests.{it_can_be_digested, its_leaves_can_be_linked, its_leaves_are_given}
use Rattle.row_leaf.proofs.digest_leaf.Goals as goal

pub digest_ready-given-requires : goal.digest_ready-given-requires
digest_ready-given-requires c =
    it_can_be_digested _ _ _ _ _ _ _ c.requires _ c.area_from-from.ensures _ c.no_tickets-own.ensures

pub link_given-requires : goal.link_given-requires
link_given-requires c =
    let room : length c.args.tickets.now < 18446744073709551616 = search rules in
    its_leaves_can_be_linked _ _ _ _ _ _ _ c.requires _ c.area_from-from.ensures _ _ _ _ _ _ _ c.no_tickets-own.ensures c.digest_ready-given.ensures room

pub returns : goal.returns
returns c =
    its_leaves_are_given _ _ _ _ _ _ _ c.requires _ c.area_from-from.ensures _ _ _ _ _ _ _ c.no_tickets-own.ensures c.digest_ready-given.ensures _ _ c.link_given.ensures
