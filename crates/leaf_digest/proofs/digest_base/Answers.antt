-- `leaf_digest::digest_base` meets its contract.
-- Assumes nothing.
use Rattle.std.proofs.Common.{refl, rules}
use Rattle.refusal.proofs.Refused.{refused}
use Rattle.leaf_digest.proofs.Numbers.{what_is_lent_comes_first, only_an_open_work_is_digested, the_rest_is_there, listed_gauge_is_modest, a_short_area_has_number_17, an_area_with_room_passes}
use Rattle.leaf_digest.proofs.digest_base.Goals as goal

pub returns-in_err-node-clause-number : goal.returns-in_err-node-clause-number
returns-in_err-node-clause-number c = search (what_is_lent_comes_first, refused, rules)

pub returns-then-not-is_open-clause-number : goal.returns-then-not-is_open-clause-number
returns-then-not-is_open-clause-number c =
    let a = c.args in
    let n = c.in_ok-node in
    only_an_open_work_is_digested a.size.bytes a.work.now a.list.now a.store.now a.page.now a.area.now a.tickets.now _ n.ensures.number refl _ n.ensures.base _ c.is_open.ensures (search rules)

pub has_area-requires : goal.has_area-requires
has_area-requires c =
    let a = c.args in
    let n = c.in_ok-node in (
      the_rest_is_there a.size.bytes a.work.now a.list.now a.store.now a.page.now a.area.now a.tickets.now _ n.ensures.number refl _ n.ensures.base _ n.node.counted.counted,
      listed_gauge_is_modest a.size.bytes a.work.now a.list.now a.store.now a.page.now a.area.now a.tickets.now _ n.ensures.number refl _ n.ensures.base a.size.right,
    )

pub returns-then-not-has_area-clause-number : goal.returns-then-not-has_area-clause-number
returns-then-not-has_area-clause-number c =
    let a = c.args in
    let n = c.in_ok-node in
    a_short_area_has_number_17 a.size.bytes a.work.now a.list.now a.store.now a.page.now a.area.now a.tickets.now _ n.ensures.number refl _ n.ensures.base _ c.is_open.ensures (search rules) _ c.has_area.ensures (search rules)

pub returns-clause-number : goal.returns-clause-number
returns-clause-number c =
    let a = c.args in
    let n = c.in_ok-node in
    an_area_with_room_passes a.size.bytes a.work.now a.list.now a.store.now a.page.now a.area.now a.tickets.now _ n.ensures.number refl _ n.ensures.base _ c.is_open.ensures (search rules) _ c.has_area.ensures (search rules)
