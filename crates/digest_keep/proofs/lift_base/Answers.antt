-- `digest_keep::lift_base` meets its contract.
-- Assumes nothing.
use Rattle.std.proofs.Common.{rules}
use native.Mathlib.Omega.{arith}
use Rattle.leaf_raise.proofs.Sources.{its_value_ends_in_the_page}
use Rattle.digest_keep.proofs.Records.{a_counted_record_is_there, its_value_has_room, a_base_record_is_lifted}
use Rattle.digest_keep.proofs.lift_base.Goals as goal

pub overflow_add-end : goal.overflow_add-end
overflow_add-end c =
    let n = c.args.node in
    record { fits = omega (arith, c.cell-cell.ensures.2, its_value_ends_in_the_page n.page.now c.args.i (a_counted_record_is_there n.page.now n.n c.args.i n.counted c.requires.0), n.counted.short) }

pub slice_bounds-lift_record-end : goal.slice_bounds-lift_record-end
slice_bounds-lift_record-end c =
    let n = c.args.node in
    omega (arith, c.cell-cell.ensures.2, its_value_ends_in_the_page n.page.now c.args.i (a_counted_record_is_there n.page.now n.n c.args.i n.counted c.requires.0))

pub lift_record-requires : goal.lift_record-requires
lift_record-requires c = search (its_value_has_room, rules)

pub returns : goal.returns
returns c =
    let args = c.args in
    let cell = c.cell-cell.ensures in
    a_base_record_is_lifted args.node.page.now args.i _ cell.1 cell.3 cell.4 _ c.key.ensures args.store.now args.top _ _ c.lift_record.ensures.0 c.lift_record.ensures.1
