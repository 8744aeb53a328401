-- `digest_keep::raise` meets its contract.
-- Assumes nothing.
use Rattle.std.proofs.Common.{refl}
use Rattle.digest_keep.proofs.Parts.{a_top_at_the_stores_end, no_part_is_raised, the_rest_is_there, the_part_can_be_raised, one_part_more_is_raised, all_parts_are_raised}
use Rattle.digest_keep.proofs.raise.Goals as goal

pub loop-i-init : goal.loop-i-init
loop-i-init c = let a = c.args in (c.requires.0, no_part_is_raised a.list.now a.store.now a.node.page.now a.span a.at a.start.to a.start.entry c.requires.0 _ refl a.start (a_top_at_the_stores_end a.store.now a.start c.requires.1))

pub part_of-part-requires : goal.part_of-part-requires
part_of-part-requires c =
    let a = c.args in
    let at = c.loop-i in
    the_rest_is_there a.list.now a.store.now a.node.page.now a.span a.at a.start.to a.start.entry at.invariant.0 _ refl at.list at.store at.top at.i at.invariant.1 c.loop-i-test.true _ a.node.counted.counted _ c.place_before-place.ensures

pub raise_entry-top-requires : goal.raise_entry-top-requires
raise_entry-top-requires c =
    let a = c.args in
    let at = c.loop-i in
    the_part_can_be_raised a.list.now a.store.now a.node.page.now a.span a.at a.start.to a.start.entry at.invariant.0 _ refl at.list at.store at.top at.i at.invariant.1 c.loop-i-test.true _ a.node.counted.counted _ c.place_before-place.ensures _ c.split-entry.ensures _ c.part_of-part.ensures

pub loop-i-preserved : goal.loop-i-preserved
loop-i-preserved c =
    let a = c.args in
    let at = c.loop-i in (
      at.invariant.0,
      one_part_more_is_raised a.list.now a.store.now a.node.page.now a.span a.at a.start.to a.start.entry at.invariant.0 _ refl at.list at.store at.top at.i at.invariant.1 c.loop-i-test.true _ a.node.counted.counted _ c.place_before-place.ensures _ c.split-entry.ensures _ c.part_of-part.ensures _ _ _ c.raise_entry-top.ensures,
    )

pub returns : goal.returns
returns c =
    let a = c.args in
    let at = c.loop-i in
    rw (a_top_at_the_stores_end a.store.now a.start c.requires.1) (all_parts_are_raised a.list.now a.store.now a.node.page.now a.span a.at a.start.to a.start.entry at.invariant.0 _ refl at.list at.store at.top at.i at.invariant.1 c.loop-i-test.false)
