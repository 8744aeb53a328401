-- `digest_keep::raise_entry` meets its contract.
-- Assumes nothing.
use Rattle.std.proofs.Common.{refl}
use native.Mathlib.Omega.{arith}
use Rattle.digest_keep.proofs.Entries.{no_record_is_raised, the_last_is_there, one_more_is_raised, the_entry_is_raised}
use Rattle.digest_keep.proofs.raise_entry.Goals as goal

pub loop-i-init : goal.loop-i-init
loop-i-init c = let a = c.args in (c.requires, no_record_is_raised a.list.now a.store.now a.node.page.now a.part a.start c.requires _ refl)

pub lift_last-lifted-requires : goal.lift_last-lifted-requires
lift_last-lifted-requires c =
    let a = c.args in
    let at = c.loop-i in
    the_last_is_there a.list.now a.store.now a.node.page.now a.part a.start at.invariant.0 _ refl at.list at.store at.top at.i at.invariant.1 (omega (arith, c.loop-i-test.true, c.records_in_entry-i-end.ensures))

pub loop-i-preserved : goal.loop-i-preserved
loop-i-preserved c =
    let a = c.args in
    let at = c.loop-i in (
      at.invariant.0,
      one_more_is_raised a.list.now a.store.now a.node.page.now a.part a.start at.invariant.0 _ refl at.list at.store at.top at.i at.invariant.1 (omega (arith, c.loop-i-test.true, c.records_in_entry-i-end.ensures)) _ _ _ c.lift_last-lifted.ensures c.insert.ensures,
    )

pub returns : goal.returns
returns c =
    let a = c.args in
    let at = c.loop-i in
    the_entry_is_raised a.list.now a.store.now a.node.page.now a.part a.start at.invariant.0 _ refl at.list at.store at.top at.i at.invariant.1 (omega (arith, c.loop-i-test.false, c.records_in_entry-i-end.ensures))
