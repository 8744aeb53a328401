-- `digest_keep::lift_insert` meets its contract.
-- Assumes nothing.
use Rattle.digest_keep.proofs.Records.{an_insert_has_room, an_insert_is_lifted}
use Rattle.digest_keep.proofs.lift_insert.Goals as goal

pub lower-next-requires : goal.lower-next-requires
lower-next-requires c =
    an_insert_has_room c.args.store.now c.args.entry c.args.top c.requires.0 c.requires.1

pub returns : goal.returns
returns c =
    an_insert_is_lifted c.args.store.now c.args.entry c.args.top c.requires.0 c.requires.1 _ c.lower-next.ensures c.listed_below.result _ (rw (← c.is_flagged.ensures) c.listed_below.ensures) c.move_up.ensures
