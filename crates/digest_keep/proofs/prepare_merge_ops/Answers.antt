-- `digest_keep::prepare_merge_ops` meets its contract.
-- Assumes nothing.
use Rattle.std.proofs.Common.{refl}
use Rattle.digest_keep.proofs.Keeping.{it_can_be_raised, so_many_can_be_settled, its_store_can_be_settled, it_is_kept}
use Rattle.digest_keep.proofs.prepare_merge_ops.Goals as goal

pub raise-requires : goal.raise-requires
raise-requires c = rw c.full_top-start.ensures (it_can_be_raised _ _ _ _ _ _ c.requires _ c.span_of-span.ensures _ c.room_by-room.ensures, refl)

pub settle_first-requires : goal.settle_first-requires
settle_first-requires c = so_many_can_be_settled _ _ _ _ _ _ c.requires _ c.span_of-span.ensures _ c.room_by-room.ensures _ _ (rw c.full_top-start.ensures at c.raise.ensures)

pub settle_bytes-requires : goal.settle_bytes-requires
settle_bytes-requires c = its_store_can_be_settled _ _ _ _ _ _ c.requires _ c.span_of-span.ensures _ c.room_by-room.ensures _ _ (rw c.full_top-start.ensures at c.raise.ensures)

pub returns : goal.returns
returns c = it_is_kept _ _ _ _ _ _ c.requires _ c.span_of-span.ensures _ c.room_by-room.ensures _ _ (rw c.full_top-start.ensures at c.raise.ensures) _ _ c.settle_first.ensures c.settle_bytes.ensures
