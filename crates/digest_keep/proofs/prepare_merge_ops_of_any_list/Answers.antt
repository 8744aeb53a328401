-- `digest_keep::prepare_merge_ops_of_any_list` meets its contract.
-- Assumes nothing.
use Rattle.digest_keep.proofs.Clearing.{a_cleared_list_can_be_kept, any_list_is_kept}
use Rattle.digest_keep.proofs.prepare_merge_ops_of_any_list.Goals as goal

pub prepare_merge_ops-requires : goal.prepare_merge_ops-requires
prepare_merge_ops-requires c = a_cleared_list_can_be_kept _ _ _ _ _ _ c.requires _ c.drain.ensures

pub returns : goal.returns
returns c = any_list_is_kept _ _ _ _ _ _ c.requires _ c.drain.ensures _ _ c.prepare_merge_ops.ensures
