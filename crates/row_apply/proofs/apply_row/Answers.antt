-- `row_apply::apply_row` meets its contract.
-- Assumes nothing.
use Rattle.row_apply.proofs.Closing.{all_are_as_long}
use Rattle.row_apply.proofs.apply_row.Goals as goal

pub new_row-requires : goal.new_row-requires
new_row-requires c = record { keyed = all_are_as_long 32 _ c.told-separators; packed = all_are_as_long 40 _ c.told-changes }
