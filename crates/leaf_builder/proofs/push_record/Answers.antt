-- `leaf_builder::push_record` meets its contract.
-- Assumes nothing.
use Rattle.std.proofs.Common.{rules}
use native.Mathlib.Omega.{arith}
use Rattle.leaf_builder.proofs.Writing.{record_end, record_pushed, record_next}
use Rattle.leaf_builder.proofs.push_record.Goals as goal

pub overflow_add-last : goal.overflow_add-last
overflow_add-last c = omega (arith, record_end)

pub slice_bounds-push_cell-end : goal.slice_bounds-push_cell-end
slice_bounds-push_cell-end c = omega (arith, record_end)

pub returns : goal.returns
returns c = (search (record_pushed, rules), search (record_next, rules))
