-- `leaf_cut::consume_rest` meets its contract.
-- Assumes nothing.
use Rattle.std.proofs.Common.{rules}
use native.Mathlib.Omega.{arith}
use Rattle.leaf_cut.proofs.Cursors.{a_leaf_does_not_shrink, few_records_are_taken}
use Rattle.leaf_cut.proofs.Ranges.{records_are_few}
use Rattle.leaf_cut.proofs.consume_rest.Goals as goal

pub overflow_sub-result : goal.overflow_sub-result
overflow_sub-result c = search (a_leaf_does_not_shrink, rules)

pub overflow_add-result : goal.overflow_add-result
overflow_add-result c = record { fits = omega (arith, c.requires.0, few_records_are_taken _ _ _ _ _ _ _ c.args.node.counted _ _ (omega arith) c.consume_chunk-end.ensures, records_are_few _ _ c.args.node.counted) }
