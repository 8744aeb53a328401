-- `leaf_cut::target_of` meets its contract.
-- Assumes nothing.
use Rattle.std.proofs.Common.{rules}
use Rattle.leaf_cut.proofs.Gauging.{many_records_are_cut_in_bulk, fewer_records_are_halved, few_records_are_not_cut}
use native.Mathlib.Nat.{le_of_lt}
use Rattle.leaf_cut.proofs.target_of.Goals as goal

pub returns-then-bulk_above-body : goal.returns-then-bulk_above-body
returns-then-bulk_above-body c = search (many_records_are_cut_in_bulk, rules)

pub returns-then-body_limit-body : goal.returns-then-body_limit-body
returns-then-body_limit-body c = search (fewer_records_are_halved, rules)

pub returns : goal.returns
returns c = search (few_records_are_not_cut, le_of_lt, rules)
