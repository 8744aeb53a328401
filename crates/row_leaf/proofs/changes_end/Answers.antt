-- `row_leaf::changes_end` meets its contract.
-- Assumes nothing.
use Rattle.std.proofs.Common.{rules, tests}
use Rattle.std.proofs.lemmas.Iterator.{YieldsList-from_slice}
use Rattle.std.proofs.lemmas.Iterator.Search.{position_from_yields_List}
use Rattle.row_leaf.proofs.Leaves.{is_above, without_a_cutoff_all_are_taken, all_are_taken, so_many_are_taken}
use Rattle.row_leaf.proofs.changes_end.Goals as goal

pub returns-in_default : goal.returns-in_default
returns-in_default c = without_a_cutoff_all_are_taken _ _ c.args.leaf c.requires c.in_default.is

pub returns-in-Some-position : goal.returns-in-Some-position
returns-in-Some-position c =
    let first = position_from_yields_List (is_above c.in-Some.cutoff) _ _ _ c.position.ensures.ran (YieldsList-from_slice _ c.iter.ensures.rest) (λ x b q k. search (rules, tests)) in
    so_many_are_taken _ _ c.args.leaf _ c.requires c.in-Some.is _ first _ c.in-Some-position.is

pub returns-in-None : goal.returns-in-None
returns-in-None c =
    let first = position_from_yields_List (is_above c.in-Some.cutoff) _ _ _ c.position.ensures.ran (YieldsList-from_slice _ c.iter.ensures.rest) (λ x b q k. search (rules, tests)) in
    all_are_taken _ _ c.args.leaf _ c.requires c.in-Some.is _ first c.in-None.is
