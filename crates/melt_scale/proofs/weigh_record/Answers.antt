-- `melt_scale::weigh_record` meets its contract.
-- Assumes nothing.
use Rattle.std.proofs.Common.{rules}
use mathlib.Core.Path.{refl}
use Rattle.melt_scale.proofs.Records.{a_value_lies_in_its_page, its_end_is_a_place, a_flagged_record_is_skipped, another_tree_is_skipped, the_trees_record_is_weighed}
use Rattle.melt_scale.proofs.weigh_record.Goals as goal

pub returns-then-cell : goal.returns-then-cell
returns-then-cell c =
    let cell = c.cell_at-cell in
    a_flagged_record_is_skipped c.args.page.now c.args.i c.args.tree.now c.args.at c.requires.2 cell.result.flag cell.ensures.4 c.if-cell.true

pub returns-then-not-names : goal.returns-then-not-names
returns-then-not-names c =
    let cell = c.cell_at-cell in
    let key = c.key_at in
    let named = c.names in
    another_tree_is_skipped c.args.page.now c.args.i c.args.tree.now c.args.at c.requires.2 cell.result.flag cell.ensures.4 c.if-cell.false key.result.now key.ensures named.result named.ensures c.if-not-names.true-raw

pub overflow_add-to : goal.overflow_add-to
overflow_add-to c = record { fits = search (its_end_is_a_place, rules) }

pub slice_bounds-read-end : goal.slice_bounds-read-end
slice_bounds-read-end c = search (a_value_lies_in_its_page, rules)

pub returns : goal.returns
returns c =
    let cell = c.cell_at-cell in
    let key = c.key_at in
    let named = c.names in
    the_trees_record_is_weighed c.args.page.now c.args.i c.args.tree.now c.args.at c.requires.2 cell.result.flag cell.ensures.4 c.if-cell.false key.result.now key.ensures named.result named.ensures c.if-not-names.false-raw
    cell.result.offset cell.result.len cell.ensures.1 cell.ensures.3 _ refl c.read.result c.read.ensures.0 c.weigh.result c.weigh.ensures.0 c.weigh.ensures.1
