-- `leaf_write::push_entry` meets its contract.
-- Assumes nothing.
use Rattle.std.proofs.Common.{sym, ◌∙◌}
use Rattle.std.proofs.lemmas.Bool.{eqb-true, eqb-false}
use Rattle.leaf_write.proofs.Pages.{the_records_of_a_chunk, the_record_of_an_insert}
use Rattle.leaf_write.proofs.push_entry.Goals as goal

pub push_insert-requires : goal.push_insert-requires
push_insert-requires c =
    let e = eqb-true _ _ (sym c.is_insert.ensures ∙ c.if-is_insert.true) in
    let q = the_record_of_an_insert _ c.args.page.now _ c.args.skip c.requires.0 e in
    ((c.requires.0.insert e).1, c.requires.1, rw q at c.requires.2)

pub returns-then-is_insert : goal.returns-then-is_insert
returns-then-is_insert c =
    let e = eqb-true _ _ (sym c.is_insert.ensures ∙ c.if-is_insert.true) in
    rw (the_record_of_an_insert _ _ _ _ c.requires.0 e) c.push_insert.ensures

pub push_range-requires : goal.push_range-requires
push_range-requires c =
    let n = eqb-false _ _ (sym c.is_insert.ensures ∙ c.if-is_insert.false) in
    let q = the_records_of_a_chunk _ _ _ _ c.requires.0 n in
    (c.requires.0.chunk n, rw q at c.requires.2)

pub returns : goal.returns
returns c =
    let n = eqb-false _ _ (sym c.is_insert.ensures ∙ c.if-is_insert.false) in
    rw (the_records_of_a_chunk _ _ _ _ c.requires.0 n) c.push_range.ensures
