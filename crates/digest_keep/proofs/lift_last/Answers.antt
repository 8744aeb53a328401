-- `digest_keep::lift_last` meets its contract.
-- Assumes nothing.
use Rattle.std.proofs.Common.{sym, ◌∙◌}
use borrow.Author.Tests.{eqb-true, eqb-false}
use Rattle.digest_keep.proofs.Records.{the_insert_can_be_lifted, the_insert_is_the_last, the_chunks_last_can_be_lifted, the_chunks_last_is_the_last}
use Rattle.digest_keep.proofs.lift_last.Goals as goal

pub lift_insert-requires : goal.lift_insert-requires
lift_insert-requires c = the_insert_can_be_lifted _ _ _ _ _ c.requires (eqb-true _ 1 (sym c.is_insert.ensures ∙ c.if-is_insert.true))

pub returns-then-is_insert : goal.returns-then-is_insert
returns-then-is_insert c = the_insert_is_the_last _ _ _ _ _ c.requires (eqb-true _ 1 (sym c.is_insert.ensures ∙ c.if-is_insert.true)) _ _ c.lift_insert.ensures

pub lift_base-requires : goal.lift_base-requires
lift_base-requires c = the_chunks_last_can_be_lifted _ _ _ _ _ c.requires (eqb-false _ 1 (sym c.is_insert.ensures ∙ c.if-is_insert.false)) _ c.args.node.counted.counted

pub returns : goal.returns
returns c = the_chunks_last_is_the_last _ _ _ _ _ c.requires (eqb-false _ 1 (sym c.is_insert.ensures ∙ c.if-is_insert.false)) _ _ c.lift_base.ensures
