-- `leaf_builder::push_pointers` meets its contract: where the values stay, one copy is all.
-- Assumes nothing.
use Rattle.std.proofs.Common.{rules}
use Rattle.bit_ops.specs.Key.{Bytes}
use Rattle.leaf_builder.proofs.Shifting.{one_copy_is_all}
use Rattle.leaf_builder.proofs.push_pointers.Goals as goal

pub returns-then-first-at : goal.returns-then-first-at
returns-then-first-at c =
    let bytes : Bytes c.args.page.now = λ i. (c.type_inv.page i).fits in
    search (one_copy_is_all, bytes, rules)
