-- `leaf_builder::move_pointers` meets its contract: after each record the pointers up to it are final, the later ones as before.
-- Assumes nothing.
use Rattle.std.proofs.Common.{rules}
use Rattle.leaf_builder.proofs.Writing.{chunk_shift}
use Rattle.leaf_builder.proofs.Shifting.{one_pointer_more, all_pointers}
use Rattle.leaf_builder.proofs.move_pointers.Goals as goal

pub push_pointer-requires : goal.push_pointer-requires
push_pointer-requires c = search (chunk_shift, rules)

pub loop-i-preserved : goal.loop-i-preserved
loop-i-preserved c = (search rules, search rules, search rules, search (one_pointer_more, rules))

pub returns : goal.returns
returns c = search (all_pointers, rules)
