-- `leaf_builder::push_pointer` meets its contract: the key, and the number shifted as a whole, so that its top bit stays.
-- Assumes nothing.
use Rattle.std.proofs.Common.{rules}
use Rattle.leaf_node.specs.Page.{offset_at}
use Rattle.leaf_builder.proofs.Shifting.{pointer_put}
use Rattle.leaf_builder.proofs.push_pointer.Goals as goal

pub overflow_sub-number_at : goal.overflow_sub-number_at
unfolding offset_at
overflow_sub-number_at c = search rules

pub put_word-requires : goal.put_word-requires
unfolding offset_at
put_word-requires c = search rules

pub returns : goal.returns
returns c = search (pointer_put, rules)
