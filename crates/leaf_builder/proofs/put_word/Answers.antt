-- `leaf_builder::put_word` meets its contract.
-- Assumes nothing.
use Rattle.std.proofs.Common.{rules}
use Rattle.leaf_builder.proofs.Writing.{word_put}
use Rattle.leaf_builder.proofs.put_word.Goals as goal

pub returns : goal.returns
returns c = search (word_put, rules)
