-- `leaf_pass::is_zero_key` meets its contract.
-- Assumes nothing.
use Rattle.std.proofs.Common.{rules}
use Rattle.leaf_pass.proofs.Zeros.{four_words_are_the_key}
use Rattle.leaf_pass.proofs.is_zero_key.Goals as goal

pub returns : goal.returns
returns c = search (four_words_are_the_key, rules)
