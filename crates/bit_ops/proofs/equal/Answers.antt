-- `bit_ops::equal` meets its contract: equal keys have equal words.
-- Assumes nothing.
use Rattle.std.proofs.Common.{rules}
use Rattle.bit_ops.proofs.Words.{word_equal}
use Rattle.bit_ops.proofs.equal.Goals as goal

pub returns : goal.returns
returns c = (search (word_equal, rules), search rules, search rules)
