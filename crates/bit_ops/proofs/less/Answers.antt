-- `bit_ops::less` meets its contract: the first word that differs decides the order of the two numbers.
-- Assumes nothing.
use Rattle.std.proofs.Common.{rules}
use Rattle.bit_ops.proofs.Words.{word_less}
use Rattle.bit_ops.proofs.less.Goals as goal

pub returns : goal.returns
returns c = search (word_less, rules)
