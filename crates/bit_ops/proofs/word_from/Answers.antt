-- `bit_ops::word_from` meets its contract.
-- Assumes nothing.
use Rattle.std.proofs.Common.{rules}
use Rattle.bit_ops.proofs.Words.{eight_spell}
use Rattle.bit_ops.proofs.word_from.Goals as goal

pub returns : goal.returns
returns c = search (eight_spell, rules)
