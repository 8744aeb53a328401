-- `melt_weight::low_word` meets its contract.
-- Assumes nothing.
use Rattle.melt_weight.proofs.Reading.{eight_spell}
use Rattle.std.proofs.Common.{rules}
use Rattle.melt_weight.proofs.low_word.Goals as goal

pub returns : goal.returns
returns c = search (eight_spell, rules)
