-- `melt_weight::low_half` meets its contract.
-- Assumes nothing.
use Rattle.melt_weight.proofs.Reading.{four_spell}
use Rattle.std.proofs.Common.{rules}
use Rattle.melt_weight.proofs.low_half.Goals as goal

pub returns : goal.returns
returns c = search (four_spell, rules)
