-- `bit_ops::word_at` meets its contract.
-- Assumes nothing.
use Rattle.std.proofs.Common.{rules}
use Rattle.bit_ops.specs.Steps.{word_at}
use Rattle.bit_ops.proofs.word_at.Goals as goal

pub returns : goal.returns
unfolding word_at
returns c = search rules
