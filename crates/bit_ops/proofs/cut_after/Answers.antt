-- `bit_ops::cut_after` meets its contract.
-- Assumes nothing.
use Rattle.std.proofs.Common.{rules}
use mathlib.Core.Path.{refl}
use native.Mathlib.Nat.{mod-le}
use Rattle.bit_ops.proofs.Cutting.{cut_after_filled}
use Rattle.bit_ops.proofs.cut_after.Goals as goal

pub overflow_sub-key : goal.overflow_sub-key
overflow_sub-key c = mod-le _ _

pub returns : goal.returns
returns c = cut_after_filled c.args.key.now c.fill.new.self c.args.n _ _ c.requires c.told-key c.bit_value-last.ensures.0 refl _ (c.fill.ensures.after (λ y e. e)) (search rules)
