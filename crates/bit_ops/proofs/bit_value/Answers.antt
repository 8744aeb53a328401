-- `bit_ops::bit_value` meets its contract.
-- Assumes nothing.
use Prim.Native.Nat.{◌-◌}
use lib.Pow.{pow_pos}
use Rattle.bit_ops.proofs.Digits.{bit_of_byte}
use Rattle.bit_ops.proofs.bit_value.Goals as goal

pub returns : goal.returns
returns c =
    let r = c.args.r in
    let e = bit_of_byte r c.requires in (e, rw e (pow_pos (7 - r)))
