-- `melt_weight::factor_of` meets its contract.
-- Assumes nothing.
use Rattle.std.proofs.Common.{◌*◌, ◌%◌, ◌^◌, Bool, not, T, sym, ◌∙◌, subst, le_trans, arith, le-ltb, le-leb}
use native.Mathlib.Nat.{mod-le}
use Rattle.std.proofs.lemmas.Bool.{lt-leb}
use lib.Ieee.{binary64}
use lib.Ieee.Bits.{nan_bits_above}
use Rattle.melt_weight.specs.Weight.{factor_of}
use Rattle.melt_weight.proofs.Factor.{bits_at_least_one, bits_at_most}
use Rattle.melt_weight.proofs.factor_of.Goals as goal

pub returns-then-bits-lt4607182418800017408 : goal.returns-then-bits-lt4607182418800017408
unfolding factor_of
returns-then-bits-lt4607182418800017408 c = (simp (lt-leb _ _ c.if-bits-lt4607182418800017408.true), tt)

pub returns-then-bits-gt4629700416936869888 : goal.returns-then-bits-gt4629700416936869888
unfolding factor_of
returns-then-bits-gt4629700416936869888 c = (simp (le-leb _ _ c.if-bits-lt4607182418800017408.false, lt-leb _ _ c.if-bits-gt4629700416936869888.true), tt)

pub float_from_bits-result : goal.float_from_bits-result
float_from_bits-result c =
    let b = c.args.bits in
    subst (λ (t : Bool). T (not t)) (sym (nan_bits_above binary64 b ∙ le-ltb (2047 * 2 ^ 52) (b % 2 ^ 63) (le_trans (mod-le b (2 ^ 63)) (omega (arith, c.if-bits-gt4629700416936869888.false))))) tt

pub returns : goal.returns
unfolding factor_of
returns c =
    let b = c.args.bits in
    (simp (le-leb _ _ c.if-bits-lt4607182418800017408.false, le-leb _ _ c.if-bits-gt4629700416936869888.false), record { least = bits_at_least_one b c.if-bits-lt4607182418800017408.false c.if-bits-gt4629700416936869888.false; most = bits_at_most b c.if-bits-lt4607182418800017408.false c.if-bits-gt4629700416936869888.false })
