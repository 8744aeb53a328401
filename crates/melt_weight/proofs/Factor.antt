-- A factor's bits as whole numbers: the float that they are is digits / 2 ^ shift, and lies from 1 to 32. Assumes nothing.
use Rattle.std.proofs.Common.{◌≡◌, ℕ, zero, suc, ◌+◌, ◌-◌, ◌*◌, ◌/◌, ◌%◌, ◌^◌, ◌<◌, ◌≤◌, Bool, false, not, T, leb, ◌⊎◌, pos, sym, refl, ap, ◌∙◌, subst, inl, inr, le_trans, le_of_eq, lt_of_le_of_lt, mul-le-mul_right, mod-lt, mod-eq_of_lt, mul_assoc, mul_comm, div-lt_iff_lt-mul, mul-le-mul, mul-pos, one-mul, div-add-mod', le-div_iff_mul-le, mul-one, mul_right_comm, le_of_mul-le-mul_right, arith, lit<, lit≤, pow_pos, pow_mono, pow-add, le-ltb, ne_eqb}
use native.Mathlib.Nat.{mod-le, eq_of_mul-eq-mul_right}
use borrow.Author.Tests.{lt-leb}
use lib.Ieee.{Float, fin, le, binary64, top, odd, of_fields, of_bits, to_bits, nan_bits}
use lib.Ieee.Bits.{to_bits-of_bits, nan_bits_is, nan_bits_above}
use lib.Ieee.Exact.{odd_sign}
use lib.Ieee.Positive.{num, den, positive, cross→le, value→cross, positive_of_value}
use Rattle.melt_weight.specs.Weight.{least_factor, most_factor}
use Rattle.melt_weight.specs.Sheet.{digits_of, shift_of}
use Rattle.melt_weight.proofs.Whole.{one}

module _ (b : ℕ) (lo : least_factor ≤ b) (hi : b ≤ most_factor) where
  no_sign : leb (top binary64) b ≡ false
  no_sign = lt-leb (top binary64) b (lt_of_le_of_lt {k = top binary64} hi (lit< tt))

  field : ℕ
  field = b / 2 ^ 52

  field_low : 1023 ≤ b / 2 ^ 52
  field_low = (le-div_iff_mul-le (pow_pos 52)).1 lo

  field_high : b / 2 ^ 52 < 1029
  field_high = (div-lt_iff_lt-mul (pow_pos 52)).1 (lt_of_le_of_lt hi (lit< tt))

  fields : (x : ℕ) → x < 1029 → 1023 ≤ x → (t : ℕ) → of_fields binary64 false x t ≡ odd 53 false (2 ^ 52 + t) (x - 1) 1074
  unfolding of_fields
  fields zero h l t = absurd (omega arith)
  fields (suc x) h l t = rw (ne_eqb (suc x) 2047 (λ e. absurd (omega (arith, h, e))), less x) refl
    where
      less : (x : ℕ) → suc x - 1 ≡ x
      less x = omega arith

  pub factor_is : of_bits binary64 b ≡ odd 53 false (digits_of b) (b / 2 ^ 52 - 1) 1074
  unfolding of_bits digits_of
  factor_is =
      ap (λ (s : Bool). of_fields binary64 s (b % top binary64 / 2 ^ 52) (b % 2 ^ 52)) no_sign
      ∙ ap (λ (y : ℕ). of_fields binary64 false (y / 2 ^ 52) (b % 2 ^ 52)) (mod-eq_of_lt (lt_of_le_of_lt hi (lit< tt)))
      ∙ fields (b / 2 ^ 52) field_high field_low (b % 2 ^ 52)

  -- the factor is digits / 2 ^ shift
  pub a_factor_is_its_bits : num (of_bits binary64 b) * 2 ^ shift_of b ≡ digits_of b * den (of_bits binary64 b)
  unfolding shift_of
  a_factor_is_its_bits =
      let x = odd 53 false (digits_of b) (b / 2 ^ 52 - 1) 1074 in
      let v : num x * 2 ^ 1074 ≡ digits_of b * 2 ^ (b / 2 ^ 52 - 1) * den x = value→cross x (digits_of b * 2 ^ (b / 2 ^ 52 - 1)) (2 ^ 1074) (odd_sign 53 false (digits_of b) (b / 2 ^ 52 - 1) 1074) in
      let s : 1074 ≡ (1075 - b / 2 ^ 52) + (b / 2 ^ 52 - 1) = parts (b / 2 ^ 52) field_low field_high in
      let u : num x * 2 ^ (1075 - b / 2 ^ 52) * 2 ^ (b / 2 ^ 52 - 1) ≡ digits_of b * den x * 2 ^ (b / 2 ^ 52 - 1) =
      mul_assoc (num x) (2 ^ (1075 - b / 2 ^ 52)) (2 ^ (b / 2 ^ 52 - 1))
      ∙ ap (λ (z : ℕ). num x * z) (sym (pow-add 2 (1075 - b / 2 ^ 52) (b / 2 ^ 52 - 1)) ∙ ap (λ (z : ℕ). 2 ^ z) (sym s))
      ∙ v
      ∙ mul_right_comm (digits_of b) (2 ^ (b / 2 ^ 52 - 1)) (den x) in
      rw factor_is (eq_of_mul-eq-mul_right (2 ^ (b / 2 ^ 52 - 1)) (pow_pos (b / 2 ^ 52 - 1)) (num x * 2 ^ (1075 - b / 2 ^ 52)) (digits_of b * den x) u)
    where
      parts : (f : ℕ) → 1023 ≤ f → f < 1029 → 1074 ≡ (1075 - f) + (f - 1)
      parts f l h = omega arith

  pub factor_positive_of_bits : T (positive (of_bits binary64 b))
  unfolding digits_of
  factor_positive_of_bits =
      rw factor_is
      (positive_of_value (odd 53 false (digits_of b) (b / 2 ^ 52 - 1) 1074) (digits_of b * 2 ^ (b / 2 ^ 52 - 1)) (2 ^ 1074) (odd_sign 53 false (digits_of b) (b / 2 ^ 52 - 1) 1074)
      (mul-pos (some (b % 2 ^ 52)) (pow_pos (b / 2 ^ 52 - 1))))
    where
      some : (n : ℕ) → 0 < 4503599627370496 + n
      some n = omega arith

  digits_many : 4503599627370496 ≤ digits_of b
  unfolding digits_of
  digits_many = go (b % 2 ^ 52)
    where
      go : (n : ℕ) → 4503599627370496 ≤ 4503599627370496 + n
      go n = omega arith

  shift_few : 2 ^ shift_of b ≤ 2 ^ 52
  unfolding shift_of
  shift_few = pow_mono (go (b / 2 ^ 52) field_low)
    where
      go : (f : ℕ) → 1023 ≤ f → 1075 - f ≤ 52
      go f h = omega arith

  digits_under : digits_of b ≤ 32 * 2 ^ shift_of b
  unfolding digits_of shift_of
  digits_under = go (b / 2 ^ 52) (b % 2 ^ 52) (div-add-mod' b (2 ^ 52)) field_high (mod-lt b (pow_pos 52))
    where
      go : (f t : ℕ) → f * 4503599627370496 + t ≡ b → f < 1029 → t < 4503599627370496 → 4503599627370496 + t ≤ 32 * 2 ^ (1075 - f)
      go f t e h l = elim (split f h) [
        | inl g ↦ le_trans (small t l) (mul-le-mul {n₁ = 32} {n₂ = 32} (lit≤ tt) (pow_mono {i = 48} {j = 1075 - f} (omega arith)))
        | inr g ↦ rw g (full t (omega (arith, e, g, hi)))
      ]
        where
          split : (f : ℕ) → f < 1029 → (f < 1028) ⊎ (f ≡ 1028)
          split f h = elim (lt_or_eq_of_lt f 1028 h) [ inl g ↦ inl g | inr g ↦ inr g ]
            where
              lt_or_eq_of_lt : (a n : ℕ) → a < suc n → (a < n) ⊎ (a ≡ n)
              lt_or_eq_of_lt zero zero h = inr refl
              lt_or_eq_of_lt zero (suc n) h = inl (omega arith)
              lt_or_eq_of_lt (suc a) zero h = absurd (omega arith)
              lt_or_eq_of_lt (suc a) (suc n) h = elim (lt_or_eq_of_lt a n (omega arith)) [ inl g ↦ inl (omega arith) | inr g ↦ inr (ap suc g) ]

          small : (t : ℕ) → t < 4503599627370496 → 4503599627370496 + t ≤ 32 * 281474976710656
          small t l = omega arith

          full : (t : ℕ) → t ≤ 0 → 4503599627370496 + t ≤ 32 * 140737488355328
          full t l = omega arith

  abbrev x : Float
  x = of_bits binary64 b

  pub bits_at_least_one : T (le one x)
  bits_at_least_one =
      cross→le one x tt factor_positive_of_bits
      (le_trans (le_of_eq (one-mul (den x)))
      (le_trans (le_of_mul-le-mul_right (le_trans (le_trans (le_of_eq (mul_comm (den x) (2 ^ shift_of b))) (mul-le-mul_right (den x) (le_trans shift_few digits_many))) (le_of_eq (sym a_factor_is_its_bits))) (pow_pos (shift_of b)))
      (le_of_eq (sym (mul-one (num x))))))

  pub bits_at_most : T (le x (fin false 1 (pos 5)))
  bits_at_most =
      cross→le x (fin false 1 (pos 5)) factor_positive_of_bits tt
      (le_trans (le_of_eq (mul-one (num x)))
      (le_of_mul-le-mul_right (le_trans (le_of_eq a_factor_is_its_bits) (le_trans (mul-le-mul_right (den x) digits_under) (le_of_eq (mul_right_comm 32 (2 ^ shift_of b) (den x))))) (pow_pos (shift_of b))))

  -- so the bits can be read off the float again
  pub the_bits_of_a_factor_are_its_own : to_bits binary64 (of_bits binary64 b) ≡ b
  the_bits_of_a_factor_are_its_own = to_bits-of_bits binary64 b (lt_of_le_of_lt {k = 2 * top binary64} hi (lit< tt)) (rw (← nan_bits_is binary64 b) no_nan)
    where
      no_nan : T (not (nan_bits binary64 b))
      no_nan = subst (λ (t : Bool). T (not t)) (sym (nan_bits_above binary64 b ∙ le-ltb (2047 * 2 ^ 52) (b % 2 ^ 63) (le_trans (mod-le b (2 ^ 63)) (le_trans hi (lit≤ tt))))) tt
