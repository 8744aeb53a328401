-- The smallest whole number not below a float, by its whole part; the product of a total and a factor, which lies between 1 and 2 ^ 51, or is 0. Assumes nothing.
use Rattle.std.proofs.Common.{◌≡◌, ℕ, zero, suc, ◌+◌, ◌-◌, ◌*◌, ◌/◌, ◌^◌, ◌<◌, ◌≤◌, min, true, false, T, pos, sym, refl, ap, ◌∙◌, subst, le_trans, le_of_eq, lt_of_lt_of_le, mul-le-mul_right, div-lt_iff_lt-mul, add-mul, le_antisymm, mul-pos, one-mul, le-div_iff_mul-le, zero-mul, mul-one, div-mul-le_self, arith, lit<, lit≤, lt→ltb, pow_pos}
use lib.Ieee.Fits.{down_pos}
use lib.Ieee.{Float, nan, inf, fin, le, lt, binary64, low, round, mul, of_int, to_unsigned, up, down}
use lib.Ieee.Exact.{HasValue, round_exact}
use lib.Ieee.Order.{le_of_values}
use lib.Ieee.Back.{round_whole}
use lib.Ieee.Positive.{num, den, positive, between, le→cross, values_of_le, own_value, mul_mono, den_pos, value→cross, positive_of_value}
use Rattle.melt_weight.specs.Sheet.{whole_above}

abbrev pub one : Float
one = fin false 1 (pos 0)

-- ---- the whole part

capped : (n c : ℕ) → n ≤ c → min n c ≡ n
capped n c h = omega arith

whole_part : (x : Float) → T (positive x) → num x / den x ≤ 2 ^ 51 → to_unsigned 64 x ≡ num x / den x
unfolding to_unsigned
whole_part nan p h = absurd p
whole_part (inf s) p h = absurd p
whole_part (fin true m e) p h = absurd p
whole_part (fin false m e) p h = capped (m * up e / down e) (2 ^ 64 - 1) (le_trans h (lit≤ tt))

-- an integer as a float
pub exactly : (n : ℕ) → n ≤ 2 ^ 53 → HasValue (of_int binary64 (pos n)) false n 1
unfolding of_int
exactly n h = round_whole binary64 false n h

-- ---- quotients

at_most : (n d q : ℕ) → 0 < d → q * d ≤ n → n ≤ q * d → (n + (d - 1)) / d ≡ q
at_most n d q D a b =
    le_antisymm (le_of_less ((n + (d - 1)) / d) q ((div-lt_iff_lt-mul D).1 (lt_of_lt_of_le (step n d q D b) (le_of_eq (sym (add-mul q 1 d)))))) ((le-div_iff_mul-le D).1 (le_trans a (omega arith)))
  where
    step : (n d q : ℕ) → 0 < d → n ≤ q * d → n + (d - 1) < q * d + 1 * d
    step n d q D b = omega arith

    le_of_less : (a b : ℕ) → a < b + 1 → a ≤ b
    le_of_less a b h = omega arith

above : (n d q : ℕ) → 0 < d → n < q * d + d → q * d < n → (n + (d - 1)) / d ≡ q + 1
above n d q D a b =
    le_antisymm (le_of_less ((n + (d - 1)) / d) q ((div-lt_iff_lt-mul D).1 (lt_of_lt_of_le (step n d q D a) (le_of_eq (sym (add-mul q 2 d)))))) ((le-div_iff_mul-le D).1 (le_trans (le_of_eq (add-mul q 1 d)) (omega arith)))
  where
    step : (n d q : ℕ) → 0 < d → n < q * d + d → n + (d - 1) < q * d + 2 * d
    step n d q D b = omega arith

    le_of_less : (a b : ℕ) → a < b + 2 → a ≤ b + 1
    le_of_less a b h = omega arith

module _ (x : Float) (lo : T (le one x)) (hi : T (le x (fin false 1 (pos 51)))) where
  pub is_positive : T (positive x)
  is_positive = between one x (fin false 1 (pos 51)) tt tt lo hi

  few : num x / den x ≤ 2 ^ 51
  few =
      let c : num x * 1 ≤ 1 * 2 ^ 51 * den x = le→cross x (fin false 1 (pos 51)) is_positive tt hi in
      le_of_lt+1 (num x / den x) ((div-lt_iff_lt-mul (den_pos x)).1 (go (num x) (den x) (den_pos x) (le_trans (le_of_eq (sym (mul-one (num x)))) (le_trans c (le_of_eq (ap (λ (z : ℕ). z * den x) (one-mul (2 ^ 51))))))))
    where
      go : (n d : ℕ) → 0 < d → n ≤ 2251799813685248 * d → n < 2251799813685249 * d
      go n d D h = omega arith

      le_of_lt+1 : (a : ℕ) → a < 2251799813685249 → a ≤ 2251799813685248
      le_of_lt+1 a h = omega arith

  pub whole_is : to_unsigned 64 x ≡ num x / den x
  whole_is = whole_part x is_positive few

  pub whole_few : to_unsigned 64 x ≤ 2 ^ 51
  whole_few = le_trans (le_of_eq whole_is) few

  below : num x < to_unsigned 64 x * den x + den x
  below = lt_of_lt_of_le ((div-lt_iff_lt-mul (den_pos x)).0 (next (num x / den x))) (le_of_eq (add-mul (num x / den x) 1 (den x) ∙ ap (λ (z : ℕ). num x / den x * den x + z) (one-mul (den x)) ∙ ap (λ (z : ℕ). z * den x + den x) (sym whole_is)))
    where
      next : (n : ℕ) → n < n + 1
      next n = omega arith

  reach : to_unsigned 64 x * den x ≤ num x
  reach = le_trans (le_of_eq (ap (λ (z : ℕ). z * den x) whole_is)) (div-mul-le_self (num x) (den x))

  some_whole : 0 < to_unsigned 64 x
  some_whole =
      let c : 1 * den x ≤ num x * 1 = le→cross one x tt is_positive lo in
      let d : 1 * den x ≤ num x = le_trans c (le_of_eq (mul-one (num x))) in
      lt_of_lt_of_le (lit< tt) (le_trans ((le-div_iff_mul-le (den_pos x)).1 d) (le_of_eq (sym whole_is)))

  value_back : HasValue (of_int binary64 (pos (to_unsigned 64 x))) false (to_unsigned 64 x) 1
  value_back = exactly (to_unsigned 64 x) (le_trans whole_few (lit≤ tt))

  pub stays : le x (of_int binary64 (pos (to_unsigned 64 x))) ≡ true → to_unsigned 64 x ≡ whole_above x
  unfolding whole_above
  stays h =
      let b = of_int binary64 (pos (to_unsigned 64 x)) in
      let c : num x * 1 ≤ to_unsigned 64 x * den x =
      values_of_le x b (num x) (den x) (to_unsigned 64 x) 1 is_positive (positive_of_value b (to_unsigned 64 x) 1 value_back some_whole) (own_value x is_positive) value_back (subst T (sym h) tt) in
      sym (at_most (num x) (den x) (to_unsigned 64 x) (den_pos x) reach (le_trans (le_of_eq (sym (mul-one (num x)))) c))

  pub rises : le x (of_int binary64 (pos (to_unsigned 64 x))) ≡ false → to_unsigned 64 x + 1 ≡ whole_above x
  unfolding whole_above
  rises h =
      sym (above (num x) (den x) (to_unsigned 64 x) (den_pos x) below (not_le (num x) (to_unsigned 64 x * den x) (λ g. clash (subst T h (le_of_values x (of_int binary64 (pos (to_unsigned 64 x))) (num x) (den x) (to_unsigned 64 x) 1 (den_pos x) (lit< tt) (own_value x is_positive) value_back (le_trans (le_of_eq (mul-one (num x))) g))))))
    where
      clash : T false → ⊥
      clash t = t

      not_le : (a b : ℕ) → (a ≤ b → ⊥) → b < a
      not_le a b f = omega (arith, f)

  -- ---- what the truncation requires

  cross_few : num x ≤ 2251799813685248 * den x
  cross_few = le_trans (le_of_eq (sym (mul-one (num x)))) (le_trans (le→cross x (fin false 1 (pos 51)) is_positive tt hi) (le_of_eq (ap (λ (z : ℕ). z * den x) (one-mul (2 ^ 51)))))

above_minus_one : (d n : ℕ) → 0 < d → 0 < 1 * d + n * 1
above_minus_one d n h = omega arith

under_64 : (n d : ℕ) → 0 < d → n ≤ 2251799813685248 * d → n * 1 < 1 * 18446744073709551616 * d
under_64 n d D h = omega arith

truncates : (y : Float) → T (positive y) → num y ≤ 2251799813685248 * den y → T (lt (fin true 1 (pos 0)) y) × T (lt y (fin false 1 (pos 64)))
unfolding lt
truncates nan p h = absurd p
truncates (inf s) p h = absurd p
truncates (fin true m e) p h = absurd p
truncates (fin false m e) p h = (lt→ltb 0 (1 * down e + m * up e * 1) (above_minus_one (down e) (m * up e) (down_pos e)), lt→ltb (m * up e * 1) (1 * 2 ^ 64 * down e) (under_64 (m * up e) (down e) (down_pos e) h))

pub can_be_truncated : (x : Float) → T (le one x) → T (le x (fin false 1 (pos 51))) → T (lt (fin true 1 (pos 0)) x) × T (lt x (fin false 1 (pos 64)))
can_be_truncated x lo hi = truncates x (is_positive x lo hi) (cross_few x lo hi)

-- ---- the product of a whole number up to 2 ^ 46 and a factor from 1 to 32

ones_product : mul binary64 one one ≡ one
unfolding mul
ones_product = refl

most_product : mul binary64 (fin false 1 (pos 46)) (fin false 1 (pos 5)) ≡ fin false 1 (pos 51)
unfolding mul
most_product = refl

module _ (n : ℕ) (x : Float) (few : n ≤ 2 ^ 46) (lo : T (le one x)) (hi : T (le x (fin false 1 (pos 5)))) where
  factor_positive : T (positive x)
  factor_positive = between one x (fin false 1 (pos 5)) tt tt lo hi

  wax : HasValue (of_int binary64 (pos n)) false n 1
  wax = exactly n (le_trans few (lit≤ tt))

  abbrev t : Float
  t = of_int binary64 (pos n)

  module _ (some : 0 < n) where
    wax_positive : T (positive t)
    wax_positive = positive_of_value t n 1 wax some

    at_least_one : T (le one t)
    at_least_one = le_of_values one t 1 1 n 1 (lit< tt) (lit< tt) (refl, refl) wax (mul-le-mul_right 1 some)

    wax_at_most : T (le t (fin false 1 (pos 46)))
    wax_at_most = le_of_values t (fin false 1 (pos 46)) n 1 (2 ^ 46) 1 (lit< tt) (lit< tt) wax (refl, refl) (mul-le-mul_right 1 few)

    pub product_at_least_one : T (le one (mul binary64 t x))
    product_at_least_one = subst (λ (z : Float). T (le z (mul binary64 t x))) ones_product (mul_mono binary64 one t one x tt wax_positive tt factor_positive at_least_one lo)

    pub product_at_most : T (le (mul binary64 t x) (fin false 1 (pos 51)))
    product_at_most = subst (λ (z : Float). T (le (mul binary64 t x) z)) most_product (mul_mono binary64 t (fin false 1 (pos 46)) x (fin false 1 (pos 5)) wax_positive tt factor_positive tt wax_at_most hi)

-- ---- no wax

no_wax : of_int binary64 (pos 0) ≡ fin false 0 (pos 0)
unfolding of_int
no_wax = refl

times_nothing : (x : Float) → T (positive x) → (num (mul binary64 (fin false 0 (pos 0)) x) ≡ 0)
unfolding mul
times_nothing nan p = absurd p
times_nothing (inf s) p = absurd p
times_nothing (fin true m e) p = absurd p
times_nothing (fin false m e) p =
    let d = 1 * down e in
    let D : 0 < d = mul-pos (lit< tt) (down_pos e) in
    let z : 0 * 1 * (m * up e) ≡ 0 = zero-mul (m * up e) in
    let v : HasValue (round binary64 false 0 d) false 0 d = round_exact binary64 false 0 d 0 0 D (pow_pos 53) (pow_pos (low binary64 + suc 1023)) (sym (zero-mul d)) in
    ap (λ (a : ℕ). num (round binary64 false a d)) z ∙ none (num (round binary64 false 0 d)) d D (value→cross (round binary64 false 0 d) 0 d v ∙ zero-mul (den (round binary64 false 0 d)))
  where
    none : (a d : ℕ) → 0 < d → a * d ≡ 0 → a ≡ 0
    none zero d D h = refl
    none (suc a) d D h = absurd (omega (arith, mul-le-mul_right d (one_up a)))
      where
        one_up : (a : ℕ) → 1 ≤ suc a
        one_up a = omega arith

pub nothing_melts : (x : Float) → T (positive x) → num (mul binary64 (of_int binary64 (pos 0)) x) ≡ 0
nothing_melts x p = rw no_wax (times_nothing x p)

pub nothing_is_whole : (x : Float) → num x ≡ 0 → 0 ≡ whole_above x
unfolding whole_above
nothing_is_whole x h = sym (at_most (num x) (den x) 0 (den_pos x) (le_of_eq (zero-mul (den x) ∙ sym h)) (le_of_eq (h ∙ sym (zero-mul (den x)))))
