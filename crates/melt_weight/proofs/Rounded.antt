-- The wax total times the factor is rounded once. Assumes nothing.
use Rattle.std.proofs.Common.{◌≡◌, ℕ, zero, suc, ◌-◌, ◌*◌, ◌^◌, ◌<◌, ◌≤◌, pos, sym, ap, ◌∙◌, le_trans, le_of_eq, mul-le-mul_right, mul_assoc, mul_comm, zero-mul, mul_right_comm, le_of_mul-le-mul_right, arith, lit≤}
use native.Mathlib.Nat.{mul-sub}
use lib.Ieee.{binary64, mul, of_int, of_bits}
use lib.Ieee.Positive.{num, den, den_pos}
use Rattle.melt_weight.specs.Weight.{least_factor, most_factor}
use Rattle.melt_weight.specs.Sheet.{Near, digits_of, shift_of}
use Rattle.melt_weight.proofs.Round.{product_near}
use Rattle.melt_weight.proofs.Whole.{nothing_melts}
use Rattle.melt_weight.proofs.Factor.{a_factor_is_its_bits, factor_positive_of_bits, bits_at_least_one, bits_at_most}

-- ---- the exact fraction under another name

scale : (x y k : ℕ) → (x - y) * k ≡ x * k - y * k
scale x y k = mul_comm (x - y) k ∙ mul-sub k x y ∙ ap (λ (z : ℕ). z - k * y) (mul_comm k x) ∙ ap (λ (z : ℕ). x * k - z) (mul_comm k y)

near_exact : (g d a c a' c' : ℕ) → 0 < c → a * c' ≡ a' * c → Near g d a c → Near g d a' c'
near_exact g d a c a' c' C e h = (cancel (g * c') (a' * d) (g * c) (a * d) one two h.0, cancel' (g * c') (a' * d) (g * c) (a * d) one two h.1)
  where
    one : g * c' * c ≡ g * c * c'
    one = mul_right_comm g c' c

    two : a' * d * c ≡ a * d * c'
    two = mul_right_comm a' d c ∙ ap (λ (z : ℕ). z * d) (sym e) ∙ mul_right_comm a c' d

    cancel : (x y u v : ℕ) → x * c ≡ u * c' → y * c ≡ v * c' → (u - v) * 2 ^ 53 ≤ v → (x - y) * 2 ^ 53 ≤ y
    cancel x y u v p q h' =
        le_of_mul-le-mul_right
        (le_trans (le_of_eq (mul_right_comm (x - y) (2 ^ 53) c ∙ ap (λ (z : ℕ). z * 2 ^ 53) (scale x y c ∙ ap (λ (z : ℕ). z - y * c) p ∙ ap (λ (z : ℕ). u * c' - z) q ∙ sym (scale u v c')) ∙ mul_right_comm (u - v) c' (2 ^ 53)))
        (le_trans (mul-le-mul_right c' h') (le_of_eq (sym q)))) C

    cancel' : (x y u v : ℕ) → x * c ≡ u * c' → y * c ≡ v * c' → (v - u) * 2 ^ 53 ≤ v → (y - x) * 2 ^ 53 ≤ y
    cancel' x y u v p q h' =
        le_of_mul-le-mul_right
        (le_trans (le_of_eq (mul_right_comm (y - x) (2 ^ 53) c ∙ ap (λ (z : ℕ). z * 2 ^ 53) (scale y x c ∙ ap (λ (z : ℕ). z - x * c) q ∙ ap (λ (z : ℕ). v * c' - z) p ∙ sym (scale v u c')) ∙ mul_right_comm (v - u) c' (2 ^ 53)))
        (le_trans (mul-le-mul_right c' h') (le_of_eq (sym q)))) C

near_nothing : (g d a c : ℕ) → g ≡ 0 → a ≡ 0 → Near g d a c
near_nothing g d a c p q = rw (p, q) (nil (d) c)
  where
    nil : (d c : ℕ) → ((0 * c - 0 * d) * 2 ^ 53 ≤ 0 * d) × ((0 * d - 0 * c) * 2 ^ 53 ≤ 0 * d)
    nil d c = rw (zero-mul c, zero-mul d) (omega arith, omega arith)

-- "the rounded product differs from the exact one by at most one part in 2 to the 53rd of it, the exact one taken as whole numbers from the
-- factor's bits"
pub the_product_is_rounded_once : (total b : ℕ) → total ≤ 2 ^ 46 → least_factor ≤ b → b ≤ most_factor
    → Near (num (mul binary64 (of_int binary64 (pos total)) (of_bits binary64 b))) (den (mul binary64 (of_int binary64 (pos total)) (of_bits binary64 b))) (total * digits_of b) (2 ^ shift_of b)
the_product_is_rounded_once zero b few lo hi = near_nothing _ _ _ _ (nothing_melts (of_bits binary64 b) (factor_positive_of_bits b lo hi)) (zero-mul (digits_of b))
the_product_is_rounded_once (suc n) b few lo hi =
    let x = of_bits binary64 b in
    near_exact _ _ (suc n * num x) (den x) (suc n * digits_of b) (2 ^ shift_of b) (den_pos x)
    (mul_assoc (suc n) (num x) (2 ^ shift_of b) ∙ ap (λ (z : ℕ). suc n * z) (a_factor_is_its_bits b lo hi) ∙ sym (mul_assoc (suc n) (digits_of b) (den x)))
    (product_near (suc n) x (omega arith) (le_trans few (lit≤ tt)) (bits_at_least_one b lo hi) (bits_at_most b lo hi))
