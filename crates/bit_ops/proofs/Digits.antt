-- Numbers that agree above a digit of d bits: their order and their shared bits are those of the digits. Assumes nothing.
use mathlib.Core.Path.{◌≡◌, refl, sym, ap, ◌∙◌}
use mathlib.Core.Bool.{Bool, true, false}
use Prim.Native.Nat.{ℕ, suc, ◌+◌, ◌-◌, ◌*◌, ◌/◌, ◌^◌, ◌≤◌, ◌<◌}
use native.Mathlib.Nat.{mul-le-mul_right, mul-add-div_right, div-div-eq-div-mul}
use native.Mathlib.Omega.{arith}
use borrow.Author.Tests.{lt-ltb, le-ltb, ltb-true, ltb-false}
use lib.Dec.{ltb}
use lib.Pow.{pow_pos, pow-add, shl-shr}
use lib.Arith.{digits_div}
use Rattle.bit_ops.specs.Separate.{shared}
use Rattle.bit_ops.proofs.SharedBits.{Top, top, shared_top, none_above}

-- the order of two numbers that agree above the digits x and y; the parts below them are less than w
pub lt_digit : (base w p x y s t : ℕ) → s < w → t < w → (x ≡ y → ⊥) → ltb x y ≡ ltb ((p * base + x) * w + s) ((p * base + y) * w + t)
lt_digit base w p x y s t hs ht ne = go (ltb x y) refl
  where
    go : (r : Bool) → ltb x y ≡ r → r ≡ ltb ((p * base + x) * w + s) ((p * base + y) * w + t)
    go true e =
        let h : x + 1 ≤ y = omega (arith, ltb-true) in
        sym (lt-ltb ((p * base + x) * w + s) ((p * base + y) * w + t) (omega (arith, mul-le-mul_right w h)))
    go false e =
        let h : y + 1 ≤ x = omega (arith, ltb-false) in
        sym (le-ltb ((p * base + x) * w + s) ((p * base + y) * w + t) (omega (arith, mul-le-mul_right w h)))

-- 2 ^ d by the j low bits and the others
pow_parts : (d j : ℕ) → j ≤ d → 2 ^ d ≡ 2 ^ (d - j) * 2 ^ j
pow_parts d j h = let e : d ≡ d - j + j = omega arith in ap (λ (k : ℕ). 2 ^ k) e ∙ pow-add 2 (d - j) j

-- bit r of a byte, counted from the top
pub bit_of_byte : (r : ℕ) → r < 8 → 128 / 2 ^ r ≡ 2 ^ (7 - r)
bit_of_byte r h = ap (λ (x : ℕ). x / 2 ^ r) (pow_parts 7 r (omega arith)) ∙ shl-shr (2 ^ (7 - r)) r

-- a number of d-bit digits without its j lowest bits
high_div : (d p x j : ℕ) → j ≤ d → (p * 2 ^ d + x) / 2 ^ j ≡ p * 2 ^ (d - j) + x / 2 ^ j
high_div d p x j h =
    let f : p * 2 ^ d ≡ p * 2 ^ (d - j) * 2 ^ j = rw (pow_parts d j h) (omega arith) in
    rw f (mul-add-div_right (pow_pos j) (p * 2 ^ (d - j)) x)

-- the same where e bits stand below the digit
pub div_at : (d e p x s j : ℕ) → s < 2 ^ e → j ≤ d → ((p * 2 ^ d + x) * 2 ^ e + s) / 2 ^ (e + j) ≡ p * 2 ^ (d - j) + x / 2 ^ j
div_at d e p x s j hs h =
    rw (pow-add 2 e j, ← div-div-eq-div-mul ((p * 2 ^ d + x) * 2 ^ e + s) (2 ^ e) (2 ^ j), digits_div (p * 2 ^ d + x) hs) (high_div d p x j h)

-- what is kept of a number down to bit j of its digit y
pub keep_digit : (d e p y j : ℕ) → j ≤ d → (p * 2 ^ d + y / 2 ^ j * 2 ^ j) * 2 ^ e ≡ (p * 2 ^ (d - j) + y / 2 ^ j) * 2 ^ (e + j)
keep_digit d e p y j h =
    rw (pow-add 2 e j) (omega (arith, ap (λ (z : ℕ). p * 2 ^ e * z) (pow_parts d j h)))

module _ (n d e p x y s t : ℕ) (hs : s < 2 ^ e) (ht : t < 2 ^ e) (within : e + d ≤ n) where
  -- the highest bit at which the numbers differ is that of the digits
  top_digit : (k : ℕ) → Top d x y k → Top n ((p * 2 ^ d + x) * 2 ^ e + s) ((p * 2 ^ d + y) * 2 ^ e + t) (e + k)
  top_digit k h = record {
    low = omega (arith, h.low);
    differ = λ q. h.differ (omega (arith, rw (div_at d e p x s k hs (omega (arith, h.low)), div_at d e p y t k ht (omega (arith, h.low))) at q));
    same =
        let i : suc (e + k) ≡ e + suc k = omega arith in
        rw (i, div_at d e p x s (suc k) hs (omega (arith, h.low)), div_at d e p y t (suc k) ht (omega (arith, h.low)), h.same);
  }

  pub shared_digit : x < 2 ^ d → y < 2 ^ d → (x ≡ y → ⊥) → shared n ((p * 2 ^ d + x) * 2 ^ e + s) ((p * 2 ^ d + y) * 2 ^ e + t) ≡ (n - (e + d)) + shared d x y
  shared_digit hx hy ne =
      let k : ℕ = d - (shared d x y + 1) in
      let h : Top d x y k = top d x y (none_above d x y hx hy) ne in
      omega (arith, shared_top d x y k h, shared_top n ((p * 2 ^ d + x) * 2 ^ e + s) ((p * 2 ^ d + y) * 2 ^ e + t) (e + k) (top_digit k h))
