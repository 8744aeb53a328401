-- What `shared_bits` and `separate_of` are: the bits before that many agree and the next one differs; the separator of a and b, for a below b,
-- lies above a and not above b. Document 01's two worked separators. Assumes nothing.
use mathlib.Core.Path.{◌≡◌, refl, ap, ◌∙◌}
use mathlib.Core.Bool.{true, false}
use mathlib.Core.List.{List, ◌∷◌}
use Prim.Native.Nat.{ℕ, ◌+◌, ◌-◌, ◌*◌, ◌/◌, ◌^◌, ◌≤◌, ◌<◌}
use native.Mathlib.Nat.{mul-le-mul_right, div-mul-le_self, lt-div-mul-add}
use native.Mathlib.Decide.{ℕ_discrete}
use native.Mathlib.Omega.{arith}
use borrow.Author.Tests.{eq-eqb}
use lib.Pow.{pow_pos, shr_mono}
use lib.ListN.{length}
use Rattle.refusal.specs.Refusal.{equal_keys}
use Rattle.bit_ops.specs.Key.{Key, num, bytes_of, eq_key}
use Rattle.bit_ops.specs.Separate.{shared, shared_bits, leading, separate_of, separate_verdict, separate_leaves}
use Rattle.bit_ops.specs.Steps.{zeros, cut_after}
use Rattle.bit_ops.proofs.Number.{key_lt, num_bytes_of, length_bytes_of}
use Rattle.bit_ops.proofs.Order.{eq_key_of_different}
use Rattle.bit_ops.proofs.SharedBits.{top, shared_top, shared_same, shared_agree, next_differs, none_above}
use Rattle.bit_ops.proofs.Cutting.{cut_after_number}

-- as many leading bits agree
pub shared_bits_agree : (a b : List ℕ) → Key a → Key b → leading 256 (shared_bits a b) (num a) ≡ leading 256 (shared_bits a b) (num b)
unfolding shared_bits leading
shared_bits_agree a b ha hb = shared_agree 256 (num a) (num b) (none_above 256 (num a) (num b) (key_lt ha) (key_lt hb))

-- and the next one doesn't
pub next_bit_differs : (a b : List ℕ) → (num a ≡ num b → ⊥) → leading 256 (shared_bits a b + 1) (num a) ≡ leading 256 (shared_bits a b + 1) (num b) → ⊥
unfolding shared_bits leading
next_bit_differs a b = next_differs 256 (num a) (num b)

-- the number that a separator spells
separator_number : (a b : List ℕ) → num (separate_of a b) ≡ leading 256 (shared_bits a b + 1) (num b) * 2 ^ (256 - (shared_bits a b + 1))
unfolding separate_of
separator_number a b = num_bytes_of 31 (leading 256 (shared_bits a b + 1) (num b) * 2 ^ (256 - (shared_bits a b + 1)))

pub separator_is_at_most_b : (a b : List ℕ) → num (separate_of a b) ≤ num b
unfolding leading
separator_is_at_most_b a b = rw (separator_number a b) (div-mul-le_self (num b) (2 ^ (256 - (shared_bits a b + 1))))

pub separator_is_above_a : (a b : List ℕ) → num a < num b → num a < num (separate_of a b)
unfolding leading
separator_is_above_a a b h =
    let m : ℕ = 256 - (shared_bits a b + 1) in
    let ne : num a / 2 ^ m ≡ num b / 2 ^ m → ⊥ = next_bit_differs a b (λ e. omega arith) in
    let up : num a / 2 ^ m ≤ num b / 2 ^ m = shr_mono m (omega arith) in
    let less : num a / 2 ^ m + 1 ≤ num b / 2 ^ m = omega arith in
    rw (separator_number a b) (omega (arith, mul-le-mul_right (2 ^ m) less, lt-div-mul-add {a = num a} (pow_pos m)))

pub separator_has_32_bytes : (a b : List ℕ) → length (separate_of a b) ≡ 32
unfolding separate_of
separator_has_32_bytes a b = length_bytes_of 32 (leading 256 (shared_bits a b + 1) (num b) * 2 ^ (256 - (shared_bits a b + 1)))

-- document 01, "Bench trials": "keys starting 10 and 13 (hex, zeros after): starts 12", "00 and 80: starts 80"
pub separator_of_10_and_13 : separate_of (0x10 ∷ zeros 31) (0x13 ∷ zeros 31) ≡ 0x12 ∷ zeros 31
unfolding separate_of shared_bits shared leading bytes_of num
separator_of_10_and_13 = refl

pub separator_of_00_and_80 : separate_of (zeros 32) (0x80 ∷ zeros 31) ≡ 0x80 ∷ zeros 31
unfolding separate_of shared_bits shared leading bytes_of num
separator_of_00_and_80 = refl

-- ---- what `separate` answers and leaves

shared_of_different : (a b : List ℕ) → Key a → Key b → (num a ≡ num b → ⊥) → shared_bits a b < 256
unfolding shared_bits
shared_of_different a b ha hb ne =
    let h = top 256 (num a) (num b) (none_above 256 (num a) (num b) (key_lt ha) (key_lt hb)) ne in
    omega (arith, shared_top 256 (num a) (num b) (256 - (shared 256 (num a) (num b) + 1)) h)

-- keys that share fewer than 256 bits differ
different : (a b : List ℕ) → shared_bits a b < 256 → a ≡ b → ⊥
unfolding shared_bits
different a b h e = omega (arith, shared_same 256 (num a) (num b) (ap num e), h)

-- keys that share all bits are one
same : (a b : List ℕ) → Key a → Key b → 256 ≤ shared_bits a b → eq_key a b ≡ true
unfolding eq_key
same a b ha hb h = elim (ℕ_discrete (num a) (num b)) [
  | yes e ↦ eq-eqb (num a) (num b) e
  | no ne ↦ absurd (omega (arith, shared_of_different a b ha hb ne, h))
]

module _ (a b held : List ℕ) (n : ℕ) (e : n ≡ shared_bits a b) (ha : Key a) (hb : Key b) where
  pub refused : 256 ≤ n → (equal_keys ≡ separate_verdict a b) × (held ≡ separate_leaves a b held)
  unfolding separate_verdict separate_leaves
  refused h = let q : eq_key a b ≡ true = same a b ha hb (rw e at h) in (rw q refl, rw q refl)

  pub made : n < 256 → (0 ≡ separate_verdict a b) × (cut_after b n ≡ separate_leaves a b held)
  unfolding separate_verdict separate_leaves separate_of
  made h =
      let q : eq_key a b ≡ false = eq_key_of_different a b ha hb (different a b (rw e at h)) in
      (rw q refl, rw q (cut_after_number b n hb h ∙ ap (λ (s : ℕ). bytes_of 32 (leading 256 (s + 1) (num b) * 2 ^ (256 - (s + 1)))) e))
