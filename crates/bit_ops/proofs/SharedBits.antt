-- The highest bit at which two numbers differ says how many leading bits they share. Assumes nothing.
use mathlib.Core.Path.{◌≡◌, refl, sym, ap, ◌∙◌}
use Prim.Native.Nat.{ℕ, zero, suc, ◌+◌, ◌-◌, ◌/◌, ◌^◌, ◌≤◌, ◌<◌}
use native.Mathlib.Nat.{pow-succ', div-div-eq-div-mul, div-one, div-eq_of_lt}
use native.Mathlib.Decide.{ℕ_discrete, dec_lt}
use native.Mathlib.Omega.{arith}
use borrow.Author.Tests.{eq-eqb, ne_eqb}
use lib.Bits.{bit_xor, xor_add_and, and_le_l, and_le_r, xor_self, xor_shr}
use lib.Count.{count_leading_zeros, leading_of_zero}
use Rattle.bit_ops.specs.Separate.{shared}

-- bit k, counted from the lowest, is the highest at which a and b differ, and is one of n bits
pub record Top (n a b k : ℕ) : Type 0 where
  pub low : k < n
  pub differ : a / 2 ^ k ≡ b / 2 ^ k → ⊥
  pub same : a / 2 ^ suc k ≡ b / 2 ^ suc k

half_pow : (a k : ℕ) → a / 2 ^ suc k ≡ a / 2 / 2 ^ k
half_pow a k = rw (pow-succ' 2 k) (sym (div-div-eq-div-mul a 2 (2 ^ k)))

pub shared_same : (n a b : ℕ) → a ≡ b → shared n a b ≡ n
unfolding shared
shared_same zero a b e = refl
shared_same (suc n) a b e = rw (shared, eq-eqb a b e)

pub shared_top : (n a b k : ℕ) → Top n a b k → shared n a b + suc k ≡ n
unfolding shared
shared_top zero a b k t = omega arith
shared_top (suc n) a b zero t =
    let ne : a ≡ b → ⊥ = λ e. t.differ (ap (λ (m : ℕ). m / 2 ^ 0) e) in
    rw (shared, ne_eqb a b ne, shared_same n (a / 2) (b / 2) t.same) (omega arith)
shared_top (suc n) a b (suc k) t =
    let ne : a ≡ b → ⊥ = λ e. t.differ (ap (λ (m : ℕ). m / 2 ^ suc k) e) in
    let ih : shared n (a / 2) (b / 2) + suc k ≡ n = shared_top n (a / 2) (b / 2) k (record {
      low = omega (arith, t.low);
      differ = λ e. t.differ (half_pow a k ∙ e ∙ sym (half_pow b k));
      same = sym (half_pow a (suc k)) ∙ t.same ∙ half_pow b (suc k);
    }) in
    rw (shared, ne_eqb a b ne) (omega arith)

shared_le : (n a b : ℕ) → shared n a b ≤ n
unfolding shared
shared_le zero a b = omega arith
shared_le (suc n) a b = go (ℕ_discrete a b) (shared_le n (a / 2) (b / 2))
  where
    go : Dec (a ≡ b) → shared n (a / 2) (b / 2) ≤ n → shared (suc n) a b ≤ suc n
    go (yes e) ih = rw (shared_same (suc n) a b e) (omega arith)
    go (no ne) ih = rw (shared, ne_eqb a b ne) (omega arith)

-- as many leading bits are equal, where those above the n bits are
pub shared_agree : (n a b : ℕ) → a / 2 ^ n ≡ b / 2 ^ n → a / 2 ^ (n - shared n a b) ≡ b / 2 ^ (n - shared n a b)
unfolding shared
shared_agree zero a b h = h
shared_agree (suc n) a b h = go (ℕ_discrete a b) (shared_agree n (a / 2) (b / 2) (sym (half_pow a n) ∙ h ∙ half_pow b n)) (shared_le n (a / 2) (b / 2))
  where
    go : Dec (a ≡ b) → a / 2 / 2 ^ (n - shared n (a / 2) (b / 2)) ≡ b / 2 / 2 ^ (n - shared n (a / 2) (b / 2)) → shared n (a / 2) (b / 2) ≤ n
        → a / 2 ^ (suc n - shared (suc n) a b) ≡ b / 2 ^ (suc n - shared (suc n) a b)
    go (yes e) ih l = ap (λ (x : ℕ). x / 2 ^ (suc n - shared (suc n) a b)) e
    go (no ne) ih l =
        let e : suc n - shared n (a / 2) (b / 2) ≡ suc (n - shared n (a / 2) (b / 2)) = omega arith in
        rw (shared, ne_eqb a b ne, e) (half_pow a (n - shared n (a / 2) (b / 2)) ∙ ih ∙ sym (half_pow b (n - shared n (a / 2) (b / 2))))

-- and the next bit is not, where the numbers differ at all
pub next_differs : (n a b : ℕ) → (a ≡ b → ⊥) → a / 2 ^ (n - (shared n a b + 1)) ≡ b / 2 ^ (n - (shared n a b + 1)) → ⊥
unfolding shared
next_differs zero a b ne h = ne (sym (div-one a) ∙ h ∙ div-one b)
next_differs (suc n) a b ne h = go (dec_lt (shared n (a / 2) (b / 2)) n) (ℕ_discrete (a / 2) (b / 2)) (next_differs n (a / 2) (b / 2)) (rw (shared, ne_eqb a b ne) at h)
  where
    lowest : (s : ℕ) → suc n - (s + 1) ≡ 0 → a / 2 ^ (suc n - (s + 1)) ≡ b / 2 ^ (suc n - (s + 1)) → ⊥
    lowest s e q = ne (sym (div-one a) ∙ (rw e at q) ∙ div-one b)

    go : Dec (shared n (a / 2) (b / 2) < n) → Dec (a / 2 ≡ b / 2)
        → ((a / 2 ≡ b / 2 → ⊥) → a / 2 / 2 ^ (n - (shared n (a / 2) (b / 2) + 1)) ≡ b / 2 / 2 ^ (n - (shared n (a / 2) (b / 2) + 1)) → ⊥)
        → a / 2 ^ (suc n - (shared n (a / 2) (b / 2) + 1)) ≡ b / 2 ^ (suc n - (shared n (a / 2) (b / 2) + 1)) → ⊥
    go (no l) d ih q = lowest (shared n (a / 2) (b / 2)) (omega arith) q
    go (yes l) (yes e) ih q = omega (arith, shared_same n (a / 2) (b / 2) e, l)
    go (yes l) (no ne') ih q =
        let s : ℕ = shared n (a / 2) (b / 2) in
        let e : suc n - (s + 1) ≡ suc (n - (s + 1)) = omega arith in
        ih ne' (sym (half_pow a (n - (s + 1))) ∙ (rw e at q) ∙ half_pow b (n - (s + 1)))

-- numbers of n bits have nothing above them
pub none_above : (n a b : ℕ) → a < 2 ^ n → b < 2 ^ n → a / 2 ^ n ≡ b / 2 ^ n
none_above n a b ha hb = div-eq_of_lt ha ∙ sym (div-eq_of_lt hb)

-- so two numbers that differ, and not above their n bits, have a highest bit at which they do
pub top : (n a b : ℕ) → a / 2 ^ n ≡ b / 2 ^ n → (a ≡ b → ⊥) → Top n a b (n - (shared n a b + 1))
top n a b h ne = record {
  low = omega (arith, less);
  differ = next_differs n a b ne;
  same = let e : suc (n - (shared n a b + 1)) ≡ n - shared n a b = omega (arith, less) in rw e (shared_agree n a b h);
}
  where
    less : shared n a b < n
    less = elim (dec_lt (shared n a b) n) [
      | yes l ↦ l
      | no l ↦ absurd (ne (let e : n - shared n a b ≡ 0 = omega arith in let q = shared_agree n a b h in sym (div-one a) ∙ (rw e at q) ∙ div-one b))
    ]

-- no bit of the exclusive or is set only where the numbers are one
xor_of_different : (a b : ℕ) → (a ≡ b → ⊥) → bit_xor a b ≡ 0 → ⊥
xor_of_different a b ne e = ne (omega (arith, e, xor_add_and a b, and_le_l a b, and_le_r a b))

leading_halved : (n x : ℕ) → (x ≡ 0 → ⊥) → count_leading_zeros (suc n) x ≡ count_leading_zeros n (x / 2)
unfolding count_leading_zeros
leading_halved n zero ne = absurd (ne refl)
leading_halved n (suc x) ne = refl

pub shared_bits_by_xor : (n a b : ℕ) → shared n a b ≡ count_leading_zeros n (bit_xor a b)
unfolding shared count_leading_zeros
shared_bits_by_xor zero a b = refl
shared_bits_by_xor (suc n) a b = go (ℕ_discrete a b) (shared_bits_by_xor n (a / 2) (b / 2))
  where
    go : Dec (a ≡ b) → shared n (a / 2) (b / 2) ≡ count_leading_zeros n (bit_xor (a / 2) (b / 2)) → shared (suc n) a b ≡ count_leading_zeros (suc n) (bit_xor a b)
    go (yes e) ih = shared_same (suc n) a b e ∙ sym (ap (λ (x : ℕ). count_leading_zeros (suc n) (bit_xor x b)) e ∙ ap (count_leading_zeros (suc n)) (xor_self b) ∙ leading_of_zero (suc n))
    go (no ne) ih =
        rw (shared, ne_eqb a b ne) ih
        ∙ ap (count_leading_zeros n) (sym (xor_shr a b 1)) ∙ sym (leading_halved n (bit_xor a b) (xor_of_different a b ne))
