-- Keys by their four words of 8 bytes: what a word spells, and that the first word that differs decides the order and the shared bits.
-- Assumes nothing.
use mathlib.Core.Path.{◌≡◌, sym, ap, ◌∙◌}
use mathlib.Core.List.{List, [], ◌∷◌}
use Prim.Native.Nat.{ℕ, ◌+◌, ◌-◌, ◌*◌, ◌^◌, ◌≤◌, ◌<◌}
use native.Mathlib.Decide.{ℕ_discrete, dec_lt}
use native.Mathlib.Omega.{arith}
use borrow.Author.Tests.{le-ltb, eq-eqb, ne_eqb}
use Rattle.std.specs.Int.{w64, from_be_bytes}
use lib.Bits.{bit_xor}
use lib.Count.{count_leading_zeros}
use lib.Dec.{ltb, eqb}
use lib.ListN.{length, take, drop, length-drop, take-append-drop}
use lib.Pow.{pow-add}
use lib.Seq.{take-add, drop-drop, take_all}
use Rattle.bit_ops.specs.Key.{Key, num, lt_key, eq_key}
use Rattle.bit_ops.specs.Separate.{shared, shared_bits}
use Rattle.bit_ops.specs.Steps.{word_at, Differing}
use Rattle.bit_ops.proofs.Number.{num_lt, num_append, num_inj, pow256, part_bytes, part_length, rest_lt}
use Rattle.bit_ops.proofs.Order.{eq_key_of_equal, eq_key_of_different}
use Rattle.bit_ops.proofs.SharedBits.{shared_same, shared_bits_by_xor}
use Rattle.bit_ops.proofs.Digits.{lt_digit, shared_digit}

-- the library's number of eight bytes, the first one the highest
eight : (l : List ℕ) → length l ≡ 8 → from_be_bytes w64 l ≡ num l
unfolding num
eight (a ∷ b ∷ c ∷ d ∷ e ∷ f ∷ g ∷ h ∷ []) n = omega arith
eight [] n = absurd (omega arith)
eight (a ∷ []) n = absurd (omega arith)
eight (a ∷ b ∷ []) n = absurd (omega arith)
eight (a ∷ b ∷ c ∷ []) n = absurd (omega arith)
eight (a ∷ b ∷ c ∷ d ∷ []) n = absurd (omega arith)
eight (a ∷ b ∷ c ∷ d ∷ e ∷ []) n = absurd (omega arith)
eight (a ∷ b ∷ c ∷ d ∷ e ∷ f ∷ []) n = absurd (omega arith)
eight (a ∷ b ∷ c ∷ d ∷ e ∷ f ∷ g ∷ []) n = absurd (omega arith)
eight (a ∷ b ∷ c ∷ d ∷ e ∷ f ∷ g ∷ h ∷ i ∷ l) n = absurd (omega arith)

pub eight_spell : (xs : List ℕ) (at : ℕ) (b : List ℕ) (r : ℕ) → at + 8 ≤ length xs → b ≡ take 8 (drop at xs) → r ≡ from_be_bytes w64 b → r ≡ num (take 8 (drop at xs))
eight_spell xs at b r l e q = rw (q, e) (eight (take 8 (drop at xs)) (part_length 8 at xs l))

-- ---- keys by words

word_lt : (k : List ℕ) (i : ℕ) → Key k → i < 4 → word_at k i < 2 ^ 64
unfolding word_at
word_lt k i h w = rw (part_length 8 (8 * i) k (omega (arith, h.size))) at (num_lt (take 8 (drop (8 * i) k)) (part_bytes 8 (8 * i) k h.bytes))

-- a key's number by word i: the words before it, it, and those after it
word_split : (k : List ℕ) (i : ℕ) → length k ≡ 32 → i < 4
    → num k ≡ (num (take (8 * i) k) * 2 ^ 64 + word_at k i) * 2 ^ (8 * (24 - 8 * i)) + num (drop (8 * i + 8) k)
unfolding word_at
word_split k i l h =
    let front : num k ≡ num (take (8 * i) k) * 256 ^ length (drop (8 * i) k) + num (drop (8 * i) k) =
    ap num (sym (take-append-drop (8 * i) k)) ∙ num_append (take (8 * i) k) (drop (8 * i) k) in
    let word : num (drop (8 * i) k) ≡ num (take 8 (drop (8 * i) k)) * 256 ^ length (drop (8 * i + 8) k) + num (drop (8 * i + 8) k) =
    ap num (sym (take-append-drop 8 (drop (8 * i) k))) ∙ rw (drop-drop 8 (8 * i) k) (num_append (take 8 (drop (8 * i) k)) (drop (8 * i + 8) k)) in
    let m : length (drop (8 * i + 8) k) ≡ 24 - 8 * i = length-drop (8 * i + 8) k ∙ omega arith in
    let n : length (drop (8 * i) k) ≡ 8 + (24 - 8 * i) = length-drop (8 * i) k ∙ omega arith in
    rw (front, word, m, n, pow-add 256 8 (24 - 8 * i), pow256 (24 - 8 * i)) (omega arith)

after_lt : (k : List ℕ) (i : ℕ) → Key k → i < 4 → num (drop (8 * i + 8) k) < 2 ^ (8 * (24 - 8 * i))
after_lt k i h w =
    let e : length k - (8 * i + 8) ≡ 24 - 8 * i = omega (arith, h.size) in
    rw (e, pow256 (24 - 8 * i)) at (rest_lt k (8 * i + 8) h.bytes)

-- one more word that two keys share
pub word_more : (a b : List ℕ) (i : ℕ) → Key a → Key b → i < 4 → take (8 * i) a ≡ take (8 * i) b → word_at a i ≡ word_at b i → take (8 * (i + 1)) a ≡ take (8 * (i + 1)) b
unfolding word_at
word_more a b i ha hb h e w =
    let n : 8 * (i + 1) ≡ 8 * i + 8 = omega arith in
    let la : length (take 8 (drop (8 * i) a)) ≡ 8 = part_length 8 (8 * i) a (omega (arith, ha.size)) in
    let lb : length (take 8 (drop (8 * i) b)) ≡ 8 = part_length 8 (8 * i) b (omega (arith, hb.size)) in
    let same : take 8 (drop (8 * i) a) ≡ take 8 (drop (8 * i) b) =
    num_inj (take 8 (drop (8 * i) a)) (take 8 (drop (8 * i) b)) (la ∙ sym lb) (part_bytes 8 (8 * i) a ha.bytes) (part_bytes 8 (8 * i) b hb.bytes) w in
    rw (n, take-add (8 * i) 8 a, take-add (8 * i) 8 b, e, same)

-- the loop over the words: one more is shared, this one differs, only the last may differ
module _ (a b : List ℕ) (ha : Key a) (hb : Key b) (i : ℕ) (e : take (8 * i) a ≡ take (8 * i) b) (x y : ℕ) (xa : x ≡ word_at a i) (yb : y ≡ word_at b i) where
  pub word_shared_too : i < 3 → x ≡ y → take (8 * (i + 1)) a ≡ take (8 * (i + 1)) b
  word_shared_too h w = word_more a b i ha hb (omega arith) e (sym xa ∙ w ∙ yb)

  pub word_differs : i < 3 → (x ≡ y → ⊥) → Differing a b i x y
  word_differs h ne = record { key_a = ha; key_b = hb; within = omega arith; before = e; in_a = xa; in_b = yb; differ = λ l. ne }

  pub last_word : i ≤ 3 → 3 ≤ i → Differing a b i x y
  last_word h g = record { key_a = ha; key_b = hb; within = omega arith; before = e; in_a = xa; in_b = yb; differ = λ l. absurd (omega arith) }

module _ (a b : List ℕ) (at x y : ℕ) (d : Differing a b at x y) where
  last : x ≡ y → 3 ≤ at
  last e = elim (dec_lt at 3) [ yes l ↦ absurd (d.differ l e) | no l ↦ omega arith ]

  -- no word differs: the keys are one
  same_words : x ≡ y → a ≡ b
  same_words e =
      let at_end : 3 ≤ at = last e in
      let all : take (8 * (at + 1)) a ≡ take (8 * (at + 1)) b = word_more a b at d.key_a d.key_b d.within d.before (sym d.in_a ∙ e ∙ d.in_b) in
      let p : take (8 * (at + 1)) a ≡ a = take_all (8 * (at + 1)) a (omega (arith, d.key_a.size)) in
      let q : take (8 * (at + 1)) b ≡ b = take_all (8 * (at + 1)) b (omega (arith, d.key_b.size)) in
      sym p ∙ all ∙ q

  pub word_less : ltb x y ≡ lt_key a b
  unfolding lt_key
  word_less = elim (ℕ_discrete x y) [
    | yes e ↦ rw (e, same_words e, le-ltb y y (omega arith)) (sym (le-ltb (num b) (num b) (omega arith)))
    | no ne ↦ rw (d.in_a, d.in_b, word_split a at d.key_a.size d.within, word_split b at d.key_b.size d.within, d.before)
        (lt_digit (2 ^ 64) (2 ^ (8 * (24 - 8 * at))) (num (take (8 * at) b)) (word_at a at) (word_at b at) (num (drop (8 * at + 8) a)) (num (drop (8 * at + 8) b))
        (after_lt a at d.key_a d.within) (after_lt b at d.key_b d.within) (λ w. ne (d.in_a ∙ w ∙ sym d.in_b)))
  ]

  pub word_equal : eqb x y ≡ eq_key a b
  word_equal = elim (ℕ_discrete x y) [
    | yes e ↦ rw (eq-eqb x y e) (sym (eq_key_of_equal a b (same_words e)))
    | no ne ↦ rw (ne_eqb x y ne) (sym (eq_key_of_different a b d.key_a d.key_b (λ q. ne (d.in_a ∙ ap (λ (k : List ℕ). word_at k at) q ∙ sym d.in_b))))
  ]

  by_words : shared 64 x y + 64 * at ≡ shared_bits a b
  unfolding shared_bits
  by_words = elim (ℕ_discrete x y) [
    | yes e ↦ omega (arith, shared_same 64 x y e, shared_same 256 (num a) (num b) (ap num (same_words e)), d.within, last e)
    | no ne ↦ rw (d.in_a, d.in_b, word_split a at d.key_a.size d.within, word_split b at d.key_b.size d.within, d.before)
        (omega (
          arith,
          d.within,
          shared_digit 256 64 (8 * (24 - 8 * at)) (num (take (8 * at) b)) (word_at a at) (word_at b at) (num (drop (8 * at + 8) a)) (num (drop (8 * at + 8) b))
              (after_lt a at d.key_a d.within) (after_lt b at d.key_b d.within) (omega (arith, d.within)) (word_lt a at d.key_a d.within) (word_lt b at d.key_b d.within)
              (λ w. ne (d.in_a ∙ w ∙ sym d.in_b)),
        ))
  ]

  pub word_shared : 64 * at + count_leading_zeros 64 (bit_xor x y) ≡ shared_bits a b
  word_shared = omega (arith, by_words, shared_bits_by_xor 64 x y)
