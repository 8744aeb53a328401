-- The order of keys is a strict total order, and is the order of their bytes from the first on. Assumes nothing.
use mathlib.Core.Path.{◌≡◌, refl, sym, ap, ◌∙◌}
use mathlib.Core.Logic.{◌⊎◌, inl, inr}
use mathlib.Core.Bool.{true, false, ◌&&◌, ◌||◌}
use mathlib.Core.List.{List, [], ◌∷◌}
use Prim.Native.Nat.{ℕ, suc, ◌+◌, ◌*◌, ◌^◌, ◌≤◌, ◌<◌}
use native.Mathlib.Nat.{mul-le-mul_right, suc-ne-zero}
use native.Mathlib.Omega.{arith}
use borrow.Author.Tests.{lt-ltb, le-ltb, ltb-true, eq-eqb, ne_eqb}
use lib.Dec.{ltb, eqb}
use lib.ListN.{length}
use Rattle.bit_ops.specs.Key.{Bytes, Key, num, lt_key, eq_key, lexicographic}
use Rattle.bit_ops.proofs.Cases.{cases}
use Rattle.bit_ops.proofs.Number.{num_lt, num_inj}

pub key_order_is_irreflexive : (a : List ℕ) → lt_key a a ≡ false
unfolding lt_key
key_order_is_irreflexive a = le-ltb (num a) (num a) (omega arith)

pub key_order_is_transitive : (a b c : List ℕ) → lt_key a b ≡ true → lt_key b c ≡ true → lt_key a c ≡ true
unfolding lt_key
key_order_is_transitive a b c h k =
    let p : num a < num b = ltb-true _ _ h in
    let q : num b < num c = ltb-true _ _ k in
    lt-ltb (num a) (num c) (omega arith)

pub equal_numbers_are_equal_keys : (a b : List ℕ) → Key a → Key b → num a ≡ num b → a ≡ b
equal_numbers_are_equal_keys a b ha hb = num_inj a b (ha.size ∙ sym hb.size) ha.bytes hb.bytes

pub key_order_is_total : (a b : List ℕ) → Key a → Key b → (lt_key a b ≡ true) ⊎ (a ≡ b) ⊎ (lt_key b a ≡ true)
unfolding lt_key
key_order_is_total a b ha hb = go (cases (num a) (num b))
  where
    go : (num a < num b) ⊎ ((num a ≡ num b) ⊎ (num b < num a)) → (ltb (num a) (num b) ≡ true) ⊎ (a ≡ b) ⊎ (ltb (num b) (num a) ≡ true)
    go (inl h) = inl (lt-ltb (num a) (num b) h)
    go (inr (inl e)) = inr (inl (equal_numbers_are_equal_keys a b ha hb e))
    go (inr (inr h)) = inr (inr (lt-ltb (num b) (num a) h))

-- `eq_key` tells equal keys
pub eq_key_of_equal : (a b : List ℕ) → a ≡ b → eq_key a b ≡ true
unfolding eq_key
eq_key_of_equal a b e = eq-eqb (num a) (num b) (ap num e)

pub eq_key_of_different : (a b : List ℕ) → Key a → Key b → (a ≡ b → ⊥) → eq_key a b ≡ false
unfolding eq_key
eq_key_of_different a b ha hb ne = ne_eqb (num a) (num b) (λ e. ne (equal_numbers_are_equal_keys a b ha hb e))

-- the order of two numbers by their highest digits x and y, to the base w
by_digit : (w x y s t : ℕ) → s < w → t < w → ltb (x * w + s) (y * w + t) ≡ ltb x y || (eqb x y && ltb s t)
by_digit w x y s t hs ht = go (cases x y)
  where
    go : (x < y) ⊎ ((x ≡ y) ⊎ (y < x)) → ltb (x * w + s) (y * w + t) ≡ ltb x y || (eqb x y && ltb s t)
    go (inl h) = rw (lt-ltb x y h) (lt-ltb (x * w + s) (y * w + t) (omega (arith, mul-le-mul_right w h)))
    go (inr (inl h)) = rw (le-ltb x y (omega arith), eq-eqb x y h) (same (cases s t))
      where
        same : (s < t) ⊎ ((s ≡ t) ⊎ (t < s)) → ltb (x * w + s) (y * w + t) ≡ ltb s t
        same (inl k) = rw (h, lt-ltb s t k) (lt-ltb (y * w + s) (y * w + t) (omega arith))
        same (inr k) =
            let q : t ≤ s = not_below k in
            rw (h, le-ltb s t q) (le-ltb (y * w + s) (y * w + t) (omega arith))
          where
            not_below : (s ≡ t) ⊎ (t < s) → t ≤ s
            not_below (inl e) = omega arith
            not_below (inr e) = omega arith
    go (inr (inr h)) =
        rw (le-ltb x y (omega arith), ne_eqb x y (λ e. omega arith)) (le-ltb (x * w + s) (y * w + t) (omega (arith, mul-le-mul_right w h)))

pub key_order_is_lexicographic : (a b : List ℕ) → length a ≡ length b → Bytes a → Bytes b → lt_key a b ≡ lexicographic a b
unfolding lt_key lexicographic num
key_order_is_lexicographic [] [] l ha hb = refl
key_order_is_lexicographic [] (y ∷ ys) l ha hb = absurd (suc-ne-zero (length ys) (sym l))
key_order_is_lexicographic (x ∷ xs) [] l ha hb = absurd (suc-ne-zero (length xs) l)
key_order_is_lexicographic (x ∷ xs) (y ∷ ys) l ha hb =
    let l' : length xs ≡ length ys = omega arith in
    let r : num xs < 256 ^ length ys = rw (← l') (num_lt xs (λ i. ha (suc i))) in
    let s : num ys < 256 ^ length ys = num_lt ys (λ i. hb (suc i)) in
    rw (l', by_digit (256 ^ length ys) x y (num xs) (num ys) r s, key_order_is_lexicographic xs ys l' (λ i. ha (suc i)) (λ i. hb (suc i)))
