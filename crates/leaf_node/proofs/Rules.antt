-- The rules of a good page: each test says what its sentence says, and what the loops of the check find. Assumes nothing.
use Prim.Native.Nat.{ℕ, zero, suc, ◌+◌, ◌-◌, ◌*◌, ◌≤◌, ◌<◌}
use mathlib.Core.Path.{◌≡◌, refl, sym, ap, ◌∙◌}
use mathlib.Core.Logic.{⊎_elim}
use mathlib.Core.Bool.{Bool, true, false, not, ◌&&◌, ◌||◌, or-true}
use mathlib.Core.List.{List}
use native.Mathlib.Nat.{not-suc-le-zero, le_of_suc-le-suc, eq-or-lt_of_le, le_refl}
use native.Mathlib.Omega.{arith}
use native.Mathlib.Numerals.{add-one}
use native.Mathlib.Decide.{dec_lt}
use lib.Dec.{leb, ltb}
use lib.ListN.{length}
use borrow.Author.Tests.{lt-ltb, le-leb, leb-true, ltb-true, not-true, not-false}
use Rattle.bit_ops.specs.Key.{num, lt_key}
use Rattle.leaf_node.specs.Limits.{value_limit}
use Rattle.leaf_node.specs.Page.{count, pointer, key_at, offset_at, start, length_at}
use Rattle.leaf_node.specs.Good.{OffsetsRight, ValuesFit, KeysRise, all_below, offset_step, offset_inside, offsets_right, value_fits, values_fit, key_step, keys_rise}

-- ---- a test of every number below n

all_true : (n : ℕ) (f : ℕ → Bool) → ((k : ℕ) → k < n → f k ≡ true) → all_below n f ≡ true
unfolding all_below
all_true zero f h = refl
all_true (suc n) f h = rw (h n (le_refl (suc n))) (all_true n f (λ k l. h k (omega arith)))

pub both : (a b : Bool) → a && b ≡ true → (a ≡ true) × (b ≡ true)
both true b e = (refl, e)
both false true e = (e, refl)
both false false e = (e, e)

all_at : (n : ℕ) (f : ℕ → Bool) → all_below n f ≡ true → (k : ℕ) → k < n → f k ≡ true
unfolding all_below
all_at zero f e k l = absurd (not-suc-le-zero l)
all_at (suc n) f e k l =
    ⊎_elim (λ (q : k ≡ n). rw q (both (f n) (all_below n f) e).0) (λ (l : k < n). all_at n f (both (f n) (all_below n f) e).1 k l)
    (eq-or-lt_of_le (le_of_suc-le-suc l))

all_more : (i : ℕ) (f : ℕ → Bool) → all_below i f ≡ true → f i ≡ true → all_below (i + 1) f ≡ true
unfolding all_below
all_more i f e h = rw (add-one i) (rw h e)

pub true_is_not_false : {b : Bool} → b ≡ true → b ≡ false → ⊥
true_is_not_false e f = let z : ◌≡◌ {A = ℕ} 0 1 = cc in omega arith

-- a test that isn't passed fails
pub fails : (b : Bool) → (b ≡ true → ⊥) → b ≡ false
fails true h = absurd (h refl)
fails false h = refl

-- ---- the three rules, each as its sentence and as its test

first_true : (p : List ℕ) → (0 < count p → pointer (count p) ≤ offset_at p 0) → (leb (count p) 0 || leb (pointer (count p)) (offset_at p 0)) ≡ true
first_true p h = elim (dec_lt 0 (count p)) [
  | yes l ↦ rw (le-leb (34 * count p + 2) (offset_at p 0) (h l)) (or-true (leb (count p) 0))
  | no l ↦ let z : count p ≤ 0 = omega arith in rw (le-leb (count p) 0 z)
]

either : (a b : Bool) → a || b ≡ true → (a ≡ true → ⊥) → b ≡ true
either true b e h = absurd (h refl)
either false b e h = e

pub offsets_right_test : (p : List ℕ) → OffsetsRight p → offsets_right p ≡ true
unfolding offsets_right offset_step offset_inside
offsets_right_test p r =
    rw (
      all_true (count p - 1) (offset_step p) (λ i l. le-leb (offset_at p i) (offset_at p (i + 1)) (r.never_fall i (omega arith))),
      first_true p r.first,
      all_true (count p) (offset_inside p) (λ i l. le-leb (offset_at p i) (length p) (r.none_passes i l)),
    )

pub offsets_right_rule : (p : List ℕ) → offsets_right p ≡ true → OffsetsRight p
unfolding offsets_right offset_step offset_inside
offsets_right_rule p e =
    let a = both _ _ e in
    let b = both _ _ a.0 in
    record {
      never_fall = λ i l. leb-true _ _ (all_at (count p - 1) (offset_step p) b.0 i (omega arith));
      first = λ l. leb-true _ _ (either (leb (count p) 0) _ b.1 (λ z. let k : count p ≤ 0 = leb-true _ _ z in omega arith));
      none_passes = λ i l. leb-true _ _ (all_at (count p) (offset_inside p) a.1 i l);
    }

pub values_fit_test : (size : ℕ) (p : List ℕ) → ValuesFit size p → values_fit size p ≡ true
unfolding values_fit value_fits
values_fit_test size p h = all_true (count p) (value_fits size p) (λ i l. le-leb (length_at p i) (value_limit size) (h i l))

pub values_fit_rule : (size : ℕ) (p : List ℕ) → values_fit size p ≡ true → ValuesFit size p
unfolding values_fit value_fits
values_fit_rule size p e i l = leb-true _ _ (all_at (count p) (value_fits size p) e i l)

pub keys_rise_test : (p : List ℕ) → KeysRise p → keys_rise p ≡ true
unfolding keys_rise key_step lt_key
keys_rise_test p h = all_true (count p - 1) (key_step p) (λ i l. lt-ltb (num (key_at p i)) (num (key_at p (i + 1))) (h i (omega arith)))

pub keys_rise_rule : (p : List ℕ) → keys_rise p ≡ true → KeysRise p
unfolding keys_rise key_step lt_key
keys_rise_rule p e i l = ltb-true _ _ (all_at (count p - 1) (key_step p) e i (omega arith))

-- ---- what the loops of the check find

-- the first i offsets are right, and `low` is what the next must reach
pub record OffsetsSeen (p : List ℕ) (n i low : ℕ) : Type 0 where
  pub within : i ≤ n
  pub never_fall : (k : ℕ) → k + 1 < i → offset_at p k ≤ offset_at p (k + 1)
  pub first : 0 < i → pointer n ≤ offset_at p 0
  pub none_passes : (k : ℕ) → k < i → offset_at p k ≤ length p
  pub at_first : i ≡ 0 → low ≡ pointer n
  pub then : (k : ℕ) → i ≡ k + 1 → low ≡ offset_at p k

module _ (p : List ℕ) (n : ℕ) where
  module _ (i low : ℕ) (s : OffsetsSeen p n i low) where
    pub offsets_done : n ≡ count p → n ≤ i → true ≡ offsets_right p
    offsets_done e h =
        sym (offsets_right_test p (record {
          never_fall = λ k l. s.never_fall k (omega arith);
          first = λ l. rw (← e) (s.first (omega arith));
          none_passes = λ k l. s.none_passes k (omega arith);
        }))

    module _ (offset : ℕ) (q : offset ≡ offset_at p i) (l : i < n) where
      reach : OffsetsRight p → n ≡ count p → (k : ℕ) → i ≡ k → low ≤ offset
      reach r e zero z =
          let a = s.at_first z in
          let o : offset ≡ offset_at p 0 = q ∙ ap (offset_at p) z in
          let b = r.first (omega arith) in
          omega arith
      reach r e (suc k) z =
          let y : i ≡ k + 1 = omega arith in
          let a = s.then k y in
          let o : offset ≡ offset_at p (k + 1) = q ∙ ap (offset_at p) y in
          let b = r.never_fall k (omega arith) in
          omega arith

      pub offsets_low : n ≡ count p → offset < low → false ≡ offsets_right p
      offsets_low e h = sym (fails _ (λ t. let a = reach (offsets_right_rule p t) e i refl in omega arith))

      pub offsets_past : n ≡ count p → length p < offset → false ≡ offsets_right p
      offsets_past e h = sym (fails _ (λ t. let a = (offsets_right_rule p t).none_passes i (omega arith) in omega arith))

pub values_long : (size : ℕ) (p : List ℕ) (n : ℕ) → n ≡ count p → (most : ℕ) → most ≡ value_limit size → (i s t : ℕ) → i < n → s ≡ start p i → t ≡ start p (i + 1) → s + most < t
    → false ≡ values_fit size p
unfolding length_at
values_long size p n e most m i s t l q r h =
    sym (fails _ (λ z. let a = values_fit_rule size p z i (omega arith) in omega arith))

pub values_more : (size : ℕ) (p : List ℕ) (most : ℕ) → most ≡ value_limit size → (i s t : ℕ) → all_below i (value_fits size p) ≡ true → s ≡ start p i → t ≡ start p (i + 1) → t ≤ s + most
    → all_below (i + 1) (value_fits size p) ≡ true
unfolding value_fits length_at
values_more size p most m i s t a q r h = all_more i (value_fits size p) a (le-leb (length_at p i) (value_limit size) (omega arith))

pub values_done : (size : ℕ) (p : List ℕ) (n : ℕ) → n ≡ count p → (i : ℕ) → i ≤ n → n ≤ i → all_below i (value_fits size p) ≡ true → true ≡ values_fit size p
unfolding values_fit
values_done size p n e i l m a = sym (ap (λ (k : ℕ). all_below k (value_fits size p)) (omega arith) ∙ a)

-- i is the later of two neighbours
module _ (p : List ℕ) (i : ℕ) (l : 1 ≤ i) (x y : List ℕ) (t : Bool) (q₁ : x ≡ key_at p (i - 1)) (q₂ : y ≡ key_at p i) (q : t ≡ lt_key x y) where
  next : i - 1 + 1 ≡ i
  next = omega arith

  pub keys_not : (n : ℕ) → n ≡ count p → i < n → not t ≡ true → false ≡ keys_rise p
  unfolding lt_key
  keys_not n e m h =
      sym (fails _ (λ z.
      let s = keys_rise_rule p z (i - 1) (omega arith) in
      let r : num (key_at p (i - 1)) < num (key_at p i) = rw next at s in
      let a : ltb (num x) (num y) ≡ true = rw (q₁, q₂) (lt-ltb _ _ r) in
      true_is_not_false a (sym q ∙ not-true t h)))

  pub keys_more : all_below (i - 1) (key_step p) ≡ true → not t ≡ false → all_below (i + 1 - 1) (key_step p) ≡ true
  unfolding key_step
  keys_more a h =
      let m = all_more (i - 1) (key_step p) a (rw (next, ← q₁, ← q₂, ← q) (not-false t h)) in
      ap (λ (k : ℕ). all_below k (key_step p)) (omega arith) ∙ m

pub keys_done : (p : List ℕ) (n : ℕ) → n ≡ count p → (i : ℕ) → n ≤ i → (1 ≤ n → i ≤ n) → all_below (i - 1) (key_step p) ≡ true → true ≡ keys_rise p
unfolding keys_rise all_below
keys_done p zero e i m h a = rw (← e) refl
keys_done p (suc n) e i m h a =
    let k : i ≤ suc n = h (omega arith) in
    sym (ap (λ (k : ℕ). all_below k (key_step p)) (omega arith) ∙ a)
