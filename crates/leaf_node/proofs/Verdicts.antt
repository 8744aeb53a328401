-- Each of the numbers 0 to 5 is given exactly where its row of document 01 says so, "several apply: the lowest number". Assumes nothing.
use Prim.Native.Nat.{ℕ, ◌≤◌, ◌<◌}
use mathlib.Core.Path.{◌≡◌, refl, sym}
use mathlib.Core.Logic.{◌↔◌}
use mathlib.Core.Bool.{Bool, true, false, not, cond}
use mathlib.Core.List.{List}
use native.Mathlib.Omega.{arith}
use lib.Dec.{leb, eqb}
use lib.ListN.{length}
use borrow.Author.Tests.{lt-leb, le-leb, leb-true, leb-false, eq-eqb, ne_eqb, eqb-true, eqb-false, not-true, not-false}
use Rattle.leaf_node.specs.Limits.{record_limit}
use Rattle.leaf_node.specs.Page.{count}
use Rattle.leaf_node.specs.Good.{OffsetsRight, ValuesFit, KeysRise, Good, offsets_right, values_fit, keys_rise, page_verdict}
use Rattle.leaf_node.proofs.Rules.{fails, true_is_not_false, offsets_right_test, offsets_right_rule, values_fit_test, values_fit_rule, keys_rise_test, keys_rise_rule}

-- the number by the five tests, and what each number tells of them
abbrev told : Bool → Bool → Bool → Bool → Bool → ℕ
told a b c d e = cond a (cond b (cond c (cond d (cond e 0 5) 4) 3) 2) 1

told_0 : (a b c d e : Bool) → told a b c d e ≡ 0 → (a ≡ true) × (b ≡ true) × (c ≡ true) × (d ≡ true) × (e ≡ true)
told_0 true true true true true z = (refl, refl, refl, refl, refl)
told_0 true true true true false z = absurd (omega arith)
told_0 true true true false e z = absurd (omega arith)
told_0 true true false d e z = absurd (omega arith)
told_0 true false c d e z = absurd (omega arith)
told_0 false b c d e z = absurd (omega arith)

told_1 : (a b c d e : Bool) → told a b c d e ≡ 1 → a ≡ false
told_1 true true true true true z = absurd (omega arith)
told_1 true true true true false z = absurd (omega arith)
told_1 true true true false e z = absurd (omega arith)
told_1 true true false d e z = absurd (omega arith)
told_1 true false c d e z = absurd (omega arith)
told_1 false b c d e z = refl

told_2 : (a b c d e : Bool) → told a b c d e ≡ 2 → (a ≡ true) × (b ≡ false)
told_2 true true true true true z = absurd (omega arith)
told_2 true true true true false z = absurd (omega arith)
told_2 true true true false e z = absurd (omega arith)
told_2 true true false d e z = absurd (omega arith)
told_2 true false c d e z = (refl, refl)
told_2 false b c d e z = absurd (omega arith)

told_3 : (a b c d e : Bool) → told a b c d e ≡ 3 → (a ≡ true) × (b ≡ true) × (c ≡ false)
told_3 true true true true true z = absurd (omega arith)
told_3 true true true true false z = absurd (omega arith)
told_3 true true true false e z = absurd (omega arith)
told_3 true true false d e z = (refl, refl, refl)
told_3 true false c d e z = absurd (omega arith)
told_3 false b c d e z = absurd (omega arith)

told_4 : (a b c d e : Bool) → told a b c d e ≡ 4 → (a ≡ true) × (b ≡ true) × (c ≡ true) × (d ≡ false)
told_4 true true true true true z = absurd (omega arith)
told_4 true true true true false z = absurd (omega arith)
told_4 true true true false e z = (refl, refl, refl, refl)
told_4 true true false d e z = absurd (omega arith)
told_4 true false c d e z = absurd (omega arith)
told_4 false b c d e z = absurd (omega arith)

told_5 : (a b c d e : Bool) → told a b c d e ≡ 5 → (a ≡ true) × (b ≡ true) × (c ≡ true) × (d ≡ true) × (e ≡ false)
told_5 true true true true true z = absurd (omega arith)
told_5 true true true true false z = (refl, refl, refl, refl, refl)
told_5 true true true false e z = absurd (omega arith)
told_5 true true false d e z = absurd (omega arith)
told_5 true false c d e z = absurd (omega arith)
told_5 false b c d e z = absurd (omega arith)

module _ (size : ℕ) (p : List ℕ) where
  -- ---- what the steps of the check know, in their order

  pub verdict_1 : (length p ≡ size → ⊥) → 1 ≡ page_verdict size p
  unfolding page_verdict
  verdict_1 h = simp (ne_eqb (length p) size h)

  module _ (sized : length p ≡ size) (n : ℕ) (e : n ≡ count p) (most : ℕ) (q : most ≡ record_limit size) where
    pub verdict_2 : most < n → 2 ≡ page_verdict size p
    unfolding page_verdict
    verdict_2 h = simp (eq-eqb (length p) size sized, lt-leb (count p) (record_limit size) (omega arith))

    module _ (few : n ≤ most) (c : Bool) (q₃ : c ≡ offsets_right p) where
      pub verdict_3 : not c ≡ true → 3 ≡ page_verdict size p
      unfolding page_verdict
      verdict_3 h = simp (eq-eqb (length p) size sized, le-leb (count p) (record_limit size) (omega arith), ← q₃, not-true c h)

      module _ (h₃ : not c ≡ false) (d : Bool) (q₄ : d ≡ values_fit size p) where
        pub verdict_4 : not d ≡ true → 4 ≡ page_verdict size p
        unfolding page_verdict
        verdict_4 h = simp (eq-eqb (length p) size sized, le-leb (count p) (record_limit size) (omega arith), ← q₃, not-false c h₃, ← q₄, not-true d h)

        module _ (h₄ : not d ≡ false) (b : Bool) (q₅ : b ≡ keys_rise p) where
          pub verdict_5 : not b ≡ true → 5 ≡ page_verdict size p
          unfolding page_verdict
          verdict_5 h =
              simp (eq-eqb (length p) size sized, le-leb (count p) (record_limit size) (omega arith), ← q₃, not-false c h₃, ← q₄, not-false d h₄, ← q₅, not-true b h)

          pub verdict_0 : not b ≡ false → 0 ≡ page_verdict size p
          unfolding page_verdict
          verdict_0 h =
              simp (eq-eqb (length p) size sized, le-leb (count p) (record_limit size) (omega arith), ← q₃, not-false c h₃, ← q₄, not-false d h₄, ← q₅, not-false b h)

  -- ---- the rows of the table

  pub accepted_pages_are_the_good_ones : page_verdict size p ≡ 0 ↔ Good size p
  unfolding page_verdict
  accepted_pages_are_the_good_ones = (
    λ z.
        let t = told_0 (eqb (length p) size) (leb (count p) (record_limit size)) (offsets_right p) (values_fit size p) (keys_rise p) z in
        record {
          sized = eqb-true _ _ t.0;
          few = leb-true _ _ t.1;
          offsets = offsets_right_rule p t.2;
          values = values_fit_rule size p t.3;
          keys = keys_rise_rule p t.4;
        },
    λ g.
        rw (
          eq-eqb (length p) size g.sized,
          le-leb (count p) (record_limit size) g.few,
          offsets_right_test p g.offsets,
          values_fit_test size p g.values,
          keys_rise_test p g.keys,
        ),
  )

  pub number_1_is_for_another_length : page_verdict size p ≡ 1 ↔ (length p ≡ size → ⊥)
  unfolding page_verdict
  number_1_is_for_another_length = (
    λ z. eqb-false _ _ (told_1 (eqb (length p) size) (leb (count p) (record_limit size)) (offsets_right p) (values_fit size p) (keys_rise p) z),
    λ h. sym (verdict_1 h),
  )

  pub number_2_is_for_too_many_records : page_verdict size p ≡ 2 ↔ ((length p ≡ size) × (record_limit size < count p))
  unfolding page_verdict
  number_2_is_for_too_many_records = (
    λ z.
        let t = told_2 (eqb (length p) size) (leb (count p) (record_limit size)) (offsets_right p) (values_fit size p) (keys_rise p) z in
        (eqb-true _ _ t.0, leb-false _ _ t.1),
    λ h. rw (eq-eqb (length p) size h.0, lt-leb (count p) (record_limit size) h.1),
  )

  pub number_3_is_for_wrong_offsets : page_verdict size p ≡ 3 ↔ ((length p ≡ size) × (count p ≤ record_limit size) × (OffsetsRight p → ⊥))
  unfolding page_verdict
  number_3_is_for_wrong_offsets = (
    λ z.
        let t = told_3 (eqb (length p) size) (leb (count p) (record_limit size)) (offsets_right p) (values_fit size p) (keys_rise p) z in
        (eqb-true _ _ t.0, leb-true _ _ t.1, λ r. true_is_not_false (offsets_right_test p r) t.2),
    λ h.
        rw (
          eq-eqb (length p) size h.0,
          le-leb (count p) (record_limit size) h.1,
          fails (offsets_right p) (λ t. h.2 (offsets_right_rule p t)),
        ),
  )

  pub number_4_is_for_a_long_value : page_verdict size p ≡ 4
      ↔ ((length p ≡ size) × (count p ≤ record_limit size) × OffsetsRight p × (ValuesFit size p → ⊥))
  unfolding page_verdict
  number_4_is_for_a_long_value = (
    λ z.
        let t = told_4 (eqb (length p) size) (leb (count p) (record_limit size)) (offsets_right p) (values_fit size p) (keys_rise p) z in
        (eqb-true _ _ t.0, leb-true _ _ t.1, offsets_right_rule p t.2, λ r. true_is_not_false (values_fit_test size p r) t.3),
    λ h.
        rw (
          eq-eqb (length p) size h.0,
          le-leb (count p) (record_limit size) h.1,
          offsets_right_test p h.2,
          fails (values_fit size p) (λ t. h.3 (values_fit_rule size p t)),
        ),
  )

  pub number_5_is_for_keys_that_do_not_rise : page_verdict size p ≡ 5
      ↔ ((length p ≡ size) × (count p ≤ record_limit size) × OffsetsRight p × ValuesFit size p × (KeysRise p → ⊥))
  unfolding page_verdict
  number_5_is_for_keys_that_do_not_rise = (
    λ z.
        let t = told_5 (eqb (length p) size) (leb (count p) (record_limit size)) (offsets_right p) (values_fit size p) (keys_rise p) z in
        (eqb-true _ _ t.0, leb-true _ _ t.1, offsets_right_rule p t.2, values_fit_rule size p t.3, λ r. true_is_not_false (keys_rise_test p r) t.4),
    λ h.
        rw (
          eq-eqb (length p) size h.0,
          le-leb (count p) (record_limit size) h.1,
          offsets_right_test p h.2,
          values_fit_test size p h.3,
          fails (keys_rise p) (λ t. h.4 (keys_rise_rule p t)),
        ),
  )
