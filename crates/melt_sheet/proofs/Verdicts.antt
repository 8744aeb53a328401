-- The number of a melt, one row of the table after another, and its sheet. Assumes nothing.
use Rattle.std.specs.Prelude.{Option}
use mathlib.Core.Path.{◌≡◌, refl, sym, ap, ◌∙◌}
use mathlib.Core.Bool.{true, false, not, ◌&&◌}
use mathlib.Core.List.{List, [], ◌∷◌}
use Prim.Native.Nat.{ℕ, ◌^◌, ◌≤◌, ◌<◌}
use native.Mathlib.Nat.{le_trans}
use native.Mathlib.Omega.{arith}
use lib.Dec.{eqb, leb, lit≤}
use lib.ListN.{length}
use lib.Ieee.{Float}
use borrow.Author.Tests.{eq-eqb, ne_eqb, eqb-true, lt-leb, le-leb, leb-true, not-true, not-false}
use Rattle.refusal.specs.declared.Refusal.{Refusal}
use Rattle.refusal.specs.Numbers.{number}
use Rattle.refusal.proofs.Numbers.{not_accepted}
use Rattle.leaf_model.proofs.Tests.{and_right}
use Rattle.leaf_work.specs.Verdict.{first}
use Rattle.leaf_work.proofs.Tests.{passed, first_zero}
use Rattle.row_check.specs.Verdict.{row_of, lent_row_verdict}
use Rattle.melt_weight.specs.declared.Weight.{Weight}
use Rattle.melt_weight.specs.declared.LeafMelt.{LeafMelt}
use Rattle.melt_weight.specs.Weight.{weight_limit}
use Rattle.melt_weight.specs.Sheet.{sheet_of}
use Rattle.melt_scale.specs.declared.Scale.{Scale}
use Rattle.melt_scale.specs.Tree.{total, all_known, sprues, factors}
use Rattle.melt_scale.specs.Steps.{empty_scale, weighed_all}
use Rattle.melt_scale.proofs.Sums.{last_or, it_knows_whether_all_are_known, it_has_their_total, it_counts_the_sprues, it_counts_the_factors, it_has_the_last_factor}
use Rattle.melt_sheet.specs.Melt.{row_records, weights_of, is_whole, tree_verdict, melt_verdict, the_factor, refused_melt, melt_of}
use Rattle.melt_sheet.specs.Steps.{scale_verdict}

-- ---- Nos. 19, 20 and 24 by the scale

module _ (s : Scale) where
  pub an_unknown_weight_has_number_19 : not s.known ≡ true → 19 ≡ scale_verdict s
  an_unknown_weight_has_number_19 h = rw (not-true s.known h)

  module _ (h : not s.known ≡ false) where
    pub other_sprues_have_number_20 : (s.sprues ≡ 1 → ⊥) → 20 ≡ scale_verdict s
    other_sprues_have_number_20 n = rw (not-false s.known h, ne_eqb s.sprues 1 n)

    module _ (e : s.sprues ≡ 1) where
      pub other_factors_have_number_20 : (s.factors ≡ 1 → ⊥) → 20 ≡ scale_verdict s
      other_factors_have_number_20 n = rw (not-false s.known h, eq-eqb s.sprues 1 e, ne_eqb s.factors 1 n)

      module _ (f : s.factors ≡ 1) where
        pub a_heavy_tree_has_number_24 : weight_limit < s.total → 24 ≡ scale_verdict s
        a_heavy_tree_has_number_24 l = rw (not-false s.known h, eq-eqb s.sprues 1 e, eq-eqb s.factors 1 f, lt-leb s.total weight_limit l)

        pub a_right_tree_is_accepted : s.total ≤ weight_limit → 0 ≡ scale_verdict s
        a_right_tree_is_accepted l = rw (not-false s.known h, eq-eqb s.sprues 1 e, eq-eqb s.factors 1 f, le-leb s.total weight_limit l)

-- ---- the call

first_stays : (v w : ℕ) → (v ≡ 0 → ⊥) → first v w ≡ v
first_stays v w n = rw (ne_eqb v 0 n, first)

the_one : (x : Float) (xs : List Float) → length xs ≡ 1 → last_or x xs ≡ the_factor xs
the_one x [] e = absurd (omega (arith, e))
the_one x (y ∷ []) e = refl
the_one x (y ∷ z ∷ ys) e = absurd (omega (arith, e))

module _ (size : ℕ) (pages : List ℕ) (separators : List (List ℕ)) (tree : List ℕ) (v : ℕ) (e : v ≡ lent_row_verdict size pages separators) where
  abbrev ws : List (Option Weight)
  ws = weights_of size pages separators tree

  pub a_refused_row_has_its_number : (v ≡ 0 → ⊥) → v ≡ melt_verdict size pages separators tree
  unfolding melt_verdict
  a_refused_row_has_its_number n = sym (ap (λ (x : ℕ). first x (tree_verdict ws)) (sym e) ∙ first_stays v (tree_verdict ws) n)

  module _ (z : v ≡ 0) (s : Scale) (a : s ≡ weighed_all tree empty_scale (row_records (row_of size pages separators))) (w : ℕ) (b : w ≡ scale_verdict s) where
    by_the_scale : w ≡ tree_verdict ws
    unfolding tree_verdict
    by_the_scale =
        let rs = row_records (row_of size pages separators) in
        b ∙ rw (it_knows_whether_all_are_known tree rs s a, it_counts_the_sprues tree rs s a, it_counts_the_factors tree rs s a, it_has_their_total tree rs s a)

    the_trees_number : melt_verdict size pages separators tree ≡ w
    unfolding melt_verdict
    the_trees_number = ap (λ (x : ℕ). first x (tree_verdict ws)) (sym e) ∙ first_zero v (tree_verdict ws) z ∙ sym by_the_scale

    pub the_scale_has_the_number : w ≡ melt_verdict size pages separators tree
    the_scale_has_the_number = sym the_trees_number

    module _ (y : w ≡ 0) where
      one_factor : length (factors ws) ≡ 1
      unfolding tree_verdict
      one_factor =
          let p = passed 18 (all_known ws) _ (sym by_the_scale ∙ y) in
          let q = passed 19 (is_whole ws) _ p.1 in
          eqb-true (length (factors ws)) 1 (and_right (eqb (sprues ws) 1) _ q.0)

      pub an_accepted_tree_has_its_sheet : (r : LeafMelt) → r ≡ sheet_of s.total s.factor → r ≡ melt_of size pages separators tree
      unfolding melt_of
      an_accepted_tree_has_its_sheet r q =
          let rs = row_records (row_of size pages separators) in
          let t : s.total ≡ total ws = it_has_their_total tree rs s a in
          let f : s.factor ≡ the_factor (factors ws) = it_has_the_last_factor tree rs s a ∙ the_one empty_scale.factor (factors ws) one_factor in
          q ∙ ap (λ (n : ℕ). sheet_of n s.factor) t ∙ ap (sheet_of (total ws)) f ∙ rw (the_trees_number, eq-eqb w 0 y)

pub a_refusal_has_its_number_alone : (size : ℕ) (pages : List ℕ) (separators : List (List ℕ)) (tree : List ℕ) (f : Refusal) → number f ≡ melt_verdict size pages separators tree
    → (n : ℕ) → n ≡ number f → (r : LeafMelt) → r ≡ refused_melt n → r ≡ melt_of size pages separators tree
unfolding melt_of
a_refusal_has_its_number_alone size pages separators tree f e n p r q = q ∙ rw (p, ← e, not_accepted f)

pub the_total_is_a_float_exactly : (s : Scale) (w : ℕ) → w ≡ scale_verdict s → w ≡ 0 → s.total ≤ 2 ^ 46
the_total_is_a_float_exactly s w b z =
    let p = passed 18 s.known _ (sym b ∙ z) in
    let q = passed 19 (eqb s.sprues 1 && eqb s.factors 1) _ p.1 in
    let l : s.total ≤ weight_limit = leb-true s.total weight_limit (passed 23 (leb s.total weight_limit) _ q.1).0 in
    le_trans l (lit≤ tt)
