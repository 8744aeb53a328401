-- The records of a page, laid on the scale one after another. Assumes nothing.
use Rattle.std.specs.Prelude.{Option}
use Rattle.std.specs.Cmp.Lexicographic.{pointwise}
use lib.Dec.{eqb}
use mathlib.Core.Path.{◌≡◌, refl, sym, ◌∙◌}
use mathlib.Core.Bool.{Bool, true, false, not, ◌&&◌}
use mathlib.Core.List.{List, [], ◌∷◌}
use Prim.Native.Nat.{ℕ, suc, ◌+◌, ◌-◌, ◌≤◌, ◌<◌}
use native.Mathlib.Nat.{add-sub_cancel_left}
use native.Mathlib.Numerals.{add-one}
use native.Mathlib.Omega.{arith}
use lib.ListN.{length, take, drop}
use borrow.Author.Tests.{eqb-true, eqb-false, eq-eqb, ne_eqb, not-true, not-false}
use Rattle.leaf_node.specs.Page.{count, key_at, flag_at, start, length_at, value_at, record_at, run, records_between, records}
use Rattle.leaf_node.specs.Steps.{Laid}
use Rattle.leaf_work.specs.Tests.{same_bytes}
use Rattle.leaf_node.proofs.Laying.{start_inside}
use Rattle.melt_weight.specs.declared.Weight.{Weight}
use Rattle.melt_weight.specs.Weight.{weight_of}
use Rattle.melt_scale.specs.declared.Scale.{Scale}
use Rattle.melt_scale.specs.Steps.{weighed, weighed_record, weighed_all, record_room, page_room, Light, Heavier}
use Rattle.melt_scale.proofs.Scales.{no_weight_more, more_weights}

-- ---- a tree's name

turned : (x y : ℕ) → eqb y x ≡ eqb x y
turned x y = go (eqb x y) refl
  where
    go : (b : Bool) → eqb x y ≡ b → eqb y x ≡ b
    go true e = eq-eqb y x (sym (eqb-true x y e))
    go false e = ne_eqb y x (λ q. eqb-false x y e (sym q))

-- the library compares the needle's bytes with the others
pub prefixes_are_compared : (xs ys : List ℕ) → pointwise eqb ys xs ≡ same_bytes xs ys
prefixes_are_compared [] [] = refl
prefixes_are_compared [] (y ∷ ys) = refl
prefixes_are_compared (x ∷ xs) [] = refl
prefixes_are_compared (x ∷ xs) (y ∷ ys) = rw (turned x y) (go (eqb x y) (prefixes_are_compared xs ys))
  where
    go : (b : Bool) → pointwise eqb ys xs ≡ same_bytes xs ys → (b && pointwise eqb ys xs) ≡ elim b [ true ↦ same_bytes xs ys | false ↦ false ]
    go true h = h
    go false h = refl

-- ---- a record

module _ (page : List ℕ) (i : ℕ) (laid : Laid page (count page)) (h : i < count page) where
  pub a_value_lies_in_its_page : (from len : ℕ) → from + len ≡ start page (i + 1) → from + len ≤ length page
  a_value_lies_in_its_page from len e = omega (arith, e, start_inside page (count page) laid (i + 1) (omega arith))

  pub its_end_is_a_place : length page < 18446744073709551616 → (from len : ℕ) → from + len ≡ start page (i + 1) → from + len < 18446744073709551616
  its_end_is_a_place few from len e = omega (arith, few, a_value_lies_in_its_page from len e)

module _ (page : List ℕ) (i : ℕ) (tree : List ℕ) (s : Scale) (l : Light record_room s) (flag : Bool) (f : flag ≡ flag_at page i) where
  pub a_flagged_record_is_skipped : flag ≡ true → (s ≡ weighed_record tree s (record_at page i)) × Heavier 1 s s
  unfolding record_at
  a_flagged_record_is_skipped y = (rw (sym f ∙ y), no_weight_more _ s l 1)

  module _ (n : flag ≡ false) (key : List ℕ) (k : key ≡ key_at page i) (named : Bool) (e : named ≡ same_bytes (take 24 key) tree) where
    pub another_tree_is_skipped : not named ≡ true → (s ≡ weighed_record tree s (record_at page i)) × Heavier 1 s s
    unfolding record_at
    another_tree_is_skipped y = (rw (sym f ∙ n, ← k, sym e ∙ not-true named y), no_weight_more _ s l 1)

    pub the_trees_record_is_weighed : not named ≡ false → (from len : ℕ) → from ≡ start page i → len ≡ length_at page i → (value : List ℕ) → value ≡ take (from + len - from) (drop from page)
        → (w : Option Weight) → w ≡ weight_of value → (t : Scale) → t ≡ weighed s w → Heavier 1 s t → (t ≡ weighed_record tree s (record_at page i)) × Heavier 1 s t
    unfolding record_at value_at
    the_trees_record_is_weighed y from len a b value v w q t r h =
        let d : from + len - from ≡ len = add-sub_cancel_left from len in
        let same : value ≡ take (length_at page i) (drop (start page i) page) = v ∙ rw (d, a, b) in
        (r ∙ rw (q, same, sym f ∙ n, ← k, sym e ∙ not-false named y), h)

-- ---- all of a page

-- s is the scale after the first i records of n
pub record After (page tree : List ℕ) (at : Scale) (n : ℕ) (s : Scale) (i : ℕ) : Type 0 where
  pub within : i ≤ n
  pub same : weighed_all tree s (run (n - i) i (record_at page)) ≡ weighed_all tree at (records page)
  pub heavier : Heavier i at s

module _ (page tree : List ℕ) (at : Scale) (l : Light page_room at) where
  module _ (n : ℕ) (c : n ≡ count page) where
    pub before_the_first : After page tree at n at 0
    unfolding records records_between
    before_the_first = record { within = omega arith; same = rw c; heavier = no_weight_more _ at l 0 }

    module _ (s : Scale) (i : ℕ) (a : After page tree at n s i) where
      pub one_record_more : i < n → (t : Scale) → t ≡ weighed_record tree s (record_at page i) → Heavier 1 s t → After page tree at n t (i + 1)
      unfolding run
      one_record_more h t e g =
          let m : n - i ≡ suc (n - (i + 1)) = omega arith in
          record {
            within = omega arith;
            same = rw (e, add-one i) (rw (m, add-one i) at a.same);
            heavier = more_weights at s t i 1 a.heavier g;
          }

      pub all_records : n ≤ i → (s ≡ weighed_all tree at (records page)) × Heavier (count page) at s
      unfolding run
      all_records h =
          let z : n - i ≡ 0 = omega arith in
          let e : i ≡ count page = omega (arith, c, h, a.within) in
          (rw z at a.same, rw (← e) a.heavier)
