-- The sheet of every tree that isn't refused: one factor record, one rounding, the least whole milligrams. Assumes nothing.
use Rattle.std.specs.Prelude.{Option}
use mathlib.Core.Path.{◌≡◌, refl, sym, ap}
use mathlib.Core.Bool.{Bool, true, false, cond}
use mathlib.Core.List.{List, [], ◌∷◌, map}
use Prim.Native.Nat.{ℕ, ◌+◌, ◌-◌, ◌*◌, ◌/◌, ◌^◌, ◌≤◌, ◌<◌}
use native.Mathlib.Nat.{le_trans, le_of_eq, add-mul, div-lt_iff_lt-mul}
use native.Mathlib.Omega.{arith}
use lib.Dec.{eqb, leb, lit≤}
use lib.ListN.{length}
use lib.Ieee.{Float, binary64, of_bits}
use lib.Ieee.Positive.{num, den, den_pos}
use borrow.Author.Tests.{eqb-true, eqb-false, leb-true}
use Rattle.leaf_node.specs.Record.{Record}
use Rattle.leaf_node.specs.Fits.{All, cons}
use Rattle.leaf_model.proofs.Tests.{and_right}
use Rattle.leaf_work.proofs.Tests.{passed, first_passed}
use Rattle.row_check.specs.Verdict.{row_of, lent_row_verdict}
use Rattle.melt_weight.specs.declared.Weight.{Weight}
use Rattle.melt_weight.specs.declared.LeafMelt.{LeafMelt}
use Rattle.melt_weight.specs.Weight.{weight_limit}
use Rattle.melt_weight.specs.Sheet.{whole_above, sheet_of}
use Rattle.melt_weight.proofs.Factor.{the_bits_of_a_factor_are_its_own}
use Rattle.melt_weight.proofs.Rounded.{the_product_is_rounded_once}
use Rattle.melt_scale.specs.Tree.{total, all_known, sprues, factors, factor_bits}
use Rattle.melt_scale.proofs.Factors.{InRange, factors_are_the_bits_of_their_records}
use Rattle.melt_sheet.specs.Melt.{row_records, weights_of, is_whole, tree_verdict, melt_verdict, the_factor, refused_melt, melt_of}
use Rattle.melt_sheet.specs.Claims.{RoundedOnce, LeastWhole}

-- ---- the least whole number

least_not_below : (x : Float) → num x ≤ whole_above x * den x
unfolding whole_above
least_not_below x = go (num x) (den x) (den_pos x)
  where
    cut : (n d q : ℕ) → 0 < d → n + (d - 1) < (q + 1) * d → n ≤ q * d
    cut n d q D h = omega (arith, D, le_trans h (le_of_eq (add-mul q 1 d)))

    next : (q : ℕ) → q < q + 1
    next q = omega arith

    go : (n d : ℕ) → 0 < d → n ≤ (n + (d - 1)) / d * d
    go n d D = cut n d ((n + (d - 1)) / d) D ((div-lt_iff_lt-mul D).0 (next ((n + (d - 1)) / d)))

least_of_all : (x : Float) (k : ℕ) → num x ≤ k * den x → whole_above x ≤ k
unfolding whole_above
least_of_all x k h = go (num x) (den x) (den_pos x) h
  where
    below : (q k : ℕ) → q < k + 1 → q ≤ k
    below q k h = omega arith

    under : (n d k : ℕ) → 0 < d → n ≤ k * d → n + (d - 1) < k * d + 1 * d
    under n d k D h = omega arith

    go : (n d : ℕ) → 0 < d → n ≤ k * d → (n + (d - 1)) / d ≤ k
    go n d D h = below ((n + (d - 1)) / d) k ((div-lt_iff_lt-mul D).1 (le_trans (under n d k D h) (le_of_eq (sym (add-mul k 1 d)))))

-- ---- a tree that isn't refused

module _ (size : ℕ) (pages : List ℕ) (separators : List (List ℕ)) (tree : List ℕ) (e : (melt_of size pages separators tree).refusal ≡ 0) where
  abbrev rs : List Record
  rs = row_records (row_of size pages separators)

  abbrev ws : List (Option Weight)
  ws = weights_of size pages separators tree

  abbrev m : LeafMelt
  m = melt_of size pages separators tree

  -- its number, its weights and its sheet
  record Whole : Type 0 where
    number : melt_verdict size pages separators tree ≡ 0
    sheet : m ≡ sheet_of (total ws) (the_factor (factors ws))

  whole : Whole
  unfolding melt_of
  whole = go (eqb (melt_verdict size pages separators tree) 0) refl e
    where
      go : (b : Bool) → eqb (melt_verdict size pages separators tree) 0 ≡ b
          → (cond b (sheet_of (total ws) (the_factor (factors ws))) (refused_melt (melt_verdict size pages separators tree))).refusal ≡ 0 → Whole
      go true q h = record { number = eqb-true (melt_verdict size pages separators tree) 0 q; sheet = rw q }
      go false q h = absurd (eqb-false (melt_verdict size pages separators tree) 0 q h)

  tree_passed : tree_verdict ws ≡ 0
  unfolding melt_verdict
  tree_passed = (first_passed (lent_row_verdict size pages separators) _ whole.number).1

  all_known_lem : all_known ws ≡ true
  unfolding tree_verdict
  all_known_lem = (passed 18 (all_known ws) _ tree_passed).0

  one_of_each : is_whole ws ≡ true
  unfolding tree_verdict
  one_of_each = (passed 19 (is_whole ws) _ (passed 18 (all_known ws) _ tree_passed).1).0

  not_heavy : total ws ≤ 2 ^ 46
  unfolding tree_verdict
  not_heavy =
      let p = passed 19 (is_whole ws) _ (passed 18 (all_known ws) _ tree_passed).1 in
      let l : total ws ≤ weight_limit = leb-true (total ws) weight_limit (passed 23 (leb (total ws) weight_limit) _ p.1).0 in
      le_trans l (lit≤ tt)

  -- its one factor is the bits of its one factor record
  record OneFactor : Type 0 where
    bits : ℕ
    only : factor_bits tree rs ≡ bits ∷ []
    is : the_factor (factors ws) ≡ of_bits binary64 bits
    inside : InRange bits

  one_factor : OneFactor
  one_factor =
      let are = factors_are_the_bits_of_their_records tree rs all_known_lem in
      go (factor_bits tree rs) refl are.same are.inside (eqb-true (length (factors ws)) 1 (and_right (eqb (sprues ws) 1) _ one_of_each))
    where
      go : (bs : List ℕ) → factor_bits tree rs ≡ bs → factors ws ≡ map (of_bits binary64) bs → All InRange bs → length (factors ws) ≡ 1 → OneFactor
      go [] f x a l = absurd (omega (arith, l, ap length x))
      go (b ∷ []) f x (cons p a) l = record { bits = b; only = f; is = ap the_factor x; inside = p }
      go (b ∷ c ∷ bs) f x a l = absurd (omega (arith, l, ap length x))

  -- "Prove that the rounded product differs from the exact one by at most one part in 2 to the 53rd of it, the exact one taken as whole numbers from the
  -- factor's bits." M-106: "The rounding claim now speaks of all five kinds.": of every tree that isn't refused, whatever its kinds.
  pub the_sheet_of_a_tree_is_rounded_once : RoundedOnce tree rs m
  unfolding sheet_of
  the_sheet_of_a_tree_is_rounded_once =
      let b = one_factor.bits in
      let lo = one_factor.inside.0 in
      let hi = one_factor.inside.1 in
      rw (whole.sheet, one_factor.is)
      (record { bits = b; one_factor = one_factor.only; own_bits = the_bits_of_a_factor_are_its_own b lo hi; near = the_product_is_rounded_once (total ws) b not_heavy lo hi })

  pub whole_milligrams_are_the_least : LeastWhole m
  unfolding sheet_of
  whole_milligrams_are_the_least = rw whole.sheet (record { not_below = least_not_below _; smallest = least_of_all _ })
