-- Computed examples: which records are a tree's weights, and what they add up to. Assumes nothing.
use Rattle.std.specs.Prelude.{Some}
use mathlib.Core.Path.{◌≡◌, refl}
use mathlib.Core.Bool.{Bool, true, false}
use mathlib.Core.List.{List, [], ◌∷◌, ◌++◌}
use Prim.Native.Nat.{ℕ}
use lib.ListN.{length}
use Rattle.bit_ops.specs.Steps.{zeros}
use Rattle.leaf_node.specs.Record.{Record}
use Rattle.melt_weight.specs.declared.Weight.TheVariants.{Piece, Sprue}
use Rattle.melt_weight.specs.Weight.{low, limited, long_weight_of, weight_of}
use Rattle.melt_scale.specs.Tree.{of_tree, weights_in, total, all_known, sprues, factors, factor_bits}

-- a tree whose last byte is t, and a record of it
abbrev tree : ℕ → List ℕ
tree t = zeros 23 ++ (t ∷ [])

abbrev weight : ℕ → Bool → List ℕ → Record
weight t flag value = record { key = tree t ++ zeros 8; value = value; flag = flag }

abbrev piece : List ℕ
piece = 1 ∷ 7 ∷ 0 ∷ 0 ∷ 0 ∷ []

abbrev sprue : List ℕ
sprue = 2 ∷ 9 ∷ 0 ∷ 0 ∷ 0 ∷ []

pub record Weighed : Type 0 where
  -- "The first 24 key bytes name the tree"
  pub by_24_bytes : of_tree (tree 5) (weight 6 false piece) ≡ false
  pub its_own : of_tree (tree 5) (weight 5 false piece) ≡ true
  -- "its flagged records are skipped"
  pub flagged : weights_in (tree 5) (weight 5 true piece ∷ weight 5 false sprue ∷ []) ≡ Some (Sprue 9) ∷ []
  pub of_another : weights_in (tree 5) (weight 6 false piece ∷ weight 5 false piece ∷ []) ≡ Some (Piece 7) ∷ []
  -- "add pieces and sprue", of all kinds
  pub old_and_new : total (weights_in (tree 5) (weight 5 false piece ∷ weight 5 false (4 ∷ 0 ∷ 0 ∷ 0 ∷ 0 ∷ 1 ∷ 0 ∷ 0 ∷ 0 ∷ []) ∷ [])) ≡ 4294967303
  pub sprues_of_both_kinds : sprues (weights_in (tree 5) (weight 5 false sprue ∷ weight 5 false (5 ∷ zeros 8) ∷ [])) ≡ 2
  pub sum : total (weights_in (tree 5) (weight 5 false piece ∷ weight 5 false sprue ∷ weight 5 false piece ∷ [])) ≡ 23
  pub one_sprue : sprues (weights_in (tree 5) (weight 5 false piece ∷ weight 5 false sprue ∷ [])) ≡ 1
  pub no_factor : length (factors (weights_in (tree 5) (weight 5 false piece ∷ weight 5 false sprue ∷ []))) ≡ 0
  pub unknown : all_known (weights_in (tree 5) (weight 5 false [] ∷ [])) ≡ false
  -- "the factor's bits"
  pub bits : factor_bits (tree 5) (weight 5 false piece ∷ weight 5 false (3 ∷ 0 ∷ 0 ∷ 0 ∷ 0 ∷ 0 ∷ 0 ∷ 240 ∷ 63 ∷ []) ∷ weight 5 true (3 ∷ zeros 8) ∷ []) ≡ 4607182418800017408 ∷ []

pub what_is_weighed : Weighed
unfolding low limited long_weight_of weight_of
what_is_weighed = record {
  by_24_bytes = refl;
  its_own = refl;
  flagged = refl;
  of_another = refl;
  old_and_new = refl;
  sprues_of_both_kinds = refl;
  sum = refl;
  one_sprue = refl;
  no_factor = refl;
  unknown = refl;
  bits = refl;
}
