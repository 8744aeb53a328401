-- What lies on the scale behind records: the sums of the tree's weights among them. Assumes nothing.
use Rattle.std.specs.Prelude.{Option, Some, None}
use mathlib.Core.Path.{◌≡◌, refl, ◌∙◌}
use mathlib.Core.Bool.{Bool, true, false, cond, ◌&&◌}
use mathlib.Core.List.{List, [], ◌∷◌}
use Prim.Native.Nat.{ℕ, ◌+◌}
use native.Mathlib.Omega.{arith}
use lib.ListN.{length}
use lib.Ieee.{Float}
use Rattle.leaf_node.specs.Record.{Record}
use Rattle.melt_weight.specs.declared.Weight.{Weight}
use Rattle.melt_weight.specs.declared.Weight.TheVariants.{Piece, Sprue, Factor}
use Rattle.melt_weight.specs.Weight.{weight_of}
use Rattle.melt_scale.specs.declared.Scale.{Scale}
use Rattle.melt_scale.specs.Tree.{of_tree, weights_in, total, all_known, sprues, factors}
use Rattle.melt_scale.specs.Steps.{empty_scale, weighed, weighed_all}

-- weights laid on the scale one after another
abbrev laid : Scale → List (Option Weight) → Scale
laid s [] = s
laid s (w ∷ ws) = laid (weighed s w) ws

records_are_their_weights : (tree : List ℕ) (s : Scale) (rs : List Record) → weighed_all tree s rs ≡ laid s (weights_in tree rs)
records_are_their_weights tree s [] = refl
records_are_their_weights tree s (r ∷ rs) = go (of_tree tree r) (λ t. records_are_their_weights tree t rs)
  where
    go : (b : Bool) → ((t : Scale) → weighed_all tree t rs ≡ laid t (weights_in tree rs))
        → ◌≡◌ {A = Scale} (weighed_all tree (cond b (weighed s (weight_of r.value)) s) rs) (laid s (elim b [ true ↦ weight_of r.value ∷ weights_in tree rs | false ↦ weights_in tree rs ]))
    go true ih = ih (weighed s (weight_of r.value))
    go false ih = ih s

-- the last of a list, or else x
abbrev pub last_or : Float → List Float → Float
last_or x [] = x
last_or x (y ∷ ys) = last_or y ys

-- the scale s became t under the weights ws
pub record Sums (s t : Scale) (ws : List (Option Weight)) : Type 0 where
  pub right : t.known ≡ (all_known ws && s.known)
  pub wax : t.total ≡ s.total + total ws
  pub sprue_count : t.sprues ≡ s.sprues + sprues ws
  pub factor_count : t.factors ≡ s.factors + length (factors ws)
  pub last : t.factor ≡ last_or s.factor (factors ws)

and-false : (b : Bool) → (b && false) ≡ false
and-false true = refl
and-false false = refl

and_true : (b : Bool) → (b && true) ≡ b
and_true true = refl
and_true false = refl

weights_are_summed : (s : Scale) (ws : List (Option Weight)) → Sums s (laid s ws) ws
weights_are_summed s [] = record { right = refl; wax = omega arith; sprue_count = omega arith; factor_count = omega arith; last = refl }
weights_are_summed s (Some (Piece n) ∷ ws) = let h = weights_are_summed (weighed s (Some (Piece n))) ws in record {
  right = h.right;
  wax = omega (arith, h.wax);
  sprue_count = omega (arith, h.sprue_count);
  factor_count = h.factor_count;
  last = h.last;
}
weights_are_summed s (Some (Sprue n) ∷ ws) = let h = weights_are_summed (weighed s (Some (Sprue n))) ws in record {
  right = h.right;
  wax = omega (arith, h.wax);
  sprue_count = omega (arith, h.sprue_count);
  factor_count = h.factor_count;
  last = h.last;
}
weights_are_summed s (Some (Factor x) ∷ ws) = let h = weights_are_summed (weighed s (Some (Factor x))) ws in record {
  right = h.right;
  wax = omega (arith, h.wax);
  sprue_count = omega (arith, h.sprue_count);
  factor_count = omega (arith, h.factor_count);
  last = h.last;
}
weights_are_summed s (None ∷ ws) = let h = weights_are_summed (weighed s None) ws in record {
  right = h.right ∙ and-false (all_known ws);
  wax = omega (arith, h.wax);
  sprue_count = omega (arith, h.sprue_count);
  factor_count = h.factor_count;
  last = h.last;
}

-- the scale t behind the records of a row
module _ (tree : List ℕ) (rs : List Record) (t : Scale) (e : t ≡ weighed_all tree empty_scale rs) where
  abbrev ws : List (Option Weight)
  ws = weights_in tree rs

  sums : Sums empty_scale t ws
  sums = rw (e ∙ records_are_their_weights tree empty_scale rs) (weights_are_summed empty_scale ws)

  pub it_knows_whether_all_are_known : t.known ≡ all_known ws
  it_knows_whether_all_are_known = sums.right ∙ and_true (all_known ws)

  pub it_has_their_total : t.total ≡ total ws
  it_has_their_total = omega (arith, sums.wax)

  pub it_counts_the_sprues : t.sprues ≡ sprues ws
  it_counts_the_sprues = omega (arith, sums.sprue_count)

  pub it_counts_the_factors : t.factors ≡ length (factors ws)
  it_counts_the_factors = omega (arith, sums.factor_count)

  pub it_has_the_last_factor : t.factor ≡ last_or empty_scale.factor (factors ws)
  it_has_the_last_factor = sums.last
