-- The scale that the weights are laid on one after another, and what the functions over it require as plain facts.
use Rattle.std.specs.Prelude.{true, false, cond, List, [], ◌∷◌, ℕ, ◌+◌, ◌*◌, ◌≤◌, Option, Some, None}
use Rattle.std.specs.Float.{binary64}
use Rattle.std.specs.Float.Ieee.{of_bits}
use Rattle.leaf_node.specs.Record.{Record}
use Rattle.melt_weight.specs.declared.Weight.{Weight}
use Rattle.melt_weight.specs.declared.Weight.TheVariants.{Piece, Sprue, Factor}
use Rattle.melt_weight.specs.Weight.{least_factor, weight_of, FactorRight}
use Rattle.melt_scale.specs.declared.Scale.{Scale}
use Rattle.melt_scale.specs.Tree.{of_tree}

-- nothing on it yet; where no factor was read it holds 1, which no reply shows
abbrev pub empty_scale : Scale
empty_scale = record { known = true; total = 0; sprues = 0; factors = 0; factor = of_bits binary64 least_factor }

-- one weight more
abbrev pub weighed : Scale → Option Weight → Scale
weighed s (Some (Piece n)) = record { known = s.known; total = s.total + n; sprues = s.sprues; factors = s.factors; factor = s.factor }
weighed s (Some (Sprue n)) = record { known = s.known; total = s.total + n; sprues = s.sprues + 1; factors = s.factors; factor = s.factor }
weighed s (Some (Factor x)) = record { known = s.known; total = s.total; sprues = s.sprues; factors = s.factors + 1; factor = x }
weighed s None = record { known = false; total = s.total; sprues = s.sprues; factors = s.factors; factor = s.factor }

-- one record more, and a list of them
abbrev pub weighed_record : List ℕ → Scale → Record → Scale
weighed_record tree s r = cond (of_tree tree r) (weighed s (weight_of r.value)) s

abbrev pub weighed_all : List ℕ → Scale → List Record → Scale
weighed_all tree s [] = s
weighed_all tree s (r ∷ rs) = weighed_all tree (weighed_record tree s r) rs

-- ---- no sum wraps

-- 2 ^ 62: one weight more wraps no sum; and 2 ^ 61: nor do the weights of a page
abbrev pub record_room : ℕ
record_room = 4611686018427387904

abbrev pub page_room : ℕ
page_room = 2305843009213693952

-- nothing on the scale is over this
pub record Light (most : ℕ) (s : Scale) : Type 0 where
  pub total : s.total ≤ most
  pub sprues : s.sprues ≤ most
  pub factors : s.factors ≤ most
  pub factor : FactorRight s.factor

-- at most k weights came onto the scale s and made it t
pub record Heavier (k : ℕ) (s t : Scale) : Type 0 where
  pub total : t.total ≤ s.total + k * 1099511627776
  pub sprues : t.sprues ≤ s.sprues + k
  pub factors : t.factors ≤ s.factors + k
  pub factor : FactorRight t.factor
