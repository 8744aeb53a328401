-- Weights laid on the scale: no sum wraps, and the factor stays one from 1 to 32. Assumes nothing.
use Prim.Native.Nat.{ℕ, ◌+◌, ◌≤◌, ◌<◌}
use native.Mathlib.Nat.{le_refl}
use native.Mathlib.Omega.{arith}
use lib.Dec.{lit≤}
use Rattle.melt_weight.specs.Weight.{least_factor, FactorRight}
use Rattle.melt_weight.proofs.Factor.{bits_at_least_one, bits_at_most}
use Rattle.melt_scale.specs.declared.Scale.{Scale}
use Rattle.melt_scale.specs.Steps.{empty_scale, record_room, page_room, Light, Heavier}

-- ---- several

pub no_weight_more : (most : ℕ) (s : Scale) → Light most s → (k : ℕ) → Heavier k s s
no_weight_more most s l k = record { total = omega arith; sprues = omega arith; factors = omega arith; factor = l.factor }

module _ (s t u : Scale) where
  pub more_weights : (k m : ℕ) → Heavier k s t → Heavier m t u → Heavier (k + m) s u
  more_weights k m a b = record {
    total = omega (arith, a.total, b.total);
    sprues = omega (arith, a.sprues, b.sprues);
    factors = omega (arith, a.factors, b.factors);
    factor = b.factor;
  }

  pub at_most_so_many : (k m : ℕ) → k ≤ m → Heavier k s t → Heavier m s t
  at_most_so_many k m l a = record {
    total = omega (arith, l, a.total);
    sprues = omega (arith, l, a.sprues);
    factors = omega (arith, l, a.factors);
    factor = a.factor;
  }

-- ---- none

pub one_is_a_factor : FactorRight empty_scale.factor
one_is_a_factor = record { least = bits_at_least_one least_factor (le_refl least_factor) (lit≤ tt); most = bits_at_most least_factor (le_refl least_factor) (lit≤ tt) }
