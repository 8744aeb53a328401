-- Document 02, M-104: "then multiply: the wax total times the factor is rounded once. The reply keeps total, factor and rounded product together, and the
-- smallest whole milligram not below that product."
use Rattle.std.specs.Prelude.{ℕ, ◌+◌, ◌-◌, ◌*◌, ◌/◌, ◌%◌, ◌^◌, ◌≤◌, pos, Float}
use Rattle.std.specs.Float.{binary64}
use Rattle.std.specs.Float.Ieee.{of_int, mul}
use Rattle.std.specs.Float.Ieee.Positive.{num, den}
use Rattle.refusal.specs.Refusal.{accepted}
use Rattle.melt_weight.specs.declared.LeafMelt.{LeafMelt}

-- "the smallest whole milligram not below that product": num and den are a float as a fraction of whole numbers
unfoldable pub whole_above : Float → ℕ
whole_above x = (num x + (den x - 1)) / den x

-- the total as a float, which is exact, times the factor: one product, rounded to the nearest float
unfoldable pub sheet_of : ℕ → Float → LeafMelt
sheet_of total factor = record {
  refusal = accepted;
  total = total;
  factor = factor;
  product = mul binary64 (of_int binary64 (pos total)) factor;
  melt = whole_above (mul binary64 (of_int binary64 (pos total)) factor);
}

-- ---- "the exact one taken as whole numbers from the factor's bits"

-- the factor of bits b from 1 to 32 is digits / 2 ^ shift
unfoldable pub digits_of : ℕ → ℕ
digits_of b = 2 ^ 52 + b % 2 ^ 52

unfoldable pub shift_of : ℕ → ℕ
shift_of b = 1075 - b / 2 ^ 52

-- "differs from the exact one by at most one part in 2 to the 53rd of it": the fraction g / d from a / c
abbrev pub error_parts : ℕ
error_parts = 2 ^ 53

abbrev pub Near : ℕ → ℕ → ℕ → ℕ → Type 0
Near g d a c = ((g * c - a * d) * error_parts ≤ a * d) × ((a * d - g * c) * error_parts ≤ a * d)
