-- Document 02, M-104: "A weight record's value is a kind byte and a fixed body". "Read, a record is a piece, a sprue or a factor with its number." And M-106's
-- weights of 64 bits.
use Rattle.std.specs.Prelude.{◌≡◌, ℕ, ◌+◌, ◌*◌, ◌<◌, ◌≤◌, Bool, false, cond, ◌&&◌, T, List, [], ◌∷◌, ◌++◌, length, drop, pos, ◌==◌, from_bits, nat_le, slice_index, Float, Option, Some, None}
use Rattle.std.specs.Float.{binary64, fin}
use Rattle.std.specs.Float.Ieee.{le}
use Rattle.melt_weight.specs.declared.Weight.{Weight}
use Rattle.melt_weight.specs.declared.Weight.TheVariants.{Piece, Sprue, Factor}

-- "all low byte first": the number that bytes spell
unfoldable pub low : List ℕ → ℕ
low [] = 0
low (b ∷ bs) = b + 256 * low bs

-- the number of a value's body, behind its kind byte
abbrev pub body_of : List ℕ → ℕ
body_of v = low (drop 1 v)

-- "a factor not from 1 to 32": the bits of 1 and of 32. The bits of positive floats are in the order of the floats, so a NaN, an infinity, zero, a
-- subnormal and every negative number lie outside.
abbrev pub least_factor : ℕ
least_factor = 4607182418800017408

abbrev pub most_factor : ℕ
most_factor = 4629700416936869888

unfoldable pub factor_of : ℕ → Option Weight
factor_of b = cond (nat_le least_factor b && nat_le b most_factor) (Some (Factor (from_bits binary64 b))) None

-- a value of this kind and length
abbrev pub is_kind : ℕ → ℕ → List ℕ → Bool
is_kind kind len v = slice_index v 0 == kind && length v == len

-- M-106: "each at most 2 to the 40th", and "a tree whose total passes 2 to the 40th"
abbrev pub weight_limit : ℕ
weight_limit = 1099511627776

-- "a kind 4 or 5 weight above the limit" is none
unfoldable pub limited : (ℕ → Weight) → ℕ → Option Weight
limited weight n = cond (nat_le n weight_limit) (Some (weight n)) None

-- M-106: "Kinds 4 and 5 are piece and sprue in 64 bits"
unfoldable pub long_weight_of : List ℕ → Option Weight
long_weight_of v = cond (is_kind 4 9 v) (limited Piece (body_of v)) (cond (is_kind 5 9 v) (limited Sprue (body_of v)) None)

-- "1, a piece's wax in milligrams (32 bits); 2, the sprue's (32 bits); 3, the alloy factor as a 64-bit float": none with "another kind, a wrong length"
unfoldable pub weight_of : List ℕ → Option Weight
weight_of v =
    cond (is_kind 1 5 v) (Some (Piece (body_of v)))
    (cond (is_kind 2 5 v) (Some (Sprue (body_of v)))
    (cond (is_kind 3 9 v) (factor_of (body_of v)) (long_weight_of v)))

-- ---- what a weight that was read is

-- from 1 to 32, by value
pub record FactorRight (x : Float) : Type 0 where
  pub least : T (le (fin false 1 (pos 0)) x)
  pub most : T (le x (fin false 1 (pos 5)))

-- whoever adds weights up needs of each: milligrams up to the limit, a factor from 1 to 32
abbrev pub WeightRight : Option Weight → Type 0
WeightRight (Some (Piece n)) = n ≤ weight_limit
WeightRight (Some (Sprue n)) = n ≤ weight_limit
WeightRight (Some (Factor x)) = FactorRight x
WeightRight None = Unit {0}

-- ---- M-106: "rewriting one as 4 or 5 gives the same weight"

-- a body of 32 bits: four bytes
pub record FourBytes (b : List ℕ) : Type 0 where
  pub four : length b ≡ 4
  pub bytes : (i : ℕ) → slice_index b i < 256

-- the same number in 64 bits, low byte first
abbrev pub widened : List ℕ → List ℕ
widened b = b ++ (0 ∷ 0 ∷ 0 ∷ 0 ∷ [])
