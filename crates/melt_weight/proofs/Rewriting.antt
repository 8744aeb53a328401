-- A weight of 32 bits and the same in 64 bits are one weight. Assumes nothing.
use Rattle.std.specs.Prelude.{Some}
use Rattle.std.proofs.Common.{◌≡◌, ℕ, ◌<◌, ◌≤◌, List, [], ◌∷◌, refl, arith, le-leb}
use Rattle.melt_weight.specs.declared.Weight.TheVariants.{Piece, Sprue}
use Rattle.melt_weight.specs.Weight.{low, weight_limit, limited, long_weight_of, weight_of, FourBytes, widened}

same_number : (a b c d : ℕ) → low (a ∷ b ∷ c ∷ d ∷ 0 ∷ 0 ∷ 0 ∷ 0 ∷ []) ≡ low (a ∷ b ∷ c ∷ d ∷ [])
unfolding low
same_number a b c d = omega arith

under_the_limit : (a b c d : ℕ) → a < 256 → b < 256 → c < 256 → d < 256 → low (a ∷ b ∷ c ∷ d ∷ []) ≤ 1099511627776
unfolding low
under_the_limit a b c d h i j k = omega arith

-- of each body: the old kind is a piece or a sprue with its number, and the new one is the same
pub record SameWeight (b : List ℕ) : Type 0 where
  pub piece : weight_of (1 ∷ b) ≡ Some (Piece (low b))
  pub long_piece : weight_of (4 ∷ widened b) ≡ weight_of (1 ∷ b)
  pub sprue : weight_of (2 ∷ b) ≡ Some (Sprue (low b))
  pub long_sprue : weight_of (5 ∷ widened b) ≡ weight_of (2 ∷ b)

-- "Records of kinds 1 and 2 are still read, and rewriting one as 4 or 5 gives the same weight; show that for each of them."
pub rewriting_keeps_the_weight : (b : List ℕ) → FourBytes b → SameWeight b
unfolding weight_of long_weight_of limited
rewriting_keeps_the_weight (a ∷ b ∷ c ∷ d ∷ []) f =
    let e = same_number a b c d in
    let t = le-leb (low (a ∷ b ∷ c ∷ d ∷ [])) weight_limit (under_the_limit a b c d (f.bytes 0) (f.bytes 1) (f.bytes 2) (f.bytes 3)) in
    record { piece = refl; long_piece = rw (e, t) refl; sprue = refl; long_sprue = rw (e, t) refl }
rewriting_keeps_the_weight [] f = absurd (omega (arith, f.four))
rewriting_keeps_the_weight (a ∷ []) f = absurd (omega (arith, f.four))
rewriting_keeps_the_weight (a ∷ b ∷ []) f = absurd (omega (arith, f.four))
rewriting_keeps_the_weight (a ∷ b ∷ c ∷ []) f = absurd (omega (arith, f.four))
rewriting_keeps_the_weight (a ∷ b ∷ c ∷ d ∷ e ∷ r) f = absurd (omega (arith, f.four))
