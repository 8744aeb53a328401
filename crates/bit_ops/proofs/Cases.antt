-- The three cases of two numbers. Assumes nothing.
use mathlib.Core.Path.{◌≡◌, refl}
use mathlib.Core.Logic.{◌⊎◌, inl, inr}
use mathlib.Core.Bool.{Bool, true, false}
use Prim.Native.Nat.{ℕ, ◌<◌}
use native.Mathlib.Omega.{arith}
use borrow.Author.Tests.{ltb-true, ltb-false}
use lib.Dec.{ltb}

-- two numbers are in order, or are one
pub cases : (a b : ℕ) → (a < b) ⊎ ((a ≡ b) ⊎ (b < a))
cases a b = go (ltb a b) (ltb b a) refl refl
  where
    go : (t s : Bool) → ltb a b ≡ t → ltb b a ≡ s → (a < b) ⊎ ((a ≡ b) ⊎ (b < a))
    go true s p q = inl (ltb-true a b p)
    go false true p q = inr (inr (ltb-true b a q))
    go false false p q = inr (inl (omega (arith, ltb-false)))
