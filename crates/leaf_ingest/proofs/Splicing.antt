-- One element put in the place of another. Assumes nothing.
use mathlib.Core.Path.{◌≡◌, refl, ap}
use mathlib.Core.List.{List, [], ◌∷◌}
use Prim.Native.Nat.{ℕ, zero, suc, ◌+◌, ◌<◌}
use native.Mathlib.Omega.{arith}
use lib.ListN.{length, set}
use Rattle.leaf_node.specs.Build.{put}

module _ {A : Type 0} where
  pub put_one : (xs : List A) (at : ℕ) (x : A) → at < length xs → set xs at x ≡ put xs at (x ∷ [])
  unfolding put
  put_one [] at x h = absurd (omega arith)
  put_one (y ∷ xs) zero x h = refl
  put_one (y ∷ xs) (suc at) x h =
      let e : suc at + 1 ≡ suc (at + 1) = omega arith in
      rw e (ap (λ (l : List A). y ∷ l) (put_one xs at x (omega arith)))
