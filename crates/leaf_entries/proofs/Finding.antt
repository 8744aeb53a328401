-- What is found out of each element of a list, one after the other. Assumes nothing.
use mathlib.Core.Path.{sym, subst}
use mathlib.Core.List.{List, [], ◌∷◌}
use Prim.Native.Nat.{ℕ, zero, suc, ◌+◌, ◌<◌}
use native.Mathlib.Nat.{not-suc-le-zero, le_of_suc-le-suc}
use native.Mathlib.Numerals.{add-one}
use lib.ListN.{length, get_or, take}
use Rattle.leaf_node.specs.Fits.{All, nil, cons}

module _ {A : Type 0} {P : A → Type 0} where
  finding_the_next : (l : List A) (i : ℕ) (d : A) → i < length l → All P (take i l) → P (get_or l i d) → All P (take (suc i) l)
  finding_the_next [] i d h a p = absurd (not-suc-le-zero h)
  finding_the_next (x ∷ xs) zero d h a p = cons p nil
  finding_the_next (x ∷ xs) (suc i) d h (cons q a) p = cons q (finding_the_next xs i d (le_of_suc-le-suc h) a p)

  pub finding_one_more : (l : List A) (i : ℕ) (d : A) → i < length l → All P (take i l) → P (get_or l i d) → All P (take (i + 1) l)
  finding_one_more l i d h a p = subst (λ (k : ℕ). All P (take k l)) (sym (add-one i)) (finding_the_next l i d h a p)
