-- The used entries from one on, as a part of the list: which entries of the list they are. Assumes nothing.
use mathlib.Core.Path.{◌≡◌, refl, ◌∙◌}
use mathlib.Core.List.{List, [], ◌∷◌}
use Prim.Native.Nat.{ℕ, zero, suc, ◌+◌, ◌-◌, ◌≤◌, ◌<◌}
use native.Mathlib.Omega.{arith}
use lib.ListN.{length, get_or, take, drop}
use lib.Seq.{length-take-le}
use Rattle.std.proofs.lemmas.List.{length-drop, get_or-take, get_or-drop}
use Rattle.leaf_work.specs.declared.Entry.{Entry}
use Rattle.leaf_work.specs.Lent.{blank}

-- an entry of the list is read, whatever stands for one that is not there
pub it_is_in_the_list : (list : List Entry) (i : ℕ) (d : Entry) → i < length list → get_or list i d ≡ get_or list i blank
it_is_in_the_list [] i d h = absurd (omega arith)
it_is_in_the_list (e ∷ es) zero d h = refl
it_is_in_the_list (e ∷ es) (suc i) d h = it_is_in_the_list es i d (omega arith)

module _ (list : List Entry) (from to : ℕ) (h : from ≤ to) (k : to ≤ length list) (j : ℕ) where
  abbrev part : List Entry
  part = take (to - from) (drop from list)

  many : length part ≡ to - from
  many = length-take-le (to - from) (drop from list) (omega (arith, length-drop from list))

  module _ (l : j < length part) where
    pub it_is_used : from + j < to
    it_is_used = omega (arith, many, l)

    pub it_is_read_from_the_list : (d : Entry) → get_or part j d ≡ get_or list (from + j) blank
    it_is_read_from_the_list d =
        get_or-take (to - from) (drop from list) j d (omega (arith, many, l)) ∙ get_or-drop from list j d ∙ it_is_in_the_list list (from + j) d (omega (arith, it_is_used))

  pub they_are_passed : length part ≤ j → to ≤ from + j
  they_are_passed l = omega (arith, many)
