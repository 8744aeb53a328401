-- The loops over changes: what holds of those from index i on decides. Assumes nothing.
use mathlib.Core.Path.{◌≡◌, refl}
use mathlib.Core.List.{List, [], ◌∷◌}
use Prim.Native.Nat.{ℕ, ◌-◌, ◌≤◌}
use lib.Dec.{leb}
use lib.ListN.{length, drop}
use Rattle.row_changes.specs.Packed.{value_length}
use Rattle.row_changes.specs.Tests.{sum_of, values_length, size_with, put_body, put_bodies, lengths_fit, keys_rising}
use Rattle.row_changes.proofs.Entries.{a_value_is_alone, a_body_has_a_pointer}

-- the same number of each, the same sum
sums_agree : (f g : List ℕ → ℕ) → ((c : List ℕ) → f c ≡ g c) → (cs : List (List ℕ)) → sum_of f cs ≡ sum_of g cs
sums_agree f g e [] = refl
sums_agree f g e (c ∷ cs) = rw (e c, sums_agree f g e cs)

pub values_are_there : (cs : List (List ℕ)) (len : ℕ) → leb (sum_of (size_with 0) cs) len ≡ leb (values_length cs) len
values_are_there cs len = rw (sums_agree (size_with 0) value_length a_value_is_alone cs)

pub bodies_are_within : (cs : List (List ℕ)) (budget : ℕ) → leb (sum_of (size_with 34) cs) budget ≡ leb (put_bodies cs) budget
bodies_are_within cs budget = rw (sums_agree (size_with 34) put_body a_body_has_a_pointer cs)

-- ---- a budget that is counted down

module _ (f : List ℕ → ℕ) (cs : List (List ℕ)) (budget : ℕ) where
  -- those from i on are within what is left just where all are within the budget
  pub record Left (i left : ℕ) : Type 0 where
    pub within : i ≤ length cs
    pub same : leb (sum_of f (drop i cs)) left ≡ leb (sum_of f cs) budget

-- ---- a test of each

module _ (most : ℕ) (cs : List (List ℕ)) where
  pub record Tested (i : ℕ) : Type 0 where
    pub within : i ≤ length cs
    pub same : lengths_fit most (drop i cs) ≡ lengths_fit most cs

-- ---- a test of neighbours

module _ (cs : List (List ℕ)) where
  -- the entry before i and those behind it decide
  pub record Compared (i : ℕ) : Type 0 where
    pub same : keys_rising (drop (i - 1) cs) ≡ keys_rising cs
