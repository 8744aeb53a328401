-- Nos. 1 to 6 of a base page, test after test. Assumes nothing.
use mathlib.Core.Path.{◌≡◌, refl, sym}
use mathlib.Core.Bool.{Bool, true, false, not, ◌&&◌}
use mathlib.Core.Option.{Option}
use mathlib.Core.List.{List}
use Prim.Native.Nat.{ℕ}
use lib.Dec.{eqb}
use borrow.Author.Tests.{ne_eqb, eqb-true, eqb-false, not-true, not-false}
use Rattle.leaf_node.specs.Page.{records}
use Rattle.leaf_node.specs.Good.{page_verdict}
use Rattle.leaf_model.specs.Work.{below_cutoff}
use Rattle.leaf_work.specs.Sound.{keys_within}
use Rattle.leaf_work.specs.Verdict.{unless, first, base_verdict, keys_verdict}

pub first_refused : (v w : ℕ) → (v ≡ 0 → ⊥) → first v w ≡ v
first_refused v w h = rw (ne_eqb v 0 h, first)

module _ (size : ℕ) (p s : List ℕ) (c : Option (List ℕ)) where
  module _ (v : ℕ) (e : v ≡ page_verdict size p) where
    pub a_bad_page_has_its_number : (v ≡ 0 → ⊥) → v ≡ keys_verdict size p s c
    unfolding keys_verdict
    a_bad_page_has_its_number h = rw (← e) (sym (first_refused v _ h))

    module _ (z : v ≡ 0) (t : Bool) (q : t ≡ keys_within s c (records p)) where
      pub keys_outside_have_number_6 : not t ≡ true → 6 ≡ keys_verdict size p s c
      unfolding keys_verdict
      keys_outside_have_number_6 h = rw (← e, z, ← q, not-true t h)

      pub keys_within_are_accepted : not t ≡ false → 0 ≡ keys_verdict size p s c
      unfolding keys_verdict
      keys_within_are_accepted h = rw (← e, z, ← q, not-false t h)

  -- a new base's number, by the number of the page and its keys
  rows : (v : ℕ) (a b z : Bool) → eqb v 0 ≡ z → first v (unless 6 (a && b) 0) ≡ first (first v (unless 6 b 0)) (unless 6 a 0)
  rows v true true true e = rw (eqb-true v 0 e)
  rows v true false true e = rw (eqb-true v 0 e)
  rows v false true true e = rw (eqb-true v 0 e)
  rows v false false true e = rw (eqb-true v 0 e)
  rows v a b false e = let h = eqb-false v 0 e in rw (first_refused v (unless 6 (a && b) 0) h, first_refused v (unless 6 b 0) h) (sym (first_refused v (unless 6 a 0) h))

  by_keys : base_verdict size p s c ≡ first (keys_verdict size p s c) (unless 6 (below_cutoff c s) 0)
  unfolding base_verdict keys_verdict
  by_keys = rows (page_verdict size p) (below_cutoff c s) (keys_within s c (records p)) (eqb (page_verdict size p) 0) refl

  module _ (v : ℕ) (e : v ≡ keys_verdict size p s c) where
    pub page_and_keys_come_first : (v ≡ 0 → ⊥) → v ≡ base_verdict size p s c
    page_and_keys_come_first h = rw (by_keys, ← e) (sym (first_refused v (unless 6 (below_cutoff c s) 0) h))

    module _ (z : v ≡ 0) (t : Bool) (q : t ≡ below_cutoff c s) where
      pub a_low_cutoff_has_number_6 : not t ≡ true → 6 ≡ base_verdict size p s c
      a_low_cutoff_has_number_6 h = rw (by_keys, ← e, z, ← q, not-true t h)

      pub a_good_base_is_accepted : not t ≡ false → 0 ≡ base_verdict size p s c
      a_good_base_is_accepted h = rw (by_keys, ← e, z, ← q, not-false t h)
