-- Where a raised record comes from in the base: by itself, or the last one of a range. Assumes nothing.
use mathlib.Core.Path.{◌≡◌}
use mathlib.Core.List.{List, [], ◌∷◌, ◌++◌}
use Prim.Native.Nat.{ℕ, suc, ◌+◌, ◌-◌, ◌≤◌, ◌<◌}
use native.Mathlib.Omega.{arith}
use lib.ListN.{length}
use Rattle.leaf_node.specs.Page.{count, start, record_at, run, records_between}
use Rattle.leaf_node.proofs.Laying.{start_inside}
use Rattle.leaf_raise.specs.Raising.{RecordThere}

-- ---- a record of the base

module _ (page : List ℕ) (i : ℕ) (h : RecordThere page i) where
  pub its_value_ends_in_the_page : start page (i + 1) ≤ length page
  its_value_ends_in_the_page = start_inside page (count page) h.laid (i + 1) (omega (arith, h.there))

-- ---- a range of the base

pub range_cons : (page : List ℕ) (i to : ℕ) → 0 < i → i ≤ to → records_between page (i - 1) to ≡ (record_at page (i - 1) ∷ []) ++ records_between page i to
unfolding records_between run
range_cons page i to h k =
    let a : to - (i - 1) ≡ suc (to - i) = omega arith in
    let b : suc (i - 1) ≡ i = omega arith in
    rw (a, b)
