-- The values of a range of base records: how many bytes. Assumes nothing.
use mathlib.Core.Path.{◌≡◌, ap, ◌∙◌}
use mathlib.Core.List.{List}
use Prim.Native.Nat.{ℕ, zero, suc, ◌+◌, ◌-◌, ◌≤◌, ◌<◌}
use native.Mathlib.Omega.{arith}
use native.Mathlib.Decide.{dec_lt}
use native.Mathlib.Numerals.{add-one}
use lib.ListN.{drop}
use Rattle.leaf_node.specs.Page.{start, length_at, run, records_between, values_size}
use Rattle.leaf_node.specs.Record.{total}
use Rattle.leaf_node.specs.Steps.{Laid, Counted}
use Rattle.leaf_node.proofs.Laying.{values_size_is_a_difference}
use Rattle.leaf_cut.specs.Sizes.{sum}

-- ---- the values of a range

pub drop_run : {A : Type 0} (k m i : ℕ) (f : ℕ → A) → k ≤ m → drop k (run m i f) ≡ run (m - k) (i + k) f
unfolding run
drop_run zero m i f h =
    let a : m - 0 ≡ m = omega arith in
    let b : i + 0 ≡ i = omega arith in
    rw (a, b)
drop_run (suc k) zero i f h = absurd (omega arith)
drop_run (suc k) (suc m) i f h =
    let a : suc m - suc k ≡ m - k = omega arith in
    let b : i + suc k ≡ suc i + k = omega arith in
    rw (a, b) (drop_run k m (suc i) f (omega arith))

module _ (p : List ℕ) (n : ℕ) (l : Laid p n) where
  sum_run : (m i : ℕ) → i + m ≤ n → sum (run m i (length_at p)) + start p i ≡ start p (i + m)
  unfolding sum run length_at
  sum_run zero i h = let e : start p (i + 0) ≡ start p i = ap (start p) (omega arith) in omega arith
  sum_run (suc m) i h =
      let s = l.steps i (omega arith) in
      let t : start p (i + 1) ≡ start p (suc i) = ap (start p) (add-one i) in
      let u : start p (suc i + m) ≡ start p (i + suc m) = ap (start p) (omega arith) in
      omega (arith, sum_run m (suc i) (omega arith))

  pub the_values_of_a_range_are_summed : (from to : ℕ) → from ≤ to → to ≤ n → values_size p from to ≡ sum (run (to - from) from (length_at p))
  the_values_of_a_range_are_summed from to h k =
      let e : start p (from + (to - from)) ≡ start p to = ap (start p) (omega arith) in
      omega (arith, values_size_is_a_difference p n l from to h k, sum_run (to - from) from (omega arith))

  pub one_value_is_its_length : (i v : ℕ) → i < n → v ≡ values_size p i (i + 1) → v ≡ length_at p i
  unfolding length_at
  one_value_is_its_length i v h e = e ∙ values_size_is_a_difference p n l i (i + 1) (omega arith) (omega arith)

module _ (p : List ℕ) (n : ℕ) (c : Counted p n) where
  pub records_are_few : n ≤ 32767
  records_are_few = elim (dec_lt 0 n) [ yes h ↦ omega (arith, (c.laid h).inside, c.short) | no h ↦ omega arith ]

  none : (from to : ℕ) → to - from ≡ 0 → values_size p from to ≡ sum (run (to - from) from (length_at p))
  unfolding values_size records_between total run sum
  none from to z = rw z

  pub a_range_is_summed : (from to : ℕ) → from ≤ to → to ≤ n → values_size p from to ≡ sum (run (to - from) from (length_at p))
  a_range_is_summed from to h k = elim (dec_lt from to) [ yes l ↦ the_values_of_a_range_are_summed p n (c.laid (omega arith)) from to h k | no l ↦ none from to (omega arith) ]
