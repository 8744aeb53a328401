-- Pages whose values lie one behind the other, up to the end: the values of a range are one part of the page. Assumes nothing.
use Prim.Native.Nat.{ℕ, zero, suc, ◌+◌, ◌-◌, ◌≤◌, ◌<◌}
use mathlib.Core.Path.{◌≡◌, sym, ap, ◌∙◌}
use mathlib.Core.List.{List}
use native.Mathlib.Nat.{sub_self}
use native.Mathlib.Omega.{arith}
use native.Mathlib.Numerals.{add-one}
use lib.ListN.{length, take, drop, length-take, length-drop}
use lib.Seq.{take-add, drop-drop}
use Rattle.leaf_node.specs.Record.{values, total}
use Rattle.leaf_node.specs.Page.{key_at, start, length_at, value_at, record_at, run, records_between, values_size}
use Rattle.leaf_node.specs.Steps.{Laid}
use Rattle.leaf_node.specs.Fits.{All, Keyed}
use Rattle.leaf_node.proofs.Reading.{start_end}
use Rattle.leaf_node.proofs.Lengths.{length_run, all_run}

module _ (p : List ℕ) (n : ℕ) (l : Laid p n) where
  -- starts never fall, from any index to any later one
  starts_rise : (m i : ℕ) → i + m ≤ n → start p i ≤ start p (i + m)
  starts_rise zero i h = let e : start p (i + 0) ≡ start p i = ap (start p) (omega arith) in omega arith
  starts_rise (suc m) i h =
      let e : start p (i + suc m) ≡ start p (i + m + 1) = ap (start p) (omega arith) in
      omega (arith, starts_rise m i (omega arith), l.steps (i + m) (omega arith))

  pub starts_between : (i j : ℕ) → i ≤ j → j ≤ n → start p i ≤ start p j
  starts_between i j h k =
      let e : start p (i + (j - i)) ≡ start p j = ap (start p) (omega arith) in
      omega (arith, starts_rise (j - i) i (omega arith))

  pub start_inside : (i : ℕ) → i ≤ n → start p i ≤ length p
  start_inside i h =
      let e : length p ≡ start p n = start_end p n n l.counted (omega arith) in
      omega (arith, starts_between i n h (omega arith))

  pub value_length_lem : (i : ℕ) → i < n → length (record_at p i).value ≡ length_at p i
  unfolding record_at value_at length_at
  value_length_lem i h = simp (length-take, length-drop) (omega (arith, start_inside (i + 1) (omega arith), l.steps i h))

  pub key_length : (i : ℕ) → i < n → length (record_at p i).key ≡ 32
  unfolding record_at key_at
  key_length i h = simp (length-take, length-drop) (omega (arith, l.inside))

  pub keys_have_32_bytes : (from to : ℕ) → from ≤ to → to ≤ n → All Keyed (records_between p from to)
  unfolding records_between
  keys_have_32_bytes from to h k = all_run Keyed (to - from) from (record_at p) (λ i a b. key_length i (omega arith))

  values_run : (m i : ℕ) → i + m ≤ n → values (run m i (record_at p)) ≡ take (start p (i + m) - start p i) (drop (start p i) p)
  unfolding values run record_at value_at length_at
  values_run zero i h =
      let e : start p (i + 0) - start p i ≡ 0 = ap (λ (x : ℕ). start p x - start p i) (omega arith) ∙ sub_self (start p i) in
      rw e
  values_run (suc m) i h =
      let s = l.steps i (omega arith) in
      let t : start p (i + 1) ≡ start p (suc i) = ap (start p) (add-one i) in
      let u : start p (suc i + m) ≡ start p (i + suc m) = ap (start p) (omega arith) in
      let r = starts_rise m (suc i) (omega arith) in
      let a : start p (i + suc m) - start p i ≡ start p (i + 1) - start p i + (start p (suc i + m) - start p (suc i)) = omega arith in
      let b : start p i + (start p (i + 1) - start p i) ≡ start p (suc i) = omega arith in
      rw (values_run m (suc i) (omega arith), a, take-add (start p (i + 1) - start p i) (start p (suc i + m) - start p (suc i)) (drop (start p i) p), drop-drop (start p (i + 1) - start p i) (start p i) p, b)

  total_run : (m i : ℕ) → i + m ≤ n → total (run m i (record_at p)) + start p i ≡ start p (i + m)
  unfolding total run length_at
  total_run zero i h = let e : start p (i + 0) ≡ start p i = ap (start p) (omega arith) in omega arith
  total_run (suc m) i h =
      let s = l.steps i (omega arith) in
      let t : start p (i + 1) ≡ start p (suc i) = ap (start p) (add-one i) in
      let u : start p (suc i + m) ≡ start p (i + suc m) = ap (start p) (omega arith) in
      omega (arith, value_length_lem i (omega arith), total_run m (suc i) (omega arith))

  module _ (from to : ℕ) (h : from ≤ to) (k : to ≤ n) where
    pub values_of_a_range_are_one_part : values (records_between p from to) ≡ take (start p to - start p from) (drop (start p from) p)
    unfolding records_between
    values_of_a_range_are_one_part =
        let e : from + (to - from) ≡ to = omega arith in
        values_run (to - from) from (omega arith) ∙ rw e

    pub values_size_is_a_difference : values_size p from to ≡ start p to - start p from
    unfolding values_size records_between
    values_size_is_a_difference =
        let e : start p (from + (to - from)) ≡ start p to = ap (start p) (omega arith) in
        omega (arith, total_run (to - from) from (omega arith))

    pub range_length : length (records_between p from to) ≡ to - from
    unfolding records_between
    range_length = length_run (to - from) from (record_at p)

-- what `size_between` answers
module _ (p : List ℕ) (n from to : ℕ) (l : Laid p n) (h : from ≤ to) (k : to ≤ n) (a b : ℕ) (q : a ≡ start p to) (r : b ≡ start p from) where
  pub size_order : b ≤ a
  size_order = omega (arith, starts_between p n l from to h k)

  pub size_is : a - b ≡ values_size p from to
  size_is = rw (q, r) (sym (values_size_is_a_difference p n l from to h k))

  pub size_inside : a - b ≤ length p
  size_inside = omega (arith, start_inside p n l to k)
