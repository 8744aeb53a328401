-- The key search: halving finds the place that the definition names, and what the place says of the page's keys. Assumes nothing.
use Prim.Native.Nat.{ℕ, zero, suc, ◌+◌, ◌-◌, ◌/◌, ◌≤◌, ◌<◌}
use mathlib.Core.Path.{◌≡◌, refl, sym, ap, ◌∙◌}
use mathlib.Core.Logic.{⊎_elim}
use mathlib.Core.Bool.{Bool, true, false, cond, ◌&&◌}
use mathlib.Core.List.{List}
use native.Mathlib.Omega.{arith}
use native.Mathlib.Decide.{dec_lt}
use native.Mathlib.Nat.{not-suc-le-zero, le_of_suc-le-suc, eq-or-lt_of_le}
use native.Mathlib.Numerals.{add-one}
use lib.Dec.{ltb, eqb}
use Rattle.std.specs.Prelude.{Ok, Err}
use lib.ListN.{get_or, take, drop, length-take, length-drop, get_or-eq_default}
use lib.Seq.{get_or-take, get_or-drop}
use borrow.Author.Tests.{lt-ltb, le-ltb, eq-eqb, ne_eqb, ltb-true, ltb-false, eqb-true}
use Rattle.bit_ops.specs.Key.{Bytes, Key, num, lt_key, eq_key}
use Rattle.bit_ops.proofs.Order.{equal_numbers_are_equal_keys}
use Rattle.leaf_node.specs.Limits.{PageSize}
use Rattle.leaf_node.specs.Page.{count, pointer, key_at}
use Rattle.leaf_node.specs.Good.{KeysRise, Good}
use Rattle.leaf_node.specs.Search.{place_from, search_of, place_index, is_found}
use Rattle.leaf_node.specs.Steps.{Sorted}
use Rattle.leaf_node.proofs.Rules.{both}
use Rattle.leaf_node.proofs.Reading.{pointers_inside}

-- keys that rise from each to the next rise from each to any later one
pub rise_on : (p : List ℕ) → KeysRise p → (i j : ℕ) → i < j → j < count p → num (key_at p i) < num (key_at p j)
rise_on p g i zero l h = absurd (not-suc-le-zero l)
rise_on p g i (suc j) l h =
    let next : num (key_at p j) < num (key_at p (suc j)) = rw (add-one j) at (g j (omega arith)) in
    ⊎_elim (λ (q : i ≡ j). rw q next) (λ (q : i < j). omega (arith, rise_on p g i j q (omega arith))) (eq-or-lt_of_le (le_of_suc-le-suc l))

-- ---- the place in words: the keys before it are below k, and the key at it isn't

record Parts (p k : List ℕ) (from to r : ℕ) : Type 0 where
  low : from ≤ r
  high : r ≤ to
  below : (j : ℕ) → from ≤ j → j < r → num (key_at p j) < num k
  at : r < to → num k ≤ num (key_at p r)

place_parts : (p k : List ℕ) (m i : ℕ) → Parts p k i (i + m) (place_from p m i k)
unfolding place_from lt_key
place_parts p k zero i =
    record { low = omega arith; high = omega arith; below = λ j a b. absurd (omega arith); at = λ h. absurd (omega arith) }
place_parts p k (suc m) i = go (ltb (num (key_at p i)) (num k)) refl (place_parts p k m (suc i))
  where
    go : (t : Bool) → ltb (num (key_at p i)) (num k) ≡ t → Parts p k (suc i) (suc i + m) (place_from p m (suc i) k)
        → Parts p k i (i + suc m) (elim t [ true ↦ place_from p m (suc i) k | false ↦ i ])
    go true e s =
        let here : num (key_at p i) < num k = ltb-true _ _ e in
        record {
          low = omega (arith, s.low);
          high = omega (arith, s.high);
          below = λ j a b. ⊎_elim (λ (q : i ≡ j). rw (← q) here) (λ (q : i < j). s.below j q b) (eq-or-lt_of_le {n = i} {m = j} a);
          at = λ h. s.at (omega arith);
        }
    go false e s =
        record { low = omega arith; high = omega arith; below = λ j a b. absurd (omega arith); at = λ h. ltb-false _ _ e }

parts_one : (p k : List ℕ) (from to r s : ℕ) → Parts p k from to r → Parts p k from to s → r ≡ s
parts_one p k from to r s a b =
    elim (dec_lt r s) [
      | yes h ↦ absurd (omega (arith, b.below r a.low h, a.at (omega (arith, b.high))))
      | no h ↦ elim (dec_lt s r) [
        | yes h' ↦ absurd (omega (arith, a.below s b.low h', b.at (omega (arith, a.high))))
        | no h' ↦ omega arith
      ]
    ]

-- ---- halving: the keys before lo are below k, those from hi on are not

pub record Bracket (p : List ℕ) (n from : ℕ) (k : List ℕ) (lo hi : ℕ) : Type 0 where
  pub low : from ≤ lo
  pub order : lo ≤ hi
  pub within : hi ≤ n
  pub below : (j : ℕ) → from ≤ j → j < lo → num (key_at p j) < num k
  pub above : (j : ℕ) → hi ≤ j → j < n → num k ≤ num (key_at p j)

module _ (p : List ℕ) (n from : ℕ) (k : List ℕ) (lo hi : ℕ) (b : Bracket p n from k lo hi) where
  pub bracket_end : hi ≤ lo → lo ≡ place_from p (n - from) from k
  bracket_end h =
      let e : from + (n - from) ≡ n = omega arith in
      parts_one p k from (from + (n - from)) lo _
      (record { low = b.low; high = omega arith; below = b.below; at = λ l. b.above lo h (omega arith) })
      (place_parts p k (n - from) from)

  module _ (s : Sorted p n) (l : lo < hi) (x : List ℕ) (t : Bool) (q : x ≡ key_at p (lo + (hi - lo) / 2)) (e : t ≡ lt_key x k) where
    pub bracket_up : t ≡ true → Bracket p n from k (lo + (hi - lo) / 2 + 1) hi
    unfolding lt_key
    bracket_up h =
        let mid : ℕ = lo + (hi - lo) / 2 in
        let m : num (key_at p mid) < num k = rw q at (ltb-true (num x) (num k) (sym e ∙ h)) in
        record {
          low = omega (arith, b.low);
          order = omega arith;
          within = b.within;
          below = λ j a i. ⊎_elim (λ (z : j ≡ mid). rw z m)
              (λ (z : j < mid). omega (arith, rise_on p s.rise j mid z (omega (arith, s.counted, b.within)), m)) (eq-or-lt_of_le {n = j} {m = mid} (omega arith));
          above = b.above;
        }

    pub bracket_down : t ≡ false → Bracket p n from k lo (lo + (hi - lo) / 2)
    unfolding lt_key
    bracket_down h =
        let mid : ℕ = lo + (hi - lo) / 2 in
        let m : num k ≤ num (key_at p mid) = rw q at (ltb-false (num x) (num k) (sym e ∙ h)) in
        record {
          low = b.low;
          order = omega arith;
          within = omega (arith, b.within);
          below = b.below;
          above = λ j a i. ⊎_elim (λ (z : mid ≡ j). rw (← z) m)
              (λ (z : mid < j). omega (arith, rise_on p s.rise mid j z (omega (arith, s.counted)), m)) (eq-or-lt_of_le {n = mid} {m = j} a);
        }

-- ---- the answer of the search

module _ (p : List ℕ) (n from : ℕ) (k : List ℕ) (r : ℕ) (c : n ≡ count p) (e : r ≡ place_from p (n - from) from k) where
  e' : place_from p (count p - from) from k ≡ r
  e' = rw (← c) (sym e)

  pub search_past : n ≤ r → Err r ≡ search_of p from k
  unfolding search_of
  search_past h = rw (e', le-ltb r (count p) (omega arith))

  module _ (h : from ≤ n) (l : r < n) (x : List ℕ) (t : Bool) (q : x ≡ key_at p r) (w : t ≡ lt_key k x) where
    pub search_none : t ≡ true → Err r ≡ search_of p from k
    unfolding search_of eq_key lt_key
    search_none z =
        let m : num k < num (key_at p r) = rw q at (ltb-true (num k) (num x) (sym w ∙ z)) in
        rw (e', lt-ltb r (count p) (omega arith), ne_eqb (num (key_at p r)) (num k) (λ y. omega arith))

    pub search_some : t ≡ false → Ok r ≡ search_of p from k
    unfolding search_of eq_key lt_key
    search_some z =
        let m : num (key_at p r) ≤ num k = rw q at (ltb-false (num k) (num x) (sym w ∙ z)) in
        let a : Parts p k from (from + (n - from)) r = rw e (place_parts p k (n - from) from) in
        let b = a.at (omega arith) in
        rw (e', lt-ltb r (count p) (omega arith), eq-eqb (num (key_at p r)) (num k) (omega arith))

-- ---- what the place says of the page's keys

told : (t : Bool) (r : ℕ) → (place_index (cond t (Ok r) (Err r)) ≡ r) × (is_found (cond t (Ok r) (Err r)) ≡ t)
told true r = (refl, refl)
told false r = (refl, refl)

module _ (p : List ℕ) (from : ℕ) (k : List ℕ) where
  pub index_of_the_search : place_index (search_of p from k) ≡ place_from p (count p - from) from k
  unfolding search_of
  index_of_the_search = let r : ℕ = place_from p (count p - from) from k in (told (ltb r (count p) && eq_key (key_at p r) k) r).0

  pub hit_of_the_search : is_found (search_of p from k)
      ≡ (ltb (place_from p (count p - from) from k) (count p) && eq_key (key_at p (place_from p (count p - from) from k)) k)
  unfolding search_of
  hit_of_the_search = let r : ℕ = place_from p (count p - from) from k in (told (ltb r (count p) && eq_key (key_at p r) k) r).1

  -- a search from further on comes to the same place, where the records that it passes over are below the key
  pub a_search_from_further_on_agrees : from ≤ count p → ((j : ℕ) → j < from → num (key_at p j) < num k) → search_of p from k ≡ search_of p 0 k
  unfolding search_of
  a_search_from_further_on_agrees l h =
      let a : Parts p k from (from + (count p - from)) (place_from p (count p - from) from k) = place_parts p k (count p - from) from in
      let b : Parts p k 0 (0 + (count p - 0)) (place_from p (count p - from) from k) = record {
        low = omega arith;
        high = omega (arith, a.high);
        below = λ j x y. elim (dec_lt j from) [ yes z ↦ h j z | no z ↦ a.below j (omega arith) y ];
        at = λ x. a.at (omega arith);
      } in
      let e : place_from p (count p - from) from k ≡ place_from p (count p - 0) 0 k = parts_one p k 0 (0 + (count p - 0)) _ _ b (place_parts p k (count p - 0) 0) in
      ap (λ (i : ℕ). cond (ltb i (count p) && eq_key (key_at p i) k) (Ok i) (Err i)) e

module _ (p : List ℕ) (from : ℕ) (k : List ℕ) (i : ℕ) where
  pub found_is : search_of p from k ≡ Ok i → (place_from p (count p - from) from k ≡ i) × (i < count p) × (num (key_at p i) ≡ num k)
  unfolding search_of eq_key
  found_is e =
      let r : ℕ = place_from p (count p - from) from k in
      let t = told (ltb r (count p) && eqb (num (key_at p r)) (num k)) r in
      let z : r ≡ i = sym t.0 ∙ ap place_index e in
      let y : (ltb r (count p) && eqb (num (key_at p r)) (num k)) ≡ true = sym t.1 ∙ ap is_found e in
      let b = both (ltb r (count p)) (eqb (num (key_at p r)) (num k)) y in
      (z, rw z at (ltb-true r (count p) b.0), rw z at (eqb-true (num (key_at p r)) (num k) b.1))

  absent_is : search_of p from k ≡ Err i → (place_from p (count p - from) from k ≡ i) × (i < count p → num (key_at p i) ≡ num k → ⊥)
  unfolding search_of eq_key
  absent_is e =
      let r : ℕ = place_from p (count p - from) from k in
      let t = told (ltb r (count p) && eqb (num (key_at p r)) (num k)) r in
      let z : r ≡ i = sym t.0 ∙ ap place_index e in
      let y : (ltb r (count p) && eqb (num (key_at p r)) (num k)) ≡ false = sym t.1 ∙ ap is_found e in
      (z, λ l q. differ r z y l q)
    where
      differ : (r : ℕ) → r ≡ i → (ltb r (count p) && eqb (num (key_at p r)) (num k)) ≡ false → i < count p → num (key_at p i) ≡ num k → ⊥
      differ r z y l q =
          let w : (ltb r (count p) && eqb (num (key_at p r)) (num k)) ≡ true = rw (z, lt-ltb i (count p) l, eq-eqb (num (key_at p i)) (num k) q) in
          let n : ◌≡◌ {A = ℕ} 0 1 = cc in
          omega arith

module _ (size : ℕ) (p : List ℕ) (s : PageSize size) (g : Good size p) (from : ℕ) (k : List ℕ) (i : ℕ) where
  key_of : Bytes p → i < count p → Key (key_at p i)
  unfolding key_at
  key_of b l =
      record {
        size = simp (length-take, length-drop) (omega (arith, pointers_inside size p s g));
        bytes = λ j. elim (dec_lt j 32) [
          | yes h ↦ rw (get_or-take 32 (drop (pointer i) p) j 0 h, get_or-drop (pointer i) p j 0) (b (pointer i + j))
          | no h ↦ rw (past j (omega arith)) (omega arith)
        ];
      }
    where
      past : (j : ℕ) → 32 ≤ j → get_or (take 32 (drop (pointer i) p)) j 0 ≡ 0
      past j h = get_or-eq_default (take 32 (drop (pointer i) p)) 0 {n = j} (simp length-take (omega arith))

  pub a_found_key_stands_at_its_index : Bytes p → Key k → search_of p from k ≡ Ok i → (from ≤ i) × (i < count p) × (key_at p i ≡ k)
  a_found_key_stands_at_its_index b h e =
      let f = found_is p from k i e in
      let a : Parts p k from (from + (count p - from)) i = rw f.0 at (place_parts p k (count p - from) from) in
      (a.low, f.1, equal_numbers_are_equal_keys (key_at p i) k (key_of b f.1) h f.2)

  module _ (e : search_of p from k ≡ Err i) where
    absent_parts : Parts p k from (from + (count p - from)) i
    absent_parts = rw (absent_is p from k i e).0 at (place_parts p k (count p - from) from)

    pub an_absent_key_stands_at_the_end_at_most : from ≤ count p → i ≤ count p
    an_absent_key_stands_at_the_end_at_most l = omega (arith, absent_parts.high)

    pub records_before_an_absent_key_are_below_it : (j : ℕ) → from ≤ j → j < i → num (key_at p j) < num k
    records_before_an_absent_key_are_below_it = absent_parts.below

    pub records_behind_an_absent_key_are_above_it : (j : ℕ) → i ≤ j → j < count p → num k < num (key_at p j)
    records_behind_an_absent_key_are_above_it j h l =
        let a = absent_parts.at (omega (arith, absent_parts.low)) in
        let b : num k < num (key_at p i) = elim (dec_lt (num k) (num (key_at p i))) [
          | yes y ↦ y
          | no y ↦ absurd ((absent_is p from k i e).1 (omega arith) (omega arith))
        ] in
        ⊎_elim (λ (q : i ≡ j). rw (← q) b) (λ (q : i < j). omega (arith, rise_on p g.keys i j q l)) (eq-or-lt_of_le {n = i} {m = j} h)

    pub no_record_has_an_absent_key : (j : ℕ) → from ≤ j → j < count p → key_at p j ≡ k → ⊥
    no_record_has_an_absent_key j h l q =
        let q' : num (key_at p j) ≡ num k = ap num q in
        elim (dec_lt j i) [
          | yes y ↦ omega (arith, records_before_an_absent_key_are_below_it j h y)
          | no y ↦ omega (arith, records_behind_an_absent_key_are_above_it j (omega arith) l)
        ]
