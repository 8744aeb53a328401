-- Of keys that rise the first and the last decide whether all lie within bounds. Assumes nothing.
use mathlib.Core.Path.{◌≡◌, refl, sym, ◌∙◌}
use mathlib.Core.Logic.{⊎_elim}
use mathlib.Core.Bool.{Bool, true, false, not, ◌&&◌, and-false}
use mathlib.Core.Option.{Option, none, some}
use mathlib.Core.List.{List}
use Prim.Native.Nat.{ℕ, zero, suc, ◌+◌, ◌-◌, ◌≤◌, ◌<◌}
use native.Mathlib.Omega.{arith}
use native.Mathlib.Nat.{eq-or-lt_of_le}
use borrow.Author.Tests.{lt-ltb, le-ltb, ltb-true, ltb-false}
use Rattle.bit_ops.specs.Key.{num, lt_key}
use Rattle.leaf_node.specs.Record.{Record}
use Rattle.leaf_node.specs.Page.{count, key_at, record_at, run, records_between, records}
use Rattle.leaf_node.specs.Good.{KeysRise}
use Rattle.leaf_node.proofs.Searches.{rise_on}
use Rattle.leaf_model.specs.Work.{below_cutoff}
use Rattle.leaf_work.specs.Tests.{every}
use Rattle.leaf_work.specs.Sound.{keys_within}

-- ---- a test of f i, f (i + 1) and so on

module _ {A : Type 0} (t : A → Bool) (f : ℕ → A) where
  every_of_run : (m i : ℕ) → ((j : ℕ) → i ≤ j → j < i + m → t (f j) ≡ true) → every t (run m i f) ≡ true
  unfolding run
  every_of_run zero i h = refl
  every_of_run (suc m) i h = rw (every, h i (omega arith) (omega arith)) (every_of_run m (suc i) (λ j a b. h j (omega arith) (omega arith)))

  one_of_run_fails : (m i j : ℕ) → i ≤ j → j < i + m → t (f j) ≡ false → every t (run m i f) ≡ false
  unfolding run
  one_of_run_fails zero i j a b e = absurd (omega arith)
  one_of_run_fails (suc m) i j a b e =
      ⊎_elim (λ (q : i ≡ j). rw (every, q, e)) (λ (q : i < j). later (t (f i)) (one_of_run_fails m (suc i) j q (omega arith) e)) (eq-or-lt_of_le {n = i} {m = j} a)
    where
      later : (b : Bool) → every t (run m (suc i) f) ≡ false → ◌≡◌ {A = Bool} (elim b [ true ↦ every t (run m (suc i) f) | false ↦ false ]) false
      later true h = h
      later false h = refl

-- ---- keys below a cutoff

lower_keys_are_below : (c : Option (List ℕ)) (a b : List ℕ) → num a ≤ num b → below_cutoff c b ≡ true → below_cutoff c a ≡ true
unfolding lt_key
lower_keys_are_below none a b l h = refl
lower_keys_are_below (some c) a b l h = lt-ltb (num a) (num c) (omega (arith, ltb-true (num b) (num c) h))

-- ---- the records of a page

module _ (p : List ℕ) (n : ℕ) (counted : n ≡ count p) (rising : 0 < n → KeysRise p) (s : List ℕ) (c : Option (List ℕ)) where
  abbrev is_within : Record → Bool
  is_within r = not (lt_key r.key s) && below_cutoff c r.key

  all_within : ((j : ℕ) → j < n → is_within (record_at p j) ≡ true) → keys_within s c (records p) ≡ true
  unfolding records records_between
  all_within h = every_of_run is_within (record_at p) (count p - 0) 0 (λ j a b. h j (omega (arith, counted)))

  one_outside : (j : ℕ) → j < n → is_within (record_at p j) ≡ false → keys_within s c (records p) ≡ false
  unfolding records records_between
  one_outside j l e = one_of_run_fails is_within (record_at p) (count p - 0) 0 j (omega arith) (omega (arith, counted)) e

  rises : (i j : ℕ) → i ≤ j → j < n → num (key_at p i) ≤ num (key_at p j)
  rises i j a b =
      ⊎_elim (λ (q : i ≡ j). rw q (omega arith)) (λ (q : i < j). omega (arith, rise_on p (rising (omega arith)) i j q (omega (arith, counted)))) (eq-or-lt_of_le {n = i} {m = j} a)

  pub no_keys_are_within : n ≡ 0 → true ≡ keys_within s c (records p)
  no_keys_are_within z = sym (all_within (λ j l. absurd (omega arith)))

  module _ (some-keys : n ≡ 0 → ⊥) (x : List ℕ) (t : Bool) (first : x ≡ key_at p 0) (q : t ≡ lt_key x s) where
    pub first_key_outside : t ≡ true → false ≡ keys_within s c (records p)
    unfolding record_at
    first_key_outside h = sym (one_outside 0 (omega (arith, some-keys)) (rw (← first, ← q, h)))

    pub last_key_decides : (y : List ℕ) (r : Bool) → t ≡ false → y ≡ key_at p (n - 1) → r ≡ below_cutoff c y → r ≡ keys_within s c (records p)
    unfolding record_at lt_key
    last_key_decides y true h last d =
        let low : num s ≤ num (key_at p 0) = rw first at (ltb-false (num x) (num s) (sym q ∙ h)) in
        let high : below_cutoff c (key_at p (n - 1)) ≡ true = rw last at (sym d) in
        sym (all_within (λ j l.
        rw (
          le-ltb (num (key_at p j)) (num s) (omega (arith, low, rises 0 j (omega arith) l)),
          lower_keys_are_below c (key_at p j) (key_at p (n - 1)) (rises j (n - 1) (omega arith) (omega (arith, some-keys))) high,
        )))
    last_key_decides y false h last d =
        sym (one_outside (n - 1) (omega (arith, some-keys)) (rw (← last, ← d) (and-false (not (lt_key y s)))))
