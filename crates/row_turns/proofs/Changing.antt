-- Records under changes: what holds of all of them stays, keys still rise, and what lies below or above the changes stays as it is. Assumes nothing.
use mathlib.Core.Path.{◌≡◌, refl, ap, ◌∙◌}
use mathlib.Core.Bool.{Bool, true, false}
use mathlib.Core.Option.{Option, none, some}
use mathlib.Core.List.{List, [], ◌∷◌, ◌++◌}
use Prim.Native.Nat.{ℕ, ◌≤◌, ◌<◌}
use native.Mathlib.Nat.{le_trans, le_of_lt, lt_trans}
use native.Mathlib.Omega.{arith}
use borrow.Author.Tests.{ne_eqb, eq-eqb, eqb-true, eqb-false}
use Rattle.bit_ops.specs.Key.{num, lt_key, eq_key}
use Rattle.leaf_node.specs.Record.{Record}
use Rattle.leaf_node.specs.Fits.{All, nil, cons, Rising, rise[], rise∷}
use Rattle.leaf_model.specs.Work.{Change, below_cutoff}
use Rattle.leaf_model.specs.Tally.{strike, place, changed}
use Rattle.leaf_model.specs.Claim.{Lt, Le}
use Rattle.leaf_model.proofs.Lists.{all_map}
use Rattle.leaf_model.proofs.Keys.{lt_of_test, le_of_test, test_of_lt, test_of_le}
use Rattle.row_turns.specs.Changes.{Edit, changed_all, taken, behind, RisingEdits, edits[], edits∷}

-- ---- whether keys are one

pub same : (a b : List ℕ) → eq_key a b ≡ true → num a ≡ num b
unfolding eq_key
same a b e = eqb-true (num a) (num b) e

pub differ : (a b : List ℕ) → eq_key a b ≡ false → num a ≡ num b → ⊥
unfolding eq_key
differ a b e = eqb-false (num a) (num b) e

pub is_same : (a b : List ℕ) → num a ≡ num b → eq_key a b ≡ true
unfolding eq_key
is_same a b e = eq-eqb (num a) (num b) e

pub is_other : (a b : List ℕ) → (num a ≡ num b → ⊥) → eq_key a b ≡ false
unfolding eq_key
is_other a b e = ne_eqb (num a) (num b) e

module _ (k : List ℕ) where
  -- ---- all of them

  strike_all : {P : Record → Type 0} {xs : List Record} → All P xs → All P (strike k xs)
  strike_all nil = nil
  strike_all {P} (cons {x} {xs} p a) = go (strike_all a) (eq_key k x.key) refl
    where
      go : All P (strike k xs) → (b : Bool) → eq_key k x.key ≡ b → All P (strike k (x ∷ xs))
      go ih true e = rw (e, strike) ih
      go ih false e = rw (e, strike) (cons p ih)

  place_all_lem : {P : Record → Type 0} (r : Record) → P r → {xs : List Record} → All P xs → All P (place r xs)
  place_all_lem r q nil = cons q nil
  place_all_lem {P} r q (cons {x} {xs} p a) = go (place_all_lem r q a) (lt_key x.key r.key) refl
    where
      go : All P (place r xs) → (b : Bool) → lt_key x.key r.key ≡ b → All P (place r (x ∷ xs))
      go ih true e = rw (e, place) (cons p ih)
      go ih false e = rw (e, place) (cons q (cons p a))

  pub changed_all_lem : {P : Record → Type 0} (c : Option Change) {xs : List Record} → ((d : Change) → c ≡ some d → P (record { key = k; value = d.value; flag = d.flag })) → All P xs → All P (changed k c xs)
  changed_all_lem none f a = strike_all a
  changed_all_lem (some d) f a = place_all_lem _ (f d refl) (strike_all a)

  -- ---- rising

  strike_without : (xs : List Record) → All (λ x. eq_key k x.key ≡ false) (strike k xs)
  strike_without [] = nil
  strike_without (x ∷ xs) = go (strike_without xs) (eq_key k x.key) refl
    where
      go : All (λ x. eq_key k x.key ≡ false) (strike k xs) → (b : Bool) → eq_key k x.key ≡ b → All (λ x. eq_key k x.key ≡ false) (strike k (x ∷ xs))
      go ih true e = rw (e, strike) ih
      go ih false e = rw (e, strike) (cons e ih)

  strike_rises : {xs : List Record} → Rising xs → Rising (strike k xs)
  strike_rises rise[] = rise[]
  strike_rises (rise∷ {x} {xs} a h) = go (strike_rises h) (eq_key k x.key) refl
    where
      go : Rising (strike k xs) → (b : Bool) → eq_key k x.key ≡ b → Rising (strike k (x ∷ xs))
      go ih true e = rw (e, strike) ih
      go ih false e = rw (e, strike) (rise∷ (strike_all a) ih)

  abbrev new : Change → Record
  new c = record { key = k; value = c.value; flag = c.flag }

  place_rises : (d : Change) {xs : List Record} → All (λ x. eq_key k x.key ≡ false) xs → Rising xs → Rising (place (new d) xs)
  place_rises d nil rise[] = rise∷ nil rise[]
  place_rises d (cons {x} {xs} n ns) (rise∷ a h) = go (place_rises d ns h) (lt_key x.key k) refl
    where
      go : Rising (place (new d) xs) → (b : Bool) → lt_key x.key k ≡ b → Rising (place (new d) (x ∷ xs))
      go ih true e = rw (e, place) (rise∷ (place_all_lem (new d) (lt_of_test x.key k e) a) ih)
      go ih false e =
          let up : Lt k x.key = above (num k) (num x.key) (le_of_test k x.key e) (differ k x.key n) in
          rw (e, place) (rise∷ (cons up (all_map (λ y p. lt_trans up p) a)) (rise∷ a h))
        where
          above : (p q : ℕ) → p ≤ q → (p ≡ q → ⊥) → p < q
          above p q l f = omega (arith, l, f)

  pub changed_rises : (c : Option Change) {xs : List Record} → Rising xs → Rising (changed k c xs)
  changed_rises none h = strike_rises h
  changed_rises (some d) {xs} h = place_rises d (strike_without xs) (strike_rises h)

  -- ---- below and above the key

  strike_low : {xs : List Record} (ys : List Record) → All (λ x. Lt x.key k) xs → strike k (xs ++ ys) ≡ xs ++ strike k ys
  strike_low ys nil = refl
  strike_low ys (cons {x} p a) = rw (is_other k x.key (λ e. absurd (omega (arith, e, p))), strike) (ap (λ l. x ∷ l) (strike_low ys a))

  place_low : (d : Change) {xs : List Record} (ys : List Record) → All (λ x. Lt x.key k) xs → place (new d) (xs ++ ys) ≡ xs ++ place (new d) ys
  place_low d ys nil = refl
  place_low d ys (cons {x} p a) = rw (test_of_lt x.key k p, place) (ap (λ l. x ∷ l) (place_low d ys a))

  pub changed_low : (c : Option Change) {xs : List Record} (ys : List Record) → All (λ x. Lt x.key k) xs → changed k c (xs ++ ys) ≡ xs ++ changed k c ys
  changed_low none ys a = strike_low ys a
  changed_low (some d) ys a = ap (place (new d)) (strike_low ys a) ∙ place_low d (strike k ys) a

  strike_high : {ys : List Record} → All (λ y. Lt k y.key) ys → strike k ys ≡ ys
  strike_high nil = refl
  strike_high (cons {x} p a) = rw (is_other k x.key (λ e. absurd (omega (arith, e, p))), strike) (ap (λ l. x ∷ l) (strike_high a))

  strike_before : (xs : List Record) {ys : List Record} → All (λ y. Lt k y.key) ys → strike k (xs ++ ys) ≡ strike k xs ++ ys
  strike_before [] a = strike_high a
  strike_before (x ∷ xs) {ys} a = go (strike_before xs a) (eq_key k x.key) refl
    where
      go : strike k (xs ++ ys) ≡ strike k xs ++ ys → (b : Bool) → eq_key k x.key ≡ b → strike k (x ∷ xs ++ ys) ≡ strike k (x ∷ xs) ++ ys
      go ih true e = rw (e, strike) ih
      go ih false e = rw (e, strike) (ap (λ l. x ∷ l) ih)

  place_before_lem : (d : Change) (xs : List Record) {ys : List Record} → All (λ y. Lt k y.key) ys → place (new d) (xs ++ ys) ≡ place (new d) xs ++ ys
  place_before_lem d [] nil = refl
  place_before_lem d [] (cons {x} p a) = rw (test_of_le k x.key (le_of_lt p), place)
  place_before_lem d (x ∷ xs) {ys} a = go (place_before_lem d xs a) (lt_key x.key k) refl
    where
      go : place (new d) (xs ++ ys) ≡ place (new d) xs ++ ys → (b : Bool) → lt_key x.key k ≡ b → place (new d) (x ∷ xs ++ ys) ≡ place (new d) (x ∷ xs) ++ ys
      go ih true e = rw (e, place) (ap (λ l. x ∷ l) ih)
      go ih false e = rw (e, place)

  pub changed_before : (c : Option Change) (xs : List Record) {ys : List Record} → All (λ y. Lt k y.key) ys → changed k c (xs ++ ys) ≡ changed k c xs ++ ys
  changed_before none xs a = strike_before xs a
  changed_before (some d) xs a = ap (place (new d)) (strike_before xs a) ∙ place_before_lem d (strike k xs) a

-- ---- many changes

pub all_changed : {P : Record → Type 0} {es : List Edit} → All (λ e. (d : Change) → e.change ≡ some d → P (record { key = e.key; value = d.value; flag = d.flag })) es
    → {xs : List Record} → All P xs → All P (changed_all es xs)
all_changed nil a = a
all_changed (cons {x = e} f fs) a = all_changed fs (changed_all_lem e.key e.change f a)

pub all_changed_rise : (es : List Edit) {xs : List Record} → Rising xs → Rising (changed_all es xs)
all_changed_rise [] h = h
all_changed_rise (e ∷ es) h = all_changed_rise es (changed_rises e.key e.change h)

pub all_changed_low : (xs : List Record) {es : List Edit} (ys : List Record) → All (λ e. All (λ x. Lt x.key e.key) xs) es → changed_all es (xs ++ ys) ≡ xs ++ changed_all es ys
all_changed_low xs ys nil = refl
all_changed_low xs ys (cons {x = e} {xs = es} p a) = ap (changed_all es) (changed_low e.key e.change ys p) ∙ all_changed_low xs (changed e.key e.change ys) a

pub all_changed_before : (ys : List Record) {es : List Edit} (xs : List Record) → All (λ e. All (λ y. Lt e.key y.key) ys) es → changed_all es (xs ++ ys) ≡ changed_all es xs ++ ys
all_changed_before ys xs nil = refl
all_changed_before ys xs (cons {x = e} {xs = es} p a) = ap (changed_all es) (changed_before e.key e.change xs p) ∙ all_changed_before ys (changed e.key e.change xs) a

-- ---- the changes of a leaf, and those behind it

pub both : (c : Option (List ℕ)) (es : List Edit) → taken c es ++ behind c es ≡ es
both c [] = refl
both c (e ∷ es) = go (both c es) (below_cutoff c e.key) refl
  where
    go : taken c es ++ behind c es ≡ es → (b : Bool) → below_cutoff c e.key ≡ b → taken c (e ∷ es) ++ behind c (e ∷ es) ≡ e ∷ es
    go ih true h = rw (h, taken, behind) (ap (λ l. e ∷ l) ih)
    go ih false h = rw (h, taken, behind)

pub all_taken : {P : Edit → Type 0} (c : Option (List ℕ)) {es : List Edit} → All P es → All P (taken c es)
all_taken c nil = nil
all_taken {P} c (cons {x = e} {xs = es} p a) = go (all_taken c a) (below_cutoff c e.key) refl
  where
    go : All P (taken c es) → (b : Bool) → below_cutoff c e.key ≡ b → All P (taken c (e ∷ es))
    go ih true h = rw (h, taken) (cons p ih)
    go ih false h = rw (h, taken) nil

pub all_behind : {P : Edit → Type 0} (c : Option (List ℕ)) {es : List Edit} → All P es → All P (behind c es)
all_behind c nil = nil
all_behind {P} c (cons {x = e} {xs = es} p a) = go (all_behind c a) (below_cutoff c e.key) refl
  where
    go : All P (behind c es) → (b : Bool) → below_cutoff c e.key ≡ b → All P (behind c (e ∷ es))
    go ih true h = rw (h, behind) ih
    go ih false h = rw (h, behind) (cons p a)

pub taken_below : (c : Option (List ℕ)) (es : List Edit) → All (λ e. below_cutoff c e.key ≡ true) (taken c es)
taken_below c [] = nil
taken_below c (e ∷ es) = go (taken_below c es) (below_cutoff c e.key) refl
  where
    go : All (λ e. below_cutoff c e.key ≡ true) (taken c es) → (b : Bool) → below_cutoff c e.key ≡ b → All (λ e. below_cutoff c e.key ≡ true) (taken c (e ∷ es))
    go ih true h = rw (h, taken) (cons h ih)
    go ih false h = rw (h, taken) nil

pub behind_rising : (c : Option (List ℕ)) {es : List Edit} → RisingEdits es → RisingEdits (behind c es)
behind_rising c edits[] = edits[]
behind_rising c (edits∷ {e} {es} a r) = go (behind_rising c r) (below_cutoff c e.key) refl
  where
    go : RisingEdits (behind c es) → (b : Bool) → below_cutoff c e.key ≡ b → RisingEdits (behind c (e ∷ es))
    go ih true h = rw (h, behind) ih
    go ih false h = rw (h, behind) (edits∷ a r)

pub behind_above : (s : List ℕ) {es : List Edit} → RisingEdits es → All (λ e. Le s e.key) (behind (some s) es)
behind_above s edits[] = nil
behind_above s (edits∷ {e} {es} a r) = go (behind_above s r) (lt_key e.key s) refl
  where
    go : All (λ e. Le s e.key) (behind (some s) es) → (b : Bool) → lt_key e.key s ≡ b → All (λ e. Le s e.key) (behind (some s) (e ∷ es))
    go ih true h = rw (h, behind) ih
    go ih false h = let l = le_of_test s e.key h in rw (h, behind) (cons l (all_map (λ x p. le_trans l (le_of_lt p)) a))

pub nothing_behind : (es : List Edit) → behind none es ≡ []
nothing_behind [] = refl
nothing_behind (e ∷ es) = nothing_behind es

pub changed_in_turn : (es fs : List Edit) (rs : List Record) → changed_all (es ++ fs) rs ≡ changed_all fs (changed_all es rs)
changed_in_turn [] fs rs = refl
changed_in_turn (e ∷ es) fs rs = changed_in_turn es fs _

pub taken_rising : (c : Option (List ℕ)) {es : List Edit} → RisingEdits es → RisingEdits (taken c es)
taken_rising c edits[] = edits[]
taken_rising c (edits∷ {e} {es} a r) = go (taken_rising c r) (below_cutoff c e.key) refl
  where
    go : RisingEdits (taken c es) → (b : Bool) → below_cutoff c e.key ≡ b → RisingEdits (taken c (e ∷ es))
    go ih true h = rw (h, taken) (edits∷ (all_taken c a) ih)
    go ih false h = rw (h, taken) edits[]
