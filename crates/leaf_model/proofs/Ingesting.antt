-- Ingest: what the tally does, the work does, and keys still rise. Assumes nothing.
use mathlib.Core.Path.{◌≡◌, refl, sym, ap, ◌∙◌}
use mathlib.Core.Bool.{Bool, true, false}
use mathlib.Core.Option.{Option, none, some}
use mathlib.Core.List.{List, [], ◌∷◌, ◌++◌, append-nil, append_assoc}
use Prim.Native.Nat.{ℕ}
use native.Mathlib.Nat.{lt_trans, le_of_lt}
use native.Mathlib.Omega.{arith}
use borrow.Author.Tests.{eqb-true, eqb-false, ne_eqb}
use Rattle.bit_ops.specs.Key.{num, lt_key, eq_key}
use Rattle.leaf_node.specs.Record.{Record}
use Rattle.leaf_node.specs.Fits.{All, nil, cons, Rising, rise[], rise∷}
use Rattle.leaf_model.specs.Work.{Change, records_below, records_above, inserted}
use Rattle.leaf_model.specs.Tally.{strike, place, place_all}
use Rattle.leaf_model.specs.Claim.{Lt}
use Rattle.leaf_model.proofs.Lists.{all_append, all_left, all_right_lem, all_head, all_tail, all_map, all_both}
use Rattle.leaf_model.proofs.Keys.{lt_of_test, le_of_test, test_of_lt, test_of_le, rising_head, rising_tail, rising_append, rising_left, rising_right, rising_before}

-- `eq_key` on keys that differ
different : (a b : List ℕ) → (num a ≡ num b → ⊥) → eq_key a b ≡ false
unfolding eq_key
different a b h = ne_eqb (num a) (num b) h

same_number : (a b : List ℕ) → eq_key a b ≡ true → num a ≡ num b
unfolding eq_key
same_number a b e = eqb-true (num a) (num b) e

above : (a b : List ℕ) → lt_key b a ≡ false → eq_key a b ≡ false → Lt a b
unfolding eq_key
above a b e f = omega (arith, le_of_test a b e, eqb-false (num a) (num b) f)

module _ (k : List ℕ) where
  -- below and above the key
  abbrev pub Low : Record → Type 0
  Low x = Lt x.key k

  abbrev pub High : Record → Type 0
  High x = Lt k x.key

  not_low : (x : Record) → Low x → eq_key k x.key ≡ false
  not_low x h = different k x.key (λ e. omega arith)

  not_high : (x : Record) → High x → eq_key k x.key ≡ false
  not_high x h = different k x.key (λ e. omega arith)

  -- ---- the tally's two steps, by the key's place

  strike_low : {xs : List Record} (ys : List Record) → All Low xs → strike k (xs ++ ys) ≡ xs ++ strike k ys
  strike_low ys nil = refl
  strike_low ys (cons {x} p h) = rw (not_low x p, strike) (ap (λ l. x ∷ l) (strike_low ys h))

  strike_high : {xs : List Record} → All High xs → strike k xs ≡ xs
  strike_high nil = refl
  strike_high (cons {x} p h) = rw (not_high x p, strike) (ap (λ l. x ∷ l) (strike_high h))

  abbrev new : Change → Record
  new c = record { key = k; value = c.value; flag = c.flag }

  place_low : (c : Change) {xs : List Record} (ys : List Record) → All Low xs → place (new c) (xs ++ ys) ≡ xs ++ place (new c) ys
  place_low c ys nil = refl
  place_low c ys (cons {x} p h) = rw (test_of_lt x.key k p, place) (ap (λ l. x ∷ l) (place_low c ys h))

  place_high : (c : Change) {ys : List Record} → All High ys → place (new c) ys ≡ new c ∷ ys
  place_high c nil = refl
  place_high c (cons {x} p h) = rw (test_of_le k x.key (le_of_lt p), place)

  -- ---- the base's rest is split at the key

  -- induction along the split
  module _ {ℓ} (P : List Record → List Record → List Record → Type ℓ) (no_more : P [] [] [])
      (lower : (x : Record) (xs b a : List Record) → Low x → P xs b a → P (x ∷ xs) (x ∷ b) a)
      (equal : (x : Record) (xs : List Record) → eq_key k x.key ≡ true → P (x ∷ xs) [] xs)
      (higher : (x : Record) (xs : List Record) → High x → P (x ∷ xs) [] (x ∷ xs)) where
    split_induction : (xs : List Record) → P xs (records_below k xs) (records_above k xs)
    split_induction [] = no_more
    split_induction (x ∷ xs) = test (split_induction xs) (lt_key x.key k) (eq_key k x.key) refl refl
      where
        test : P xs (records_below k xs) (records_above k xs) → (b d : Bool) → lt_key x.key k ≡ b → eq_key k x.key ≡ d
            → P (x ∷ xs) (records_below k (x ∷ xs)) (records_above k (x ∷ xs))
        test h true d e f = rw (e, records_below, records_above) (lower x xs _ _ (lt_of_test x.key k e) h)
        test h false true e f = rw (e, f, records_below, records_above) (equal x xs f)
        test h false false e f = rw (e, f, records_below, records_above) (higher x xs (above k x.key e f))

  pub record Split (xs b a : List Record) : Type 1 where
    pub struck : strike k xs ≡ b ++ a
    pub low : All Low b
    pub high : All High a
    pub keeps : (Q : Record → Type 0) → All Q xs → All Q (b ++ a)
    pub rising : Rising (b ++ a)

  pub split : (xs : List Record) → Rising xs → Split xs (records_below k xs) (records_above k xs)
  split =
      split_induction (λ xs b a. Rising xs → Split xs b a)
      (λ u. record { struck = refl; low = nil; high = nil; keeps = λ Q h. h; rising = u })
      (λ x xs b a l h u.
      let s = h (rising_tail u) in
      record {
        struck = rw (not_low x l, strike) (ap (λ l. x ∷ l) s.struck);
        low = cons l s.low;
        high = s.high;
        keeps = λ Q h. cons (all_head h) (s.keeps Q (all_tail h));
        rising = rise∷ (s.keeps _ (rising_head u)) s.rising;
      })
      (λ x xs e u.
      let q = same_number k x.key e in
      let a : All High xs = all_map (λ y p. rw q p) (rising_head u) in
      record { struck = rw (e, strike) (strike_high a); low = nil; high = a; keeps = λ Q h. all_tail h; rising = rising_tail u })
      (λ x xs h u.
      let a : All High (x ∷ xs) = cons h (all_map (λ y p. lt_trans h p) (rising_head u)) in
      record { struck = strike_high a; low = nil; high = a; keeps = λ Q h. h; rising = u })

  -- ---- the call

  pub inserted_all : (Q : Record → Type 0) (c : Option Change) → ((d : Change) → c ≡ some d → Q (new d)) → All Q (inserted k c)
  inserted_all Q none q = nil
  inserted_all Q (some d) q = cons (q d refl) nil

  inserted_rising : (c : Option Change) → Rising (inserted k c)
  inserted_rising none = rise[]
  inserted_rising (some c) = rise∷ nil rise[]

  -- `past` was taken up or given out before
  module _ (past rest : List Record) (c : Option Change) (l : All Low past) (u : Rising (past ++ rest)) where
    pub tally_changes_as_the_work_does : place_all (inserted k c) (strike k (past ++ rest)) ≡ past ++ ((records_below k rest ++ inserted k c) ++ records_above k rest)
    tally_changes_as_the_work_does = rw (strike_low rest l, (split rest (rising_right past rest u)).struck) (change c)
      where
        b : List Record
        b = records_below k rest

        a : List Record
        a = records_above k rest

        s : Split rest b a
        s = split rest (rising_right past rest u)

        change : (c : Option Change) → place_all (inserted k c) (past ++ (b ++ a)) ≡ past ++ ((b ++ inserted k c) ++ a)
        change none = simp append-nil
        change (some c) =
            place_low c (b ++ a) l ∙ ap (λ l. past ++ l) (place_low c a s.low ∙ ap (λ l. b ++ l) (place_high c s.high) ∙ sym (append_assoc b (new c ∷ []) a))

    pub keys_rise_after_ingest : Rising (past ++ ((records_below k rest ++ inserted k c) ++ records_above k rest))
    keys_rise_after_ingest =
        let b = records_below k rest in
        let a = records_above k rest in
        let s = split rest (rising_right past rest u) in
        rising_append (rising_left past rest u)
        (rising_append (rising_append (rising_left b a s.rising) (inserted_rising c) (all_map (λ x p. inserted_all _ c (λ d e. p)) s.low))
        (rising_right b a s.rising)
        (all_append (rising_before b a s.rising) (inserted_all _ c (λ d e. s.high))))
        (all_map (λ x p. all_append (all_append (all_left b a (s.keeps _ p.0)) (inserted_all _ c (λ d e. p.1))) (all_right_lem b a (s.keeps _ p.0)))
        (all_both (rising_before past rest u) l))

  -- what holds of the pending records and of the new one holds of those after the call
  pub pending_all : (Q : Record → Type 0) (listed rest : List Record) (c : Option Change) → Rising rest
      → All Q (listed ++ rest) → ((d : Change) → c ≡ some d → Q (new d))
      → All Q ((listed ++ (records_below k rest ++ inserted k c)) ++ records_above k rest)
  pending_all Q listed rest c u h n =
      let b = records_below k rest in
      let a = records_above k rest in
      let s = split rest u in
      let m = s.keeps Q (all_right_lem listed rest h) in
      all_append (all_append (all_left listed rest h) (all_append (all_left b a m) (inserted_all Q c n))) (all_right_lem b a m)
