-- The place of a pending record, found by the index that is still wanted: entry by entry, then in the base's rest. Assumes nothing.
use mathlib.Core.Path.{◌≡◌, refl, sym, ap, ◌∙◌}
use mathlib.Core.Bool.{Bool, true, false, not}
use mathlib.Core.List.{List, [], ◌∷◌, ◌++◌, append_assoc}
use Prim.Native.Nat.{ℕ, zero, suc, ◌+◌, ◌-◌, ◌≤◌, ◌<◌}
use native.Mathlib.Omega.{arith}
use native.Mathlib.Numerals.{add-one}
use lib.Dec.{eqb}
use lib.ListN.{length, get_or, drop, drop_of_length-le}
use lib.Seq.{drop-cons}
use borrow.Author.Tests.{not-true, not-false}
use Rattle.leaf_node.specs.Page.{count, start, length_at, flag_at, key_at, run}
use Rattle.leaf_node.proofs.Lengths.{length_run}
use Rattle.leaf_work.specs.declared.Work.{Work}
use Rattle.leaf_work.specs.declared.Entry.{Entry}
use Rattle.leaf_work.specs.Pending.{Base, Place, in_base, chunk_places, insert_place, entry_places, records_in, places_of, pending_places}
use Rattle.leaf_work.specs.Outcome.{TwinReply, TwinRefused, Found, nth_place}

-- ---- the place with an index

pub nth_left : (xs ys : List Place) (i : ℕ) → i < length xs → nth_place i (xs ++ ys) ≡ nth_place i xs
nth_left [] ys i h = absurd (omega arith)
nth_left (x ∷ xs) ys zero h = refl
nth_left (x ∷ xs) ys (suc i) h = nth_left xs ys i (omega arith)

pub nth_right : (xs ys : List Place) (i : ℕ) → length xs ≤ i → nth_place i (xs ++ ys) ≡ nth_place (i - length xs) ys
nth_right [] ys i h = let e : i - 0 ≡ i = omega arith in rw e
nth_right (x ∷ xs) ys zero h = absurd (omega arith)
nth_right (x ∷ xs) ys (suc i) h = let e : suc i - suc (length xs) ≡ i - length xs = omega arith in rw e (nth_right xs ys i (omega arith))

run_at : (p : List ℕ) (m from i : ℕ) → i < m → nth_place i (run m from (in_base p)) ≡ Found (in_base p (from + i))
unfolding run
run_at p zero from i h = absurd (omega arith)
run_at p (suc m) from zero h = let e : from + 0 ≡ from = omega arith in rw e
run_at p (suc m) from (suc i) h = let e : from + suc i ≡ suc from + i = omega arith in rw e (run_at p m (suc from) i (omega arith))

run_past : (p : List ℕ) (m from i : ℕ) → m ≤ i → nth_place i (run m from (in_base p)) ≡ TwinRefused 10
unfolding run
run_past p zero from i h = refl
run_past p (suc m) from zero h = absurd (omega arith)
run_past p (suc m) from (suc i) h = run_past p m (suc from) i (omega arith)

-- ---- the base

pub base_record_is : (p : List ℕ) (i a n : ℕ) (f : Bool) (x : List ℕ) → a ≡ start p i → n ≡ length_at p i → f ≡ flag_at p i → x ≡ key_at p i
    → ◌≡◌ {A = Place} (record { holder = Base; offset = a; size = n; key = x; flag = f }) (in_base p i)
unfolding in_base
base_record_is p i a n f x ea en ef ex = rw (ea, en, ef, ex)

module _ (p : List ℕ) (low i n : ℕ) (e : n ≡ count p) where
  pub rest_is_short : n - low ≤ i → TwinRefused 10 ≡ nth_place i (chunk_places p low (count p))
  unfolding chunk_places
  rest_is_short h = sym (run_past p (count p - low) low i (omega arith))

  pub rest_record_is_found : i < n - low → (x : Place) → x ≡ in_base p (low + i) → Found x ≡ nth_place i (chunk_places p low (count p))
  unfolding chunk_places
  rest_record_is_found h x q = rw q (sym (run_at p (count p - low) low i (omega arith)))

-- ---- an entry

module _ (p : List ℕ) (e : Entry) (t : Bool) (q : t ≡ eqb e.kind 1) where
  module _ (h : not t ≡ false) where
    insert_places : entry_places p e ≡ insert_place e ∷ []
    unfolding entry_places
    insert_places = rw (entry_places, ← q, not-false t h)

    one_record : records_in e ≡ 1
    one_record = rw (← q, not-false t h)

    pub insert_is_found : (i : ℕ) → i < records_in e → Found (insert_place e) ≡ nth_place i (entry_places p e)
    insert_is_found i k = let z : i ≡ 0 = omega (arith, one_record) in rw (insert_places, z)

  module _ (h : not t ≡ true) where
    chunk_places_lem : entry_places p e ≡ run (e.to - e.from) e.from (in_base p)
    unfolding entry_places chunk_places
    chunk_places_lem = rw (entry_places, ← q, not-true t h)

    many_records : records_in e ≡ e.to - e.from
    many_records = rw (← q, not-true t h)

    pub chunk_record_is_found : (i : ℕ) → i < records_in e → (x : Place) → x ≡ in_base p (e.from + i) → Found x ≡ nth_place i (entry_places p e)
    chunk_record_is_found i k x f = rw (chunk_places_lem, f) (sym (run_at p (e.to - e.from) e.from i (omega (arith, many_records))))

pub entry_length : (p : List ℕ) (e : Entry) → length (entry_places p e) ≡ records_in e
entry_length p e = go (eqb e.kind 1) refl
  where
    go : (b : Bool) → b ≡ eqb e.kind 1 → length (entry_places p e) ≡ records_in e
    go true q = ap length (insert_places p e true q refl) ∙ sym (one_record p e true q refl)
    go false q = ap length (chunk_places_lem p e false q refl) ∙ length_run (e.to - e.from) e.from (in_base p) ∙ sym (many_records p e false q refl)

-- ---- the walk

-- the record that is wanted is the one with index `left` from entry j of those in use on
pub record Left (w : Work) (list : List Entry) (p : List ℕ) (i : ℕ) (used : List Entry) (j left : ℕ) : Type 0 where
  pub same : nth_place i (pending_places w list p) ≡ nth_place left (places_of p (drop j used) ++ chunk_places p w.low (count p))

module _ (w : Work) (list : List Entry) (p : List ℕ) (i : ℕ) where
  module _ (used : List Entry) (j left : ℕ) (l : Left w list p i used j left) where
    pub rest_has_it : length used ≤ j → (r : TwinReply) → r ≡ nth_place left (chunk_places p w.low (count p)) → r ≡ nth_place i (pending_places w list p)
    rest_has_it h r e = let z : drop j used ≡ [] = drop_of_length-le used {i = j} h in e ∙ sym (l.same ∙ rw z)

    module _ (h : j < length used) (z : Entry) (n : ℕ) (q : n ≡ records_in (get_or used j z)) where
      abbrev here : List Place
      here = entry_places p (get_or used j z)

      abbrev later : List Place
      later = places_of p (drop (suc j) used) ++ chunk_places p w.low (count p)

      split : places_of p (drop j used) ++ chunk_places p w.low (count p) ≡ here ++ later
      split = rw (drop-cons used j z h, append_assoc)

      many : length here ≡ n
      many = entry_length p (get_or used j z) ∙ sym q

      pub entry_has_it : left < n → (r : TwinReply) → r ≡ nth_place left here → r ≡ nth_place i (pending_places w list p)
      entry_has_it k r e = e ∙ sym (l.same ∙ ap (nth_place left) split ∙ nth_left here later left (omega (arith, many)))

      pub entry_is_passed : n ≤ left → Left w list p i used (j + 1) (left - n)
      entry_is_passed k = record { same = l.same ∙ ap (nth_place left) split ∙ nth_right here later left (omega (arith, many)) ∙ rw (many, add-one) }
