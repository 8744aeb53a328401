-- An ingest leaves what the next one requires, so that many can be made without a check between them. Assumes nothing.
use mathlib.Core.Path.{◌≡◌, refl, ap, ◌∙◌}
use mathlib.Core.Bool.{Bool, true, false}
use mathlib.Core.Option.{Option, none, some}
use mathlib.Core.List.{List, [], ◌∷◌, ◌++◌}
use Prim.Native.Nat.{ℕ, zero, suc, ◌+◌, ◌-◌, ◌≤◌, ◌<◌}
use native.Mathlib.Omega.{arith}
use lib.Dec.{eqb, ltb}
use lib.ListN.{length, get_or, take, drop, length-append}
use lib.Seq.{length-take-le}
use borrow.Author.Tests.{eqb-true, ltb-true}
use Rattle.leaf_node.specs.Page.{count, values_size}
use Rattle.leaf_node.specs.Build.{put}
use Rattle.leaf_node.specs.Fits.{All, nil, cons}
use Rattle.leaf_model.specs.Work.{Change, inserted}
use Rattle.leaf_model.proofs.Lists.{all_append, all_map}
use Rattle.leaf_work.specs.declared.Work.{Work}
use Rattle.leaf_work.specs.declared.Entry.{Entry}
use Rattle.leaf_work.specs.Tests.{bit}
use Rattle.leaf_work.specs.Lent.{blank, chunk_of, insert_at, regarded}
use Rattle.leaf_work.specs.TakingUp.{value_of, chunk_entries, insert_entries, stop, low_after, new_entries}
use Rattle.leaf_work.specs.Verdict.{ingest_verdict}
use Rattle.leaf_work.specs.Outcome as outcome
use Rattle.leaf_work.specs.Ready.{EntryIn, Ready}
use Rattle.leaf_work.proofs.Searching.{Split, the_search_splits_the_rest}
use Rattle.leaf_builder.proofs.Putting.{length_put}
use Rattle.leaf_ingest.proofs.Numbers.{range_length, range_total}
use Rattle.leaf_ingest.proofs.Ingests.{Passed, passed_rows}

-- ---- entries that lie in store and passed part

all_taken : {P : Entry → Type 0} (n : ℕ) (xs : List Entry) → ((i : ℕ) → i < n → P (get_or xs i blank)) → All P (take n xs)
all_taken zero xs h = nil
all_taken (suc n) [] h = nil
all_taken (suc n) (x ∷ xs) h = cons (h 0 (omega arith)) (all_taken n xs (λ i l. h (suc i) (omega arith)))

one_of_all : {P : Entry → Type 0} {xs : List Entry} (ys : List Entry) → All P xs → (i : ℕ) → i < length xs → P (get_or (xs ++ ys) i blank)
one_of_all ys nil i h = absurd (omega arith)
one_of_all ys (cons p a) zero h = p
one_of_all ys (cons p a) (suc i) h = one_of_all ys a i (omega arith)

still_in : {low filled low' filled' : ℕ} → low ≤ low' → filled ≤ filled' → (e : Entry) → EntryIn low filled e → EntryIn low' filled' e
still_in l f e h = record { insert = λ q. ((h.insert q).0, omega (arith, (h.insert q).1)); chunk = λ q. ((h.chunk q).0, omega (arith, (h.chunk q).1)) }

module _ (size : ℕ) (w : Work) (list : List Entry) (store page k : List ℕ) (c : Option Change) (r : Ready w list store page) where
  split : Split w page k
  split = the_search_splits_the_rest w page k r.low_in

  abbrev chunk : List Entry
  chunk = chunk_entries w.low (stop w page k) (values_size page w.low (stop w page k))

  chunk_few : length chunk ≤ stop w page k - w.low
  chunk_few = go (ltb w.low (stop w page k)) refl
    where
      go : (b : Bool) → ltb w.low (stop w page k) ≡ b → length {A = Entry} (elim b [ true ↦ chunk_of w.low (stop w page k) (values_size page w.low (stop w page k)) ∷ [] | false ↦ [] ]) ≤ stop w page k - w.low
      go true e = omega (arith, ltb-true w.low (stop w page k) e)
      go false e = omega arith

  insert_few : (d : Option Change) → length (insert_entries w.filled k d) ≡ length (inserted k d)
  insert_few none = refl
  insert_few (some d) = refl

  chunk_in : All (EntryIn (low_after w page k) (w.filled + length (value_of c))) chunk
  chunk_in = go (ltb w.low (stop w page k)) refl
    where
      go : (b : Bool) → ltb w.low (stop w page k) ≡ b
          → All (EntryIn (low_after w page k) (w.filled + length (value_of c))) (elim b [ true ↦ chunk_of w.low (stop w page k) (values_size page w.low (stop w page k)) ∷ [] | false ↦ [] ])
      go true e = cons (record { insert = λ (q : ◌≡◌ {A = ℕ} 2 1). absurd (omega arith); chunk = λ q. (ltb-true w.low (stop w page k) e, split.to) }) nil
      go false e = nil

  insert_in : (low : ℕ) (d : Option Change) → All (EntryIn low (w.filled + length (value_of d))) (insert_entries w.filled k d)
  insert_in low none = nil
  insert_in low (some d) = cons {x = insert_at w.filled (w.filled + length d.value) k (bit d.flag)} (record { insert = λ q. (omega arith, omega arith); chunk = λ q. absurd (q refl) }) nil

  -- ---- an accepted one

  module _ (e : ingest_verdict size w list store page k c 0 ≡ 0) where
    rows_passed : Passed size w list store page k c
    rows_passed = passed_rows size w list store page k c e

    list_room : w.used + length (new_entries w page k c) ≤ length list
    list_room =
        omega (
          arith,
          rows_passed.list_room,
          range_length page w.low (stop w page k),
          r.used_few,
          length-append chunk (insert_entries w.filled k c),
          chunk_few,
          insert_few c,
        )

    store_room : w.filled + length (value_of c) ≤ length store
    store_room = omega (arith, rows_passed.store_room, r.filled_few)

    abbrev list' : List Entry
    list' = (outcome.ingest_done size w list store page k c).list

    abbrev store' : List ℕ
    store' = (outcome.ingest_done size w list store page k c).store

    list_length : length list' ≡ length list
    unfolding put
    list_length = length_put list w.used (new_entries w page k c) list_room

    store_length : length store' ≡ length store
    unfolding put
    store_length = length_put store w.filled (value_of c) store_room

    listed_in : All (EntryIn (low_after w page k) (w.filled + length (value_of c))) (take w.used list ++ new_entries w page k c)
    listed_in =
        let l : w.low ≤ low_after w page k = omega (arith, split.from, split.to) in
        let f : w.filled ≤ w.filled + length (value_of c) = omega arith in
        all_append (all_map (still_in l f) (all_taken w.used list r.entries)) (all_append chunk_in (insert_in (low_after w page k) c))

    listed_length : length (take w.used list ++ new_entries w page k c) ≡ w.used + length (new_entries w page k c)
    listed_length = length-append (take w.used list) (new_entries w page k c) ∙ ap (λ (n : ℕ). n + length (new_entries w page k c)) (length-take-le w.used list r.used_in)

    ready_again : Ready (outcome.ingest_work size w list store page k c) list' store' page
    ready_again =
        let n = range_length page w.low (stop w page k) in
        let m = range_length page (low_after w page k) (count page) in
        record {
          used_in = omega (arith, list_room, list_length);
          filled_in = omega (arith, store_room, store_length);
          low_in = split.upto;
          entries = λ i h. one_of_all (drop (w.used + length (new_entries w page k c)) list) listed_in i (omega (arith, listed_length));
          used_few = omega (arith, n, r.used_few, length-append chunk (insert_entries w.filled k c), chunk_few, insert_few c);
          filled_few = omega (arith, r.filled_few);
          few = omega (arith, rows_passed.list_room, m, r.list_short);
          store_room = omega (arith, rows_passed.store_room, range_total page (low_after w page k) (count page), store_length);
          laid = r.laid;
          rising = r.rising;
          list_there = omega (arith, r.list_there, list_length);
          list_short = omega (arith, r.list_short, list_length);
          store_short = omega (arith, r.store_short, store_length);
          page_short = r.page_short;
        }

  -- ---- any one

  abbrev after : outcome.Ingested
  after = outcome.ingest_on size w list store page k c 0

  accepted : eqb (ingest_verdict size w list store page k c 0) 0 ≡ true → after ≡ outcome.ingest_done size w list store page k c
  unfolding outcome.ingest_on
  accepted e = rw (e, outcome.ingest_on)

  refused : eqb (ingest_verdict size w list store page k c 0) 0 ≡ false → after ≡ record { reply = outcome.IngestRefused (ingest_verdict size w list store page k c 0); work = w; list = list; store = store }
  unfolding outcome.ingest_on
  refused e = rw (e, outcome.ingest_on)

  pub an_ingest_leaves_what_the_next_one_requires : Ready after.work after.list after.store page
  an_ingest_leaves_what_the_next_one_requires = go (eqb (ingest_verdict size w list store page k c 0) 0) refl
    where
      go : (b : Bool) → eqb (ingest_verdict size w list store page k c 0) 0 ≡ b → Ready after.work after.list after.store page
      go true e = rw (accepted e) (ready_again (eqb-true _ _ e))
      go false e = rw (refused e) r

  -- the next one regards the same bytes of a lent page
  pub an_ingest_keeps_what_the_work_regards : (lent : List ℕ) → regarded after.work lent ≡ regarded w lent
  an_ingest_keeps_what_the_work_regards lent = go (eqb (ingest_verdict size w list store page k c 0) 0) refl
    where
      go : (b : Bool) → eqb (ingest_verdict size w list store page k c 0) 0 ≡ b → regarded after.work lent ≡ regarded w lent
      go true e = rw (accepted e)
      go false e = rw (refused e)
