-- An accepted ingest: the operations after it, what the model sees then, and what is kept. Assumes nothing.
use mathlib.Core.Path.{◌≡◌, refl, sym, ap, ◌∙◌}
use mathlib.Core.Bool.{Bool, true, false, true≢false}
use mathlib.Core.Option.{Option, none, some}
use mathlib.Core.List.{List, [], ◌∷◌, ◌++◌, append-nil}
use Prim.Native.Nat.{ℕ, zero, suc, ◌+◌, ◌-◌, ◌≤◌}
use native.Mathlib.Omega.{arith}
use native.Mathlib.Nat.{add-zero}
use lib.Dec.{ltb}
use lib.ListN.{length, drop, replicate, length-append, length-replicate}
use lib.Seq.{drop-drop}
use borrow.Author.Tests.{ltb-true, ltb-false}
use Rattle.bit_ops.specs.Steps.{zeros}
use Rattle.leaf_node.specs.Record.{Record, total}
use Rattle.leaf_node.specs.Page.{count, run, records_between, values_size}
use Rattle.leaf_node.specs.Fits.{All, nil, cons, Rising}
use Rattle.leaf_model.specs.Work.{Open, Change, inserted, below_cutoff, records_below, records_above, ingested}
use Rattle.leaf_model.proofs.Lists.{all_append, all_map}
use Rattle.leaf_model.proofs.Keys.{test_of_lt}
use Rattle.leaf_model.proofs.Ingesting.{split}
use Rattle.leaf_work.specs.declared.Work.{Work}
use Rattle.leaf_work.specs.declared.Entry.{Entry}
use Rattle.leaf_work.specs.Lent.{blank, chunk_of, cutoff_of, override_of}
use Rattle.leaf_work.specs.Pending.{listed_of, rest_of, pending_of}
use Rattle.leaf_work.specs.TakingUp.{value_of, chunk_entries, insert_entries, stop, low_after, rest_after, new_entries, count_after, bytes_after}
use Rattle.leaf_work.specs.Outcome.{ingest_work, ingest_done}
use Rattle.leaf_work.proofs.Operations.{Op, Put, Keep, records_of_ops, stored_bytes, entries_of, Within, total_append, entries_length, records_append, bytes_append, entries_append, some_put_append, ops_few, bytes_few}
use Rattle.leaf_work.proofs.Searching.{Split, the_search_splits_the_rest}
use Rattle.leaf_work.proofs.Laid.{Laid, Kept, turn_of, list_length, store_length, used_entries, blank_entries, used_bytes, blank_bytes, listed_is, rest_is, pending_is, sees_work}

drop_replicate : {A : Type 0} (n m : ℕ) (x : A) → drop n (replicate m x) ≡ replicate (m - n) x
drop_replicate zero m x = let e : m ≡ m - 0 = omega arith in ap (λ (k : ℕ). replicate k x) e
drop_replicate (suc n) zero x = let e : 0 ≡ 0 - suc n = omega arith in ap (λ (k : ℕ). replicate k x) e
drop_replicate (suc n) (suc m) x = let e : m - n ≡ suc m - suc n = omega arith in drop_replicate n m x ∙ ap (λ (k : ℕ). replicate k x) e

-- ---- the operations that an ingest adds

abbrev keep_ops : ℕ → ℕ → List Op
keep_ops low s = elim (ltb low s) [ true ↦ Keep low s ∷ [] | false ↦ [] ]

abbrev put_ops : List ℕ → Option Change → List Op
put_ops k none = []
put_ops k (some d) = Put (record { key = k; value = d.value; flag = d.flag }) ∷ []

record Keeps (p : List ℕ) (low s high : ℕ) (os : List Op) (es : List Entry) : Type 0 where
  kept_records_lem : records_of_ops p os ≡ records_between p low s
  no_bytes : stored_bytes os ≡ []
  entries : (at : ℕ) → entries_of p at os ≡ es
  within : All (Within high) os

keeps : (p : List ℕ) (low s high : ℕ) → low ≤ s → s ≤ high → Keeps p low s high (keep_ops low s) (elim (ltb low s) [ true ↦ chunk_of low s (values_size p low s) ∷ [] | false ↦ [] ])
unfolding records_between run
keeps p low s high h m = go (ltb low s) refl
  where
    go : (b : Bool) → ltb low s ≡ b
        → Keeps p low s high (elim b [ true ↦ Keep low s ∷ [] | false ↦ [] ]) (elim b [ true ↦ chunk_of low s (values_size p low s) ∷ [] | false ↦ [] ])
    go true e =
        record {
          kept_records_lem = append-nil (records_between p low s);
          no_bytes = refl;
          entries = λ at. refl;
          within = cons {x = Keep low s} (ltb-true low s e, m) nil;
        }
    go false e =
        let z : s - low ≡ 0 = omega (arith, ltb-false low s e) in
        record { kept_records_lem = rw z; no_bytes = refl; entries = λ at. refl; within = nil }

put_records : (p k : List ℕ) (c : Option Change) → records_of_ops p (put_ops k c) ≡ inserted k c
put_records p k none = refl
put_records p k (some d) = refl

put_bytes : (k : List ℕ) (c : Option Change) → stored_bytes (put_ops k c) ≡ value_of c
put_bytes k none = refl
put_bytes k (some d) = append-nil d.value

put_within : (low : ℕ) (k : List ℕ) (c : Option Change) → All (Within low) (put_ops k c)
put_within low k none = nil
put_within low k (some d) = cons tt nil

inserted_total : (k : List ℕ) (c : Option Change) → total (inserted k c) ≡ length (value_of c)
unfolding total
inserted_total k none = refl
inserted_total k (some d) = omega arith

within_more : {low high : ℕ} → low ≤ high → {os : List Op} → All (Within low) os → All (Within high) os
within_more l nil = nil
within_more l (cons {x = Put r} h hs) = cons tt (within_more l hs)
within_more l (cons {x = Keep f t} h hs) = cons {x = Keep f t} (h.0, omega (arith, h.1)) (within_more l hs)

module _ (size : ℕ) (w : Work) (list : List Entry) (store p k : List ℕ) (c : Option Change) (ops : List Op) (l : Laid w list store p ops) where
  put_entries : (c : Option Change) → entries_of p w.filled (put_ops k c) ≡ insert_entries w.filled k c
  put_entries none = refl
  put_entries (some d) = refl

  abbrev S : ℕ
  S = stop w p k

  abbrev L : ℕ
  L = low_after w p k

  abbrev rest : List Record
  rest = records_between p w.low (count p)

  so : Split w p k
  so = the_search_splits_the_rest w p k l.low_in

  ks : Keeps p w.low S L (keep_ops w.low S) (chunk_entries w.low S (values_size p w.low S))
  ks = keeps p w.low S L so.from so.to

  abbrev pub new : List Op
  new = keep_ops w.low S ++ put_ops k c

  new_records : records_of_ops p new ≡ records_below k rest ++ inserted k c
  new_records = records_append p (keep_ops w.low S) (put_ops k c) ∙ rw (ks.kept_records_lem, put_records p k c, so.below)

  new_bytes : stored_bytes new ≡ value_of c
  new_bytes = bytes_append (keep_ops w.low S) (put_ops k c) ∙ rw ks.no_bytes (put_bytes k c)

  abbrev added : List Entry
  added = new_entries w p k c

  new_entries_lem : entries_of p w.filled new ≡ added
  new_entries_lem =
      entries_append p w.filled (keep_ops w.low S) (put_ops k c)
      ∙ rw (ks.entries w.filled, ks.no_bytes, add-zero w.filled) (ap (λ z. chunk_entries w.low S (values_size p w.low S) ++ z) (put_entries c))

  new_within : All (Within L) (ops ++ new)
  new_within = all_append (within_more (omega (arith, so.from, so.to)) l.chunks) (all_append ks.within (put_within L k c))

  -- ---- the gauge, the room

  records_after : records_of_ops p (ops ++ new) ≡ records_of_ops p ops ++ (records_below k rest ++ inserted k c)
  records_after = records_append p ops new ∙ rw new_records

  count_after_lem : count_after w p k c ≡ length (records_of_ops p (ops ++ new))
  count_after_lem =
      let b : List Record = records_below k rest in
      let f : List Record = inserted k c in
      rw (records_after, so.below, l.count_is) (omega (arith, length-append (records_of_ops p ops) (b ++ f), length-append b f))

  bytes_after_lem : bytes_after w p k c ≡ total (records_of_ops p (ops ++ new))
  bytes_after_lem =
      let b : List Record = records_below k rest in
      let f : List Record = inserted k c in
      rw (records_after, so.below, l.bytes_is, total_append (records_of_ops p ops) (b ++ f), total_append b f, inserted_total k c) (omega arith)

  -- the count and the bytes that Nos. 15 and 16 speak of
  abbrev pending_after : List Record
  pending_after = records_of_ops p ops ++ ((records_below k rest ++ inserted k c) ++ records_above k rest)

  pub count_after_ingest : count_after w p k c + length (rest_after w p k) ≡ length pending_after
  count_after_ingest =
      let b : List Record = records_below k rest ++ inserted k c in
      let a : List Record = records_above k rest in
      rw (count_after_lem, so.above, records_after, length-append (records_of_ops p ops) (b ++ a), length-append b a, length-append (records_of_ops p ops) b) (omega arith)

  pub bytes_after_ingest : bytes_after w p k c + total (rest_after w p k) ≡ total pending_after
  bytes_after_ingest =
      let b : List Record = records_below k rest ++ inserted k c in
      let a : List Record = records_above k rest in
      rw (bytes_after_lem, so.above, records_after, total_append (records_of_ops p ops) (b ++ a), total_append b a, total_append (records_of_ops p ops) b) (omega arith)

  -- ---- list and store

  abbrev w' : Work
  w' = ingest_work size w list store p k c

  abbrev list' : List Entry
  list' = (ingest_done size w list store p k c).list

  abbrev store' : List ℕ
  store' = (ingest_done size w list store p k c).store

  list_after : list' ≡ entries_of p 0 (ops ++ new) ++ replicate (l.room - length added) blank
  list_after =
      let e : entries_of p 0 (ops ++ new) ≡ entries_of p 0 ops ++ added =
      let z : 0 + length (stored_bytes ops) ≡ w.filled = omega (arith, l.filled_is) in
      entries_append p 0 ops new ∙ rw z (ap (λ z. entries_of p 0 ops ++ z) new_entries_lem) in
      rw (e, ← (drop-drop (length added) w.used list), blank_entries w list store p ops l, used_entries w list store p ops l, drop_replicate (length added) l.room blank)

  store_after : store' ≡ stored_bytes (ops ++ new) ++ zeros (l.spare - length (value_of c))
  store_after =
      let e : stored_bytes (ops ++ new) ≡ stored_bytes ops ++ value_of c = bytes_append ops new ∙ rw new_bytes in
      let d : drop (length (value_of c)) (zeros l.spare) ≡ zeros (l.spare - length (value_of c)) = drop_replicate (length (value_of c)) l.spare 0 in
      rw (e, ← (drop-drop (length (value_of c)) w.filled store), blank_bytes w list store p ops l, used_bytes w list store p ops l, d)

  added_length : length added ≡ length new
  added_length = ap length (sym new_entries_lem) ∙ entries_length p w.filled new

  pub laid_after_ingest : Laid w' list' store' p (ops ++ new)
  laid_after_ingest = record {
    room = l.room - length added;
    spare = l.spare - length (value_of c);
    list_is = list_after;
    store_is = store_after;
    used_is = omega (arith, l.used_is, added_length, length-append ops new);
    filled_is = rw (bytes_append ops new, new_bytes) (omega (arith, l.filled_is, length-append (stored_bytes ops) (value_of c)));
    count_is = count_after_lem;
    bytes_is = bytes_after_lem;
    low_in = so.upto;
    chunks = new_within;
    override_has_insert = λ e. some_put_append ops new (l.override_has_insert e);
  }

  -- ---- what the model sees

  listed_after : listed_of w' list' store' p ≡ listed_of w list store p ++ (records_below k (rest_of w store p) ++ inserted k c)
  listed_after = listed_is w' list' store' p (ops ++ new) laid_after_ingest ∙ rw (listed_is w list store p ops l, rest_is w list store p ops l) records_after

  rest_after_lem : rest_of w' store' p ≡ records_above k (rest_of w store p)
  rest_after_lem = rest_is w' list' store' p (ops ++ new) laid_after_ingest ∙ rw (rest_is w list store p ops l) so.above

  pub model_sees_the_ingest : turn_of w.turn ≡ Open → sees_work w' list' store' p ≡ ingested (sees_work w list store p) k c
  model_sees_the_ingest e = λ j. record {
    turn = e j;
    listed = listed_after j;
    rest = rest_after_lem j;
    override = override_of w;
    latest = w.latest;
    cutoff = cutoff_of w;
    floor = w.floor;
    last = some k;
  }

  -- ---- what else is kept

  module _ (page : List ℕ) (h : Kept size w list store p page) (u : Rising (rest_of w store p)) (long : length k ≡ 32) (below-k : below_cutoff (cutoff_of w) k ≡ true)
      (r15 : count_after w p k c + length (rest_after w p k) ≤ length list) (r16 : bytes_after w p k c + total (rest_after w p k) ≤ length store) where
    pub list_is_as_long : length list' ≡ length list
    list_is_as_long =
        let n : ℕ = l.room - length added in
        omega (
          arith,
          ap length list_after,
          length-append (entries_of p 0 (ops ++ new)) (replicate n blank),
          length-replicate n blank,
          entries_length p 0 (ops ++ new),
          list_length w list store p ops l,
          count_after_lem,
          ops_few p new_within,
          length-append ops new,
          added_length,
        )

    pub store_is_as_long : length store' ≡ length store
    store_is_as_long =
        let b : stored_bytes (ops ++ new) ≡ stored_bytes ops ++ value_of c = bytes_append ops new ∙ rw new_bytes in
        let n : ℕ = l.spare - length (value_of c) in
        omega (
          arith,
          ap length store_after,
          length-append (stored_bytes (ops ++ new)) (zeros n),
          length-replicate {A = ℕ} n 0,
          store_length w list store p ops l,
          bytes_after_lem,
          bytes_few p (ops ++ new),
          ap length b,
          length-append (stored_bytes ops) (value_of c),
        )

    pending_after_lem : pending_of w' list' store' p ≡ records_of_ops p (ops ++ new) ++ rest_after w p k
    pending_after_lem = pending_is w' list' store' p (ops ++ new) laid_after_ingest

    pub kept_after_ingest : Kept size w' list' store' p page
    kept_after_ingest = record {
      right_room = rw (list_is_as_long, store_is_as_long) h.right_room;
      room_list = rw (list_is_as_long, pending_after_lem) (omega (arith, length-append (records_of_ops p (ops ++ new)) (rest_after w p k), count_after_lem));
      room_store = rw (store_is_as_long, pending_after_lem, total_append (records_of_ops p (ops ++ new)) (rest_after w p k), ← bytes_after_lem) r16;
      base_right = h.base_right;
      rest_above_lem = rw rest_after_lem (all_map (λ r e. test_of_lt k r.key e) (split k (rest_of w store p) u).high);
      last_below_lem = λ e. below-k;
      cut_based = h.cut_based;
      base_floor = h.base_floor;
      no_cut = h.no_cut;
      no_over = h.no_over;
      no_last = λ e. absurd (true≢false e);
      known_turn_lem = h.known_turn_lem;
      flags = record { mode = h.flags.mode; based = h.flags.based; cut = h.flags.cut; over = h.flags.over; taken = omega arith };
      keyed = record { latest = h.keyed.latest; cutoff = h.keyed.cutoff; overriding = h.keyed.overriding; floor = h.keyed.floor; last = long };
    }
