-- What is lent and earns none of Nos. 1 to 8: the rows that it passed, the operations that it stands for, and what the steps below the calls
-- require. Assumes nothing.
use mathlib.Core.Path.{◌≡◌, refl, sym, ap, ◌∙◌}
use mathlib.Core.Bool.{Bool, true, false, ◌&&◌, cond}
use mathlib.Core.List.{List, [], ◌∷◌, ◌++◌}
use Prim.Native.Nat.{ℕ, zero, suc, ◌+◌, ◌-◌, ◌≤◌, ◌<◌}
use native.Mathlib.Omega.{arith}
use lib.Dec.{eqb, leb}
use lib.ListN.{length, get_or, take, drop, replicate, length-append, length-map, take-append-drop}
use lib.Seq.{length-take-le}
use borrow.Author.Tests.{eqb-true, leb-true}
use Rattle.bit_ops.specs.Steps.{zeros}
use Rattle.leaf_node.specs.Limits.{PageSize, record_limit}
use Rattle.leaf_node.specs.Record.{total}
use Rattle.leaf_node.specs.Page.{count, records_between, values_size, record_at}
use Rattle.leaf_node.specs.Good.{Good}
use Rattle.leaf_node.specs.Fits.{All, nil, cons}
use Rattle.leaf_node.proofs.Reading.{good_pages_are_laid, good_pages_rise}
use Rattle.leaf_node.proofs.Lengths.{length_run}
use Rattle.leaf_model.proofs.Tests.{and_left, and_right}
use Rattle.leaf_model.proofs.Lists.{all_map}
use Rattle.leaf_work.specs.declared.Work.{Work}
use Rattle.leaf_work.specs.declared.Entry.{Entry}
use Rattle.leaf_work.specs.Tests.{every, is_zero, is_set, bit}
use Rattle.leaf_work.specs.Lent.{blank, most_entries, most_store_bytes, room_right, cutoff_of, reads_base, regarded}
use Rattle.leaf_work.specs.Pending.{listed_of, pending_of, records_held, places_of}
use Rattle.leaf_work.specs.Sound.{is_blank, is_operation, placed, some_insert, sound}
use Rattle.leaf_work.specs.Verdict.{keys_verdict, lent_verdict}
use Rattle.leaf_work.specs.Ready.{EntryIn, Ready}
use Rattle.leaf_work.proofs.Tests.{implied, passed, first_passed, every_all}
use Rattle.leaf_work.proofs.Operations.{Op, records_of_ops, stored_bytes, entries_of, some_put, total_append, read_ops, ops_few, bytes_few}
use Rattle.leaf_work.proofs.BasePages.{lent_page_is_good}
use Rattle.leaf_work.proofs.Laid.{Laid, an_ignored_page_has_no_records, pending_is}
use Rattle.leaf_work.proofs.SoundMeans.{Clauses, clauses_of_a_sound_work}
use Rattle.leaf_work.proofs.Decoding.{Shape, insert, keep, shape, op_of, ops_of, placed_head, placed_upto, decoded_entries_are_the_entries, decoded_bytes_are_the_stored, decoded_chunks_are_passed, decoded_some_put, all_blank, all_zero_lem}

module _ (size : ℕ) (w : Work) (list : List Entry) (store page : List ℕ) (z : lent_verdict size w list store page ≡ 0) where
  abbrev pub p : List ℕ
  p = regarded w page

  pub record Rows : Type 0 where
    pub base : cond (reads_base w) (keys_verdict size page w.latest (cutoff_of w)) 0 ≡ 0
    pub right_room : room_right size (length list) (length store) ≡ true
    pub is_sound : sound size w list store p ≡ true

  pub rows : Rows
  unfolding lent_verdict
  rows =
      let a₀ = first_passed (cond (reads_base w) (keys_verdict size page w.latest (cutoff_of w)) 0) _ z in
      let a₁ = passed 6 (room_right size (length list) (length store)) _ a₀.1 in
      let a₂ = passed 7 (sound size w list store p) 0 a₁.1 in
      record { base = a₀.0; right_room = a₁.0; is_sound = a₂.0 }

  pub c : Clauses size w list store p
  c = clauses_of_a_sound_work size w list store p rows.is_sound

  pub base_right : reads_base w ≡ true → keys_verdict size page w.latest (cutoff_of w) ≡ 0
  base_right e = rw e at rows.base

  -- ---- the operations

  abbrev pub es : List Entry
  es = take w.used list

  abbrev pub ops : List Op
  ops = ops_of store es

  entries_right : (every (is_operation w.low p) es && every is_blank (drop w.used list)) ≡ true
  entries_right = and_right (leb w.used (length list)) _ c.operations_right

  used_in : w.used ≤ length list
  used_in = leb-true _ _ (and_left (leb w.used (length list)) _ c.operations_right)

  pub shapes : All (Shape w.low p) es
  shapes = all_map (shape w.low p) (every_all (is_operation w.low p) es (and_left (every (is_operation w.low p) es) _ entries_right))

  pub blanks : drop w.used list ≡ replicate (length (drop w.used list)) blank
  blanks = all_blank (every_all is_blank (drop w.used list) (and_right (every (is_operation w.low p) es) _ entries_right))

  values_right : (placed w.filled 0 es && every is_zero (drop w.filled store)) ≡ true
  values_right = and_right (leb w.filled (length store)) _ c.store_right

  filled_in : w.filled ≤ length store
  filled_in = leb-true _ _ (and_left (leb w.filled (length store)) _ c.store_right)

  pub in_place : placed w.filled 0 es ≡ true
  in_place = and_left (placed w.filled 0 es) _ values_right

  pub unused_bytes_are_zero : every is_zero (drop w.filled store) ≡ true
  unused_bytes_are_zero = and_right (placed w.filled 0 es) _ values_right

  blank_bytes : drop w.filled store ≡ zeros (length (drop w.filled store))
  blank_bytes = all_zero_lem (every_all is_zero (drop w.filled store) unused_bytes_are_zero)

  entries_are : entries_of p 0 ops ≡ es
  entries_are = decoded_entries_are_the_entries w.low store p w.filled filled_in 0 shapes in_place

  bytes_are : stored_bytes ops ≡ take w.filled store
  bytes_are =
      let y : w.filled - 0 ≡ w.filled = omega arith in
      decoded_bytes_are_the_stored w.low store p w.filled filled_in 0 shapes in_place ∙ ap (λ (n : ℕ). take n store) y

  list_is : list ≡ entries_of p 0 ops ++ replicate (length (drop w.used list)) blank
  list_is = rw (entries_are, ← blanks) (sym (take-append-drop w.used list))

  store_is : store ≡ stored_bytes ops ++ zeros (length (drop w.filled store))
  store_is = rw (bytes_are, ← blank_bytes) (sym (take-append-drop w.filled store))

  pub listed_are : listed_of w list store p ≡ records_of_ops p ops
  listed_are =
      ap (λ (x : List Entry). records_held store p (places_of p x)) (sym entries_are) ∙ read_ops store p 0 ops [] (zeros (length (drop w.filled store))) store_is refl

  pub low_in : w.low ≤ count p
  low_in = leb-true _ _ c.passed_part_lem

  pub override_has_insert : is_set w.over ≡ true → some_put ops ≡ true
  override_has_insert e = decoded_some_put w.low store p w.filled filled_in shapes (implied (is_set w.over) (some_insert es) c.override_right_lem e)

  pub laid : Laid w list store p ops
  laid = record {
    room = length (drop w.used list);
    spare = length (drop w.filled store);
    list_is = list_is;
    store_is = store_is;
    used_is = sym (length-map es (op_of store) ∙ length-take-le w.used list used_in);
    filled_is = sym (ap length bytes_are ∙ length-take-le w.filled store filled_in);
    count_is = eqb-true _ _ (and_left (eqb w.count (length (listed_of w list store p))) _ c.gauge_right) ∙ ap length listed_are;
    bytes_is = eqb-true _ _ (and_right (eqb w.count (length (listed_of w list store p))) (eqb w.bytes (total (listed_of w list store p))) c.gauge_right) ∙ ap total listed_are;
    low_in = low_in;
    chunks = decoded_chunks_are_passed w.low store p w.filled filled_in shapes;
    override_has_insert = override_has_insert;
  }

  -- ---- what the steps require

  entries_in : (end at : ℕ) {xs : List Entry} → All (Shape w.low p) xs → placed end at xs ≡ true → All (EntryIn w.low end) xs
  entries_in end at nil h = nil
  entries_in end at (cons {xs = xs} (insert from to key flag o) s) h =
      let d = placed_head end at from to key (bit flag) xs h in
      cons (record { insert = λ k. (o, placed_upto end to s d.1); chunk = λ k. absurd (k refl) }) (entries_in end to s d.1)
  entries_in end at (cons (keep from to l m) s) h = cons (record { insert = λ (k : ◌≡◌ {A = ℕ} 2 1). absurd (omega arith); chunk = λ k. (l, m) }) (entries_in end at s h)

  taken_at : {P : Entry → Type 0} (n : ℕ) (xs : List Entry) (i : ℕ) → All P (take n xs) → i < n → n ≤ length xs → P (get_or xs i blank)
  taken_at zero xs i a h l = absurd (omega arith)
  taken_at (suc n) [] i a h l = absurd (omega arith)
  taken_at (suc n) (x ∷ xs) zero (cons y a) h l = y
  taken_at (suc n) (x ∷ xs) (suc i) (cons y a) h l = taken_at n xs i a (omega arith) (omega arith)

  rest_length : length (records_between p w.low (count p)) ≡ count p - w.low
  unfolding records_between
  rest_length = length_run (count p - w.low) w.low (record_at p)

  rest_total : total (records_between p w.low (count p)) ≡ values_size p w.low (count p)
  unfolding values_size
  rest_total = refl

  pub list_room : w.count + (count p - w.low) ≤ length list
  list_room =
      let e = ap length (pending_is w list store p ops laid) in
      let h : length (pending_of w list store p) ≤ length list = leb-true _ _ (and_left (leb (length (pending_of w list store p)) (length list)) _ c.room_right_lem) in
      omega (arith, length-append (records_of_ops p ops) (records_between p w.low (count p)), rest_length, laid.count_is)

  store_room : w.bytes + values_size p w.low (count p) ≤ length store
  store_room =
      let e = ap total (pending_is w list store p ops laid) in
      let h : total (pending_of w list store p) ≤ length store = leb-true _ _ (and_right (leb (length (pending_of w list store p)) (length list)) (leb (total (pending_of w list store p)) (length store)) c.room_right_lem) in
      omega (arith, total_append (records_of_ops p ops) (records_between p w.low (count p)), rest_total, laid.bytes_is)

  lengths_right : (0 < length list) × (length list ≤ most_entries) × (length store ≤ most_store_bytes)
  lengths_right =
      let few = leb (record_limit size + 1) (length list) && leb (length list) most_entries in
      let h = and_left (few && leb size (length store)) (leb (length store) most_store_bytes) rows.right_room in
      let k = and_left few (leb size (length store)) h in (
        omega (arith, leb-true (record_limit size + 1) (length list) (and_left (leb (record_limit size + 1) (length list)) (leb (length list) most_entries) k)),
        leb-true _ _ (and_right (leb (record_limit size + 1) (length list)) (leb (length list) most_entries) k),
        leb-true _ _ (and_right (few && leb size (length store)) (leb (length store) most_store_bytes) rows.right_room),
      )

  -- a page with records is read, so it is good
  base_good : 0 < count p → Good size p
  base_good h = go (reads_base w) refl h
    where
      go : (b : Bool) → reads_base w ≡ b → 0 < count (cond b page []) → Good size (cond b page [])
      go true e h = lent_page_is_good size page w.latest (cutoff_of w) (base_right e)
      go false e h = absurd (omega (arith, an_ignored_page_has_no_records))

  page_short : PageSize size → length p ≤ 32767
  page_short q = go (reads_base w) refl
    where
      go : (b : Bool) → reads_base w ≡ b → length (cond b page []) ≤ 32767
      go true e = omega (arith, (lent_page_is_good size page w.latest (cutoff_of w) (base_right e)).sized, q.most)
      go false e = omega arith

  pub accepted_things_are_ready : PageSize size → Ready w list store (regarded w page)
  accepted_things_are_ready q = record {
    used_in = used_in;
    filled_in = filled_in;
    low_in = low_in;
    entries = λ i h. taken_at w.used list i (entries_in w.filled 0 shapes in_place) h used_in;
    used_few = omega (arith, laid.used_is, laid.count_is, ops_few p laid.chunks);
    filled_few = omega (arith, laid.filled_is, laid.bytes_is, bytes_few p ops);
    few = omega (arith, list_room, lengths_right.1);
    store_room = store_room;
    laid = λ h. good_pages_are_laid size p q (base_good h);
    rising = λ h. good_pages_rise size p q (base_good h);
    list_there = lengths_right.0;
    list_short = lengths_right.1;
    store_short = lengths_right.2;
    page_short = page_short q;
  }
