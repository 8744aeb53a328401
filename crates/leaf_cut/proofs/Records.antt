-- Cutting by chunks is cutting by records: where a leaf ends by the lengths of the values is where document 01's cutting ends it. Assumes nothing.
use mathlib.Core.Path.{◌≡◌, refl, sym, ap, ◌∙◌}
use mathlib.Core.Bool.{Bool, true, false}
use mathlib.Core.Option.{Option, none, some}
use mathlib.Core.List.{List, [], ◌∷◌, ◌++◌, append_assoc}
use Prim.Native.Nat.{ℕ, zero, suc, ◌+◌, ◌-◌, ◌*◌, ◌≤◌, ◌<◌}
use native.Mathlib.Omega.{arith}
use native.Mathlib.Decide.{dec_lt}
use lib.Dec.{eqb, ltb, leb}
use lib.ListN.{length, get_or, take, drop, length-append, length-map, length-drop}
use lib.Seq.{length-take-le, take-nil, take_at, drop_at, drop-drop}
use borrow.Author.Tests.{eqb-true, eqb-false, ltb-true, ltb-false, leb-true, leb-false, lt-ltb, le-ltb, le-leb, lt-leb}
use Rattle.leaf_node.specs.Record.{Record, cost, body, total}
use Rattle.leaf_node.specs.Page.{count, length_at, record_at, run, records_between}
use Rattle.leaf_node.specs.Steps.{Laid}
use Rattle.leaf_node.proofs.Lengths.{body_is_pointers_and_values}
use Rattle.leaf_node.proofs.Laying.{value_length_lem}
use Rattle.leaf_model.specs.Cut.{Taken, take_until}
use Rattle.leaf_work.specs.declared.Work.{Work}
use Rattle.leaf_work.specs.declared.Entry.{Entry}
use Rattle.leaf_work.specs.Lent.{blank}
use Rattle.leaf_work.specs.Pending.{held, chunk_places, entry_places, places_of, records_held, listed_places, rest_places, pending_of}
use Rattle.leaf_work.specs.Ready.{EntryIn, Ready}
use Rattle.leaf_work.proofs.Tests.{map-append}
use Rattle.leaf_work.proofs.Operations.{total_append, chunk_held}
use Rattle.leaf_cut.specs.declared.Aim.{Aim}
use Rattle.leaf_cut.specs.declared.Cursor.{Cursor}
use Rattle.leaf_cut.specs.declared.Ended.{Ended}
use Rattle.leaf_cut.specs.declared.Taken as code
use Rattle.leaf_cut.specs.Sizes.{sizes, cut_sizes, entry_sizes, listed_sizes, pending_sizes, index_of, sizes_from}
use Rattle.leaf_cut.specs.Records.{span_of, first_cursor, spanned_records, records_from}
use Rattle.leaf_cut.specs.Steps.{Spread, Leafed, Kept}
use Rattle.leaf_cut.proofs.Ending.{ends_before, ends_behind, ends_later}
use Rattle.leaf_cut.proofs.Cursors.{a_leaf_does_not_shrink, a_leaf_takes_no_more_than_there_is}

-- ---- one leaf off a list of records

-- the leaf that ends there, or none
abbrev pub taken_by : Ended → List Record → Option Taken
taken_by e rs = elim e.cut [ true ↦ some (record { leaf = take e.leaf.count rs; remaining = drop e.leaf.count rs }) | false ↦ none ]

module _ (limit target : ℕ) where
  -- what `take_until` makes of the next record
  module _ (leaf : List Record) (r : Record) (rs : List Record) where
    over : limit < body leaf + cost r → take_until limit target leaf (r ∷ rs) ≡ some (record { leaf = leaf; remaining = r ∷ rs })
    unfolding take_until
    over h = rw (lt-ltb limit (body leaf + cost r) h, take_until)

    reaching : body leaf + cost r ≤ limit → target ≤ body leaf + cost r → take_until limit target leaf (r ∷ rs) ≡ some (record { leaf = leaf ++ (r ∷ []); remaining = rs })
    unfolding take_until
    reaching h k = rw (le-ltb limit (body leaf + cost r) h, le-leb target (body leaf + cost r) k, take_until)

    further : body leaf + cost r ≤ limit → body leaf + cost r < target → take_until limit target leaf (r ∷ rs) ≡ take_until limit target (leaf ++ (r ∷ [])) rs
    unfolding take_until
    further h k = rw (le-ltb limit (body leaf + cost r) h, lt-leb target (body leaf + cost r) k, take_until)

  body_with_lem : (leaf : List Record) (r : Record) → body leaf + cost r ≡ 34 * (length leaf + 1) + (total leaf + length r.value)
  body_with_lem leaf r = omega (arith, body_is_pointers_and_values leaf)

  total_with : (leaf : List Record) (r : Record) → total (leaf ++ (r ∷ [])) ≡ total leaf + length r.value
  unfolding total
  total_with leaf r = omega (arith, total_append leaf (r ∷ []))

  length_with : (leaf : List Record) (r : Record) → length (leaf ++ (r ∷ [])) ≡ length leaf + 1
  length_with leaf r = length-append leaf (r ∷ [])

  taken_before : (leaf : List Record) (r : Record) (rs : List Record) (e : Ended) → e ≡ record { cut = true; leaf = record { count = length leaf; bytes = total leaf } }
      → taken_by e (leaf ++ (r ∷ rs)) ≡ some (record { leaf = leaf; remaining = r ∷ rs })
  taken_before leaf r rs e q = rw (q, take_at leaf (r ∷ rs) (length leaf) refl, drop_at leaf (r ∷ rs) (length leaf) refl)

  taken_behind_lem : (leaf : List Record) (r : Record) (rs : List Record) (e : Ended) → e ≡ record { cut = true; leaf = record { count = length leaf + 1; bytes = total leaf + length r.value } }
      → taken_by e (leaf ++ (r ∷ rs)) ≡ some (record { leaf = leaf ++ (r ∷ []); remaining = rs })
  taken_behind_lem leaf r rs e q =
      let a : leaf ++ (r ∷ rs) ≡ (leaf ++ (r ∷ [])) ++ rs = sym (append_assoc leaf (r ∷ []) rs) in
      let n : length (leaf ++ (r ∷ [])) ≡ length leaf + 1 = length_with leaf r in
      rw (q, a, take_at (leaf ++ (r ∷ [])) rs (length leaf + 1) n, drop_at (leaf ++ (r ∷ [])) rs (length leaf + 1) n)

  pub a_leaf_ends_by_the_lengths_of_its_values : (leaf rs : List Record) → take_until limit target leaf rs ≡ taken_by (cut_sizes limit target (length leaf) (total leaf) (sizes rs)) (leaf ++ rs)
  a_leaf_ends_by_the_lengths_of_its_values leaf [] = unfold take_until cut_sizes in refl
  a_leaf_ends_by_the_lengths_of_its_values leaf (r ∷ rs) =
      test (a_leaf_ends_by_the_lengths_of_its_values (leaf ++ (r ∷ [])) rs) (ltb limit (34 * (length leaf + 1) + (total leaf + length r.value))) (leb target (34 * (length leaf + 1) + (total leaf + length r.value))) refl refl
    where
      same : (take_until limit target (leaf ++ (r ∷ [])) rs ≡ taken_by (cut_sizes limit target (length (leaf ++ (r ∷ []))) (total (leaf ++ (r ∷ []))) (sizes rs)) ((leaf ++ (r ∷ [])) ++ rs))
          → take_until limit target (leaf ++ (r ∷ [])) rs ≡ taken_by (cut_sizes limit target (length leaf + 1) (total leaf + length r.value) (sizes rs)) (leaf ++ (r ∷ rs))
      same ih = ih ∙ rw (length_with leaf r, total_with leaf r, append_assoc leaf (r ∷ []) rs)

      test : (take_until limit target (leaf ++ (r ∷ [])) rs ≡ taken_by (cut_sizes limit target (length (leaf ++ (r ∷ []))) (total (leaf ++ (r ∷ []))) (sizes rs)) ((leaf ++ (r ∷ [])) ++ rs))
          → (t u : Bool) → ltb limit (34 * (length leaf + 1) + (total leaf + length r.value)) ≡ t → leb target (34 * (length leaf + 1) + (total leaf + length r.value)) ≡ u
          → take_until limit target leaf (r ∷ rs) ≡ taken_by (cut_sizes limit target (length leaf) (total leaf) (sizes (r ∷ rs))) (leaf ++ (r ∷ rs))
      test ih true u e f =
          let h = ltb-true limit (34 * (length leaf + 1) + (total leaf + length r.value)) e in
          over leaf r rs (omega (arith, body_with_lem leaf r)) ∙ sym (taken_before leaf r rs _ (ends_before limit target (length leaf) (total leaf) (length r.value) (sizes rs) h))
      test ih false true e f =
          let h = ltb-false limit (34 * (length leaf + 1) + (total leaf + length r.value)) e in
          let k = leb-true target (34 * (length leaf + 1) + (total leaf + length r.value)) f in
          reaching leaf r rs (omega (arith, body_with_lem leaf r)) (omega (arith, body_with_lem leaf r))
          ∙ sym (taken_behind_lem leaf r rs _ (ends_behind limit target (length leaf) (total leaf) (length r.value) (sizes rs) h k))
      test ih false false e f =
          let h = ltb-false limit (34 * (length leaf + 1) + (total leaf + length r.value)) e in
          let k = leb-false target (34 * (length leaf + 1) + (total leaf + length r.value)) f in
          further leaf r rs (omega (arith, body_with_lem leaf r)) (omega (arith, body_with_lem leaf r)) ∙ same ih
          ∙ ap (λ (x : Ended). taken_by x (leaf ++ (r ∷ rs))) (sym (ends_later limit target (length leaf) (total leaf) (length r.value) (sizes rs) h k))

-- ---- the bytes of a leaf

none_total : (m : ℕ) → total (take m []) ≡ 0
unfolding total
none_total m = ap total (take-nil m)

first_none : (r : Record) (rs : List Record) (b : ℕ) → b ≡ b + total (take 0 (r ∷ rs))
unfolding total
first_none r rs b = omega arith

first_one : (r : Record) (rs : List Record) (b : ℕ) → b + length r.value ≡ b + total (take 1 (r ∷ rs))
unfolding total
first_one r rs b = omega arith

module _ (limit target : ℕ) where
  -- of the first m records, where the leaf ends behind them
  abbrev Bytes : List Record → ℕ → ℕ → Type 0
  Bytes rs n b = (m : ℕ) → (cut_sizes limit target n b (sizes rs)).leaf.count ≡ n + m → (cut_sizes limit target n b (sizes rs)).leaf.bytes ≡ b + total (take m rs)

  ends_at : (rs : List Record) (n b k d : ℕ) → cut_sizes limit target n b (sizes rs) ≡ record { cut = true; leaf = record { count = n + k; bytes = d } } → d ≡ b + total (take k rs) → Bytes rs n b
  ends_at rs n b k d q t m h =
      let c : (cut_sizes limit target n b (sizes rs)).leaf.count ≡ n + k = ap (λ (x : Ended). x.leaf.count) q in
      let g : (cut_sizes limit target n b (sizes rs)).leaf.bytes ≡ d = ap (λ (x : Ended). x.leaf.bytes) q in
      let i : k ≡ m = omega (arith, c) in
      g ∙ t ∙ ap (λ (x : ℕ). b + total (take x rs)) i

  goes_on : (r : Record) (rs : List Record) (n b : ℕ) → cut_sizes limit target n b (sizes (r ∷ rs)) ≡ cut_sizes limit target (n + 1) (b + length r.value) (sizes rs)
      → n + 1 ≤ (cut_sizes limit target (n + 1) (b + length r.value) (sizes rs)).leaf.count → Bytes rs (n + 1) (b + length r.value) → Bytes (r ∷ rs) n b
  unfolding total
  goes_on r rs n b q l ih zero h = let c = ap (λ (x : Ended). x.leaf.count) q in absurd (omega (arith, c))
  goes_on r rs n b q l ih (suc m) h =
      let c = ap (λ (x : Ended). x.leaf.count) q in
      let g = ap (λ (x : Ended). x.leaf.bytes) q in
      omega (arith, g, ih m (omega (arith, c)))

  pub bytes_of_a_leaf : (rs : List Record) (n b : ℕ) → Bytes rs n b
  bytes_of_a_leaf [] n b = unfold cut_sizes in λ m h. omega (arith, none_total m)
  bytes_of_a_leaf (r ∷ rs) n b =
      test (bytes_of_a_leaf rs (n + 1) (b + length r.value)) (ltb limit (34 * (n + 1) + (b + length r.value))) (leb target (34 * (n + 1) + (b + length r.value))) refl refl
    where
      test : Bytes rs (n + 1) (b + length r.value) → (t u : Bool) → ltb limit (34 * (n + 1) + (b + length r.value)) ≡ t → leb target (34 * (n + 1) + (b + length r.value)) ≡ u → Bytes (r ∷ rs) n b
      test ih true u e f =
          let h = ltb-true limit (34 * (n + 1) + (b + length r.value)) e in
          let z : n + 0 ≡ n = omega arith in
          ends_at (r ∷ rs) n b 0 b (ends_before limit target n b (length r.value) (sizes rs) h ∙ rw z) (first_none r rs b)
      test ih false true e f =
          let h = ltb-false limit (34 * (n + 1) + (b + length r.value)) e in
          let k = leb-true target (34 * (n + 1) + (b + length r.value)) f in
          ends_at (r ∷ rs) n b 1 (b + length r.value) (ends_behind limit target n b (length r.value) (sizes rs) h k) (first_one r rs b)
      test ih false false e f =
          let h = ltb-false limit (34 * (n + 1) + (b + length r.value)) e in
          let k = leb-false target (34 * (n + 1) + (b + length r.value)) f in
          goes_on r rs n b (ends_later limit target n b (length r.value) (sizes rs) h k) (a_leaf_does_not_shrink limit target (sizes rs) (n + 1) (b + length r.value) _ refl) ih

-- ---- the pending records by the lengths of their values

drop_sizes : (i : ℕ) (rs : List Record) → drop i (sizes rs) ≡ sizes (drop i rs)
drop_sizes zero rs = refl
drop_sizes (suc i) [] = refl
drop_sizes (suc i) (r ∷ rs) = drop_sizes i rs

sizes_append : (rs ss : List Record) → sizes (rs ++ ss) ≡ sizes rs ++ sizes ss
sizes_append rs ss = map-append (λ (r : Record). length r.value) rs ss

module _ (page : List ℕ) (n : ℕ) (laid : 0 < n → Laid page n) where
  pub run_sizes : (m i : ℕ) → i + m ≤ n → sizes (run m i (record_at page)) ≡ run m i (length_at page)
  unfolding run
  run_sizes zero i h = refl
  run_sizes (suc m) i h =
      let e : length (record_at page i).value ≡ length_at page i = value_length_lem page n (laid (omega arith)) i (omega arith) in
      let f = run_sizes m (suc i) (omega arith) in
      λ j. e j ∷ f j

  pub chunk_sizes : (store : List ℕ) (from to : ℕ) → from ≤ to → to ≤ n → sizes (records_held store page (chunk_places page from to)) ≡ run (to - from) from (length_at page)
  unfolding records_between
  chunk_sizes store from to o h = ap sizes (chunk_held store page from to) ∙ run_sizes (to - from) from (omega arith)

  pub sizes_of_an_entry : (store : List ℕ) (entry : Entry) (low filled : ℕ) → low ≤ n → filled ≤ length store → EntryIn low filled entry
      → sizes (records_held store page (entry_places page entry)) ≡ entry_sizes page entry
  unfolding entry_places entry_sizes held
  sizes_of_an_entry store entry low filled l f h = go (eqb entry.kind 1) refl
    where
      go : (b : Bool) → eqb entry.kind 1 ≡ b → sizes (records_held store page (entry_places page entry)) ≡ entry_sizes page entry
      go true e =
          let o = h.insert (eqb-true _ _ e) in
          let v : length (take (entry.to - entry.from) (drop entry.from store)) ≡ entry.to - entry.from = length-take-le (entry.to - entry.from) (drop entry.from store) (rw (length-drop entry.from store) (omega (arith, o.0, o.1))) in
          rw (entry_places, e) (λ j. v j ∷ [])
      go false e =
          let o = h.chunk (eqb-false _ _ e) in
          rw (entry_places, e) (chunk_sizes store entry.from entry.to (omega (arith, o.0)) (omega (arith, o.1)))

  listed_sizes_lem : (store : List ℕ) (low filled : ℕ) → low ≤ n → filled ≤ length store → (used : ℕ) (list : List Entry)
      → ((i : ℕ) → i < used → EntryIn low filled (get_or list i blank)) → used ≤ length list
      → sizes (records_held store page (places_of page (take used list))) ≡ listed_sizes page used list
  unfolding listed_sizes
  listed_sizes_lem store low filled l f zero list h u = refl
  listed_sizes_lem store low filled l f (suc used) [] h u = refl
  listed_sizes_lem store low filled l f (suc used) (e ∷ es) h u =
      let x = entry_places page e in
      let y = places_of page (take used es) in
      ap sizes (map-append (held store page) x y) ∙ sizes_append (records_held store page x) (records_held store page y)
      ∙ rw (sizes_of_an_entry store e low filled l f (h 0 (omega arith)), listed_sizes_lem store low filled l f used es (λ i q. h (suc i) (omega arith)) (omega arith))

-- ---- what is lent and earns no refusal

module _ (w : Work) (list : List Entry) (store page : List ℕ) (rd : Ready w list store page) where
  few : count page ≤ 32767
  few = elim (dec_lt 0 (count page)) [ yes h ↦ omega (arith, (rd.laid h).inside, rd.page_short) | no h ↦ omega arith ]

  pub the_pending_records_by_the_lengths_of_their_values : sizes (pending_of w list store page) ≡ pending_sizes list page (span_of w)
  unfolding pending_sizes
  the_pending_records_by_the_lengths_of_their_values =
      ap sizes (map-append (held store page) (listed_places w list page) (rest_places w page))
      ∙ sizes_append (records_held store page (listed_places w list page)) (records_held store page (rest_places w page))
      ∙ rw (
        listed_sizes_lem page (count page) rd.laid store w.low w.filled rd.low_in rd.filled_in w.used list rd.entries rd.used_in,
        chunk_sizes page (count page) rd.laid store w.low (count page) rd.low_in (omega arith),
      )

  -- an entry's value ends no later where more of the store is there
  entry_in : (end : ℕ) → w.filled ≤ end → (i : ℕ) → i < w.used → EntryIn w.low end (get_or list i blank)
  entry_in end l i h =
      let e = rd.entries i h in
      record { insert = λ k. ((e.insert k).0, omega (arith, (e.insert k).1)); chunk = e.chunk }

  pub what_is_ready_is_spread : Spread list page (span_of w)
  what_is_ready_is_spread = record {
    used_in = rd.used_in;
    used_few = omega (arith, rd.used_in, rd.list_short);
    entries = entry_in 65536 (omega (arith, rd.filled_in, rd.store_short));
    rest = record { low_in = rd.low_in; laid = rd.laid; few = few; short = rd.page_short };
  }

  pub what_is_ready_is_kept : Kept list store page (span_of w)
  what_is_ready_is_kept = record {
    used_in = rd.used_in;
    used_few = omega (arith, rd.used_in, rd.list_short);
    entries = entry_in (length store) rd.filled_in;
    rest = what_is_ready_is_spread.rest;
    store_short = rd.store_short;
  }

  pub sizes_from_a_cursor : (at : Cursor) → sizes (records_from (span_of w) list store page at) ≡ sizes_from list page (span_of w) at
  unfolding records_from spanned_records sizes_from
  sizes_from_a_cursor at =
      sym (drop_sizes (index_of list page at) (pending_of w list store page)) ∙ ap (drop (index_of list page at)) the_pending_records_by_the_lengths_of_their_values

  module _ (a : Aim) (start : Cursor) (t : code.Taken) (l : Leafed a list page (span_of w) start t) where
    -- the leaf is document 01's
    pub cutting_by_chunks_is_cutting_by_records : take_until a.limit a.target [] (records_from (span_of w) list store page start) ≡ taken_by t.end (records_from (span_of w) list store page start)
    unfolding total
    cutting_by_chunks_is_cutting_by_records =
        a_leaf_ends_by_the_lengths_of_its_values a.limit a.target [] (records_from (span_of w) list store page start)
        ∙ ap (λ (e : Ended). taken_by e (records_from (span_of w) list store page start)) (ap (cut_sizes a.limit a.target 0 0) (sizes_from_a_cursor start) ∙ sym l.ended)

    -- what remains is what the cursor behind it stands before
    pub the_cursor_stands_behind_the_leaf : drop t.end.leaf.count (records_from (span_of w) list store page start) ≡ records_from (span_of w) list store page t.at
    unfolding records_from spanned_records
    the_cursor_stands_behind_the_leaf =
        drop-drop t.end.leaf.count (index_of list page start) (pending_of w list store page)
        ∙ ap (λ (i : ℕ). drop i (pending_of w list store page)) (sym l.further)

    pub the_leaf_has_its_bytes : t.end.leaf.bytes ≡ total (take t.end.leaf.count (records_from (span_of w) list store page start))
    the_leaf_has_its_bytes =
        let xs : List Record = records_from (span_of w) list store page start in
        let q : t.end ≡ cut_sizes a.limit a.target 0 0 (sizes xs) = l.ended ∙ ap (cut_sizes a.limit a.target 0 0) (sym (sizes_from_a_cursor start)) in
        ap (λ (e : Ended). e.leaf.bytes) q ∙ bytes_of_a_leaf a.limit a.target xs 0 0 t.end.leaf.count (sym (ap (λ (e : Ended). e.leaf.count) q) ∙ omega arith) ∙ omega arith

    pub the_leaf_has_its_records : t.end.leaf.count ≤ length (records_from (span_of w) list store page start)
    the_leaf_has_its_records =
        let xs : List Record = records_from (span_of w) list store page start in
        let q : t.end ≡ cut_sizes a.limit a.target 0 0 (sizes xs) = l.ended ∙ ap (cut_sizes a.limit a.target 0 0) (sym (sizes_from_a_cursor start)) in
        omega (arith, a_leaf_takes_no_more_than_there_is a.limit a.target (sizes xs) 0 0 t.end q, length-map xs (λ (r : Record). length r.value))

-- from the start on they are all that is pending
pub all_records_are_pending : (w : Work) (list : List Entry) (store page : List ℕ) → records_from (span_of w) list store page first_cursor ≡ pending_of w list store page
unfolding records_from spanned_records index_of listed_sizes
all_records_are_pending w list store page = refl
