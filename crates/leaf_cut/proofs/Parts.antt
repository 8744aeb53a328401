-- The records from a cursor on: those of its entry, and those behind it. Assumes nothing.
use mathlib.Core.Path.{◌≡◌, refl, sym, ap, ◌∙◌}
use mathlib.Core.List.{List, [], ◌∷◌, ◌++◌, append-nil, append_assoc}
use Prim.Native.Nat.{ℕ, zero, suc, ◌+◌, ◌-◌, ◌≤◌, ◌<◌}
use native.Mathlib.Omega.{arith}
use native.Mathlib.Numerals.{add-one}
use lib.ListN.{length, get_or, take, drop, length-append, length-drop, length-map}
use lib.Seq.{drop-append-le, drop-append-add}
use borrow.Author.Tests.{eq-eqb, ne_eqb}
use Rattle.leaf_node.specs.Record.{Record}
use Rattle.leaf_node.specs.Page.{count, record_at, records_between}
use Rattle.leaf_work.specs.declared.Entry.{Entry}
use Rattle.leaf_work.specs.Lent.{blank}
use Rattle.leaf_work.specs.Pending.{held, chunk_places, insert_place, entry_places, places_of, records_held}
use Rattle.leaf_work.proofs.Tests.{map-append}
use Rattle.leaf_work.proofs.Operations.{chunk_held}
use Rattle.leaf_cut.specs.declared.Span.{Span}
use Rattle.leaf_cut.specs.declared.Cursor.{Cursor}
use Rattle.leaf_cut.specs.Sizes.{entry_sizes, listed_sizes, index_of}
use Rattle.leaf_cut.specs.Records.{spanned_records, records_from, entry_records}
use Rattle.leaf_cut.specs.Steps.{Kept, Spread}
use Rattle.leaf_cut.proofs.Ranges.{drop_run}
use Rattle.leaf_cut.proofs.Records.{sizes_of_an_entry}

-- ---- one entry

module _ (store page : List ℕ) (entry : Entry) (skip : ℕ) where
  pub an_insert_holds_itself : entry.kind ≡ 1 → skip ≡ 0 → entry_records store page entry skip ≡ held store page (insert_place entry) ∷ []
  unfolding entry_records entry_places
  an_insert_holds_itself e z = rw (entry_places, eq-eqb entry.kind 1 e, z)

  pub a_chunk_holds_its_records : (entry.kind ≡ 1 → ⊥) → entry.from + skip ≤ entry.to → entry_records store page entry skip ≡ records_between page (entry.from + skip) entry.to
  unfolding entry_records entry_places records_between
  a_chunk_holds_its_records n h =
      let d : entry.to - (entry.from + skip) ≡ entry.to - entry.from - skip = omega arith in
      rw (entry_places, ne_eqb entry.kind 1 n, chunk_held store page entry.from entry.to, d)
      (drop_run skip (entry.to - entry.from) entry.from (record_at page) (omega arith))

-- ---- from a cursor on

pub what_is_kept_is_spread : (list : List Entry) (store page : List ℕ) (s : Span) → Kept list store page s → Spread list page s
what_is_kept_is_spread list store page s h = record {
  used_in = h.used_in;
  used_few = h.used_few;
  entries = λ i l. record { insert = λ k. (((h.entries i l).insert k).0, omega (arith, ((h.entries i l).insert k).1, h.store_short)); chunk = (h.entries i l).chunk };
  rest = h.rest;
}

module _ (list : List Entry) (store page : List ℕ) (s : Span) (h : Kept list store page s) where
  entry_count : (i : ℕ) → i < s.used → length (records_held store page (entry_places page (get_or list i blank))) ≡ length (entry_sizes page (get_or list i blank))
  entry_count i l =
      let e = sizes_of_an_entry page (count page) h.rest.laid store (get_or list i blank) s.low (length store) h.rest.low_in (omega arith) (h.entries i l) in
      sym (length-map (records_held store page (entry_places page (get_or list i blank))) (λ (r : Record). length r.value)) ∙ ap length e

-- the records of the first entries, and tail behind them
module _ (store page : List ℕ) where
  abbrev listed : ℕ → List Entry → List Record
  listed used list = records_held store page (places_of page (take used list))

  abbrev one : Entry → List Record
  one entry = records_held store page (entry_places page entry)

  listed_more : (used : ℕ) (e : Entry) (es : List Entry) → listed (suc used) (e ∷ es) ≡ one e ++ listed used es
  listed_more used e es = map-append (held store page) (entry_places page e) (places_of page (take used es))

  records_split : (j used : ℕ) (list : List Entry) (k : ℕ) (tail : List Record) → j < used → used ≤ length list
      → ((i : ℕ) → i < used → length (one (get_or list i blank)) ≡ length (entry_sizes page (get_or list i blank))) → k ≤ length (entry_sizes page (get_or list j blank))
      → drop (length (listed_sizes page j list) + k) (listed used list ++ tail)
      ≡ drop k (one (get_or list j blank)) ++ drop (length (listed_sizes page (suc j) list) + 0) (listed used list ++ tail)
  unfolding listed_sizes
  records_split j zero list k tail h l c m = absurd (omega arith)
  records_split j (suc used) [] k tail h l c m = absurd (omega arith)
  records_split zero (suc used) (e ∷ es) k tail h l c m =
      let x : List Record = one e in
      let n : length x ≡ length (entry_sizes page e) = c 0 (omega arith) in
      let g : length (entry_sizes page e ++ []) + 0 ≡ length x + 0 = ap (λ (y : List ℕ). length y + 0) (append-nil (entry_sizes page e)) ∙ ap (λ (y : ℕ). y + 0) (sym n) in
      let z : 0 + k ≡ k = omega arith in
      rw (listed_more used e es, append_assoc x (listed used es) tail, g, drop-append-add x (listed used es ++ tail) 0, z)
      (drop-append-le k x (listed used es ++ tail) (omega (arith, n)))
  records_split (suc j) (suc used) (e ∷ es) k tail h l c m =
      let x : List Record = one e in
      let n : length x ≡ length (entry_sizes page e) = c 0 (omega arith) in
      let a : length (entry_sizes page e ++ listed_sizes page j es) + k ≡ length x + (length (listed_sizes page j es) + k) = simp length-append (omega (arith, n)) in
      let b : length (entry_sizes page e ++ listed_sizes page (suc j) es) + 0 ≡ length x + (length (listed_sizes page (suc j) es) + 0) = simp length-append (omega (arith, n)) in
      rw (
        listed_more used e es,
        a,
        b,
        append_assoc x (listed used es) tail,
        drop-append-add x (listed used es ++ tail) (length (listed_sizes page j es) + k),
        drop-append-add x (listed used es ++ tail) (length (listed_sizes page (suc j) es) + 0),
      )
      (records_split j used es k tail (omega arith) (omega arith) (λ i y. c (suc i) (omega arith)) m)

  listed_count : (used : ℕ) (list : List Entry) → used ≤ length list
      → ((i : ℕ) → i < used → length (one (get_or list i blank)) ≡ length (entry_sizes page (get_or list i blank))) → length (listed used list) ≡ length (listed_sizes page used list)
  unfolding listed_sizes
  listed_count zero list l c = refl
  listed_count (suc used) [] l c = absurd (omega arith)
  listed_count (suc used) (e ∷ es) l c =
      rw (listed_more used e es) (simp length-append (omega (arith, c 0 (omega arith), listed_count used es (omega arith) (λ i y. c (suc i) (omega arith)))))

module _ (list : List Entry) (store page : List ℕ) (s : Span) (h : Kept list store page s) (at : Cursor) where
  all : spanned_records s list store page ≡ listed store page s.used list ++ records_between page s.low (count page)
  unfolding spanned_records
  all =
      map-append (held store page) (places_of page (take s.used list)) (chunk_places page s.low (count page))
      ∙ rw (chunk_held store page s.low (count page))

  pub the_records_from_an_entry_on : at.entry < s.used → at.skip < length (entry_sizes page (get_or list at.entry blank))
      → records_from s list store page at ≡ entry_records store page (get_or list at.entry blank) at.skip
      ++ records_from s list store page (record { entry = at.entry + 1; skip = 0 })
  unfolding records_from entry_records index_of
  the_records_from_an_entry_on l k =
      rw (all, add-one at.entry)
      (records_split store page at.entry s.used list at.skip (records_between page s.low (count page)) l h.used_in (entry_count list store page s h) (omega arith))

  pub the_records_from_the_rest_on : at.entry ≡ s.used → s.low + at.skip ≤ count page → records_from s list store page at ≡ records_between page (s.low + at.skip) (count page)
  unfolding records_from records_between index_of
  the_records_from_the_rest_on e k =
      let c : length (listed_sizes page s.used list) ≡ length (listed store page s.used list) = sym (listed_count store page s.used list h.used_in (entry_count list store page s h)) in
      let d : count page - (s.low + at.skip) ≡ count page - s.low - at.skip = omega arith in
      rw (all, e, c, drop-append-add (listed store page s.used list) (records_between page s.low (count page)) at.skip, d)
      (drop_run at.skip (count page - s.low) s.low (record_at page) (omega arith))

  pub an_entry_has_records_from_its_cursor_on : at.entry < s.used → at.skip < length (entry_sizes page (get_or list at.entry blank))
      → 0 < length (entry_records store page (get_or list at.entry blank) at.skip)
  unfolding entry_records
  an_entry_has_records_from_its_cursor_on l k =
      omega (arith, length-drop at.skip (records_held store page (entry_places page (get_or list at.entry blank))), entry_count list store page s h at.entry l)
