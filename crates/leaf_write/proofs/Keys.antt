-- The key of the first record from a cursor on. Assumes nothing.
use mathlib.Core.Path.{◌≡◌, refl, sym, ap, ◌∙◌}
use mathlib.Core.Bool.{Bool, true, false}
use mathlib.Core.Option.{some}
use mathlib.Core.List.{List, [], ◌∷◌, ◌++◌, append-nil}
use Prim.Native.Nat.{ℕ, zero, suc, ◌+◌, ◌-◌, ◌≤◌, ◌<◌}
use native.Mathlib.Omega.{arith}
use native.Mathlib.Decide.{dec_lt}
use lib.Dec.{eqb}
use lib.ListN.{length, get_or}
use borrow.Author.Tests.{lt-ltb, le-ltb, eqb-true, eqb-false}
use Rattle.bit_ops.specs.Key.{eq_key}
use Rattle.bit_ops.specs.Separate.{separate_of, separate_leaves}
use Rattle.leaf_node.specs.Record.{Record}
use Rattle.leaf_node.specs.Page.{count, key_at, record_at, run, records_between, records}
use Rattle.leaf_node.specs.Build.{build}
use Rattle.leaf_node.specs.Fits as page
use Rattle.leaf_node.proofs.Lengths.{length_run}
use Rattle.leaf_node.proofs.RoundTrips.{a_built_page_has_its_records}
use Rattle.leaf_cut.specs.declared.Span.{Span}
use Rattle.leaf_cut.specs.declared.Cursor.{Cursor}
use Rattle.leaf_model.specs.Work.{zero_key, last_key}
use Rattle.leaf_work.specs.declared.Entry.{Entry}
use Rattle.leaf_work.specs.Lent.{blank}
use Rattle.leaf_work.specs.Pending.{held, insert_place}
use Rattle.leaf_cut.specs.Records.{records_from, entry_records}
use Rattle.leaf_cut.specs.Steps.{CursorIn, Kept}
use Rattle.leaf_cut.proofs.Walking.{chunk_many}
use Rattle.leaf_cut.proofs.Parts.{an_insert_holds_itself, a_chunk_holds_its_records, what_is_kept_is_spread, the_records_from_an_entry_on, the_records_from_the_rest_on}
use Rattle.leaf_write.specs.Filling.{EntryThere, first_key, key_from}
use Rattle.leaf_write.proofs.Leaves.{the_entry_of_a_cursor_can_be_read}

pub different_keys_are_separated : (a b : List ℕ) → eq_key a b ≡ false → separate_leaves a b zero_key ≡ separate_of a b
unfolding separate_leaves
different_keys_are_separated a b e = rw e

-- ---- the first record

module _ (list : List Entry) (store page : List ℕ) (s : Span) (h : Kept list store page s) (at : Cursor) (c : CursorIn list page s at) where
  abbrev entry : Entry
  entry = get_or list at.entry blank

  abbrev later : List Record
  later = records_from s list store page (record { entry = at.entry + 1; skip = 0 })

  run_first : (m i : ℕ) (ys : List Record) → 0 < m → first_key (run m i (record_at page) ++ ys) ≡ some (key_at page i)
  unfolding run record_at
  run_first zero i ys m = absurd (omega arith)
  run_first (suc k) i ys m = refl

  range_first : (from to : ℕ) (ys : List Record) → from < to → first_key (records_between page from to ++ ys) ≡ some (key_at page from)
  unfolding records_between
  range_first from to ys l = run_first (to - from) from ys (omega arith)

  insert_first : first_key ((held store page (insert_place entry) ∷ []) ++ later) ≡ some entry.key
  unfolding held
  insert_first = refl

  module _ (l : at.entry < s.used) where
    there : EntryThere store page entry at.skip
    there = the_entry_of_a_cursor_can_be_read list store page s h at c l

    chunk_more : (entry.kind ≡ 1 → ⊥) → entry.from + at.skip < entry.to
    chunk_more n = omega (arith, c.skip_in l, chunk_many page entry s ((what_is_kept_is_spread list store page s h).entries at.entry l) h.rest n)

    in_entry : first_key (entry_records store page entry at.skip ++ later) ≡ key_from s list page at
    unfolding key_from
    in_entry = go (eqb entry.kind 1) refl
      where
        go : (b : Bool) → eqb entry.kind 1 ≡ b → first_key (entry_records store page entry at.skip ++ later) ≡ key_from s list page at
        go true e =
            rw (lt-ltb at.entry s.used l, e) (ap (λ (x : List Record). first_key (x ++ later)) (an_insert_holds_itself store page entry at.skip (eqb-true entry.kind 1 e) (there.insert (eqb-true entry.kind 1 e)).0)
            ∙ insert_first)
        go false e =
            let n : entry.kind ≡ 1 → ⊥ = eqb-false entry.kind 1 e in
            rw (lt-ltb at.entry s.used l, e) (ap (λ (x : List Record). first_key (x ++ later)) (a_chunk_holds_its_records store page entry at.skip n (omega (arith, chunk_more n)))
            ∙ range_first (entry.from + at.skip) entry.to later (chunk_more n))

  in_rest : s.used ≤ at.entry → first_key (records_between page (s.low + at.skip) (count page)) ≡ key_from s list page at
  unfolding key_from records_between run
  in_rest l = elim (dec_lt (s.low + at.skip) (count page)) [
    | yes m ↦
        rw (le-ltb at.entry s.used l, lt-ltb (s.low + at.skip) (count page) m)
        (ap first_key (sym (append-nil (records_between page (s.low + at.skip) (count page)))) ∙ range_first (s.low + at.skip) (count page) [] m)
    | no m ↦
        let z : count page - (s.low + at.skip) ≡ 0 = omega arith in
        let n : count page ≤ s.low + at.skip = omega arith in
        rw (le-ltb at.entry s.used l, le-ltb (s.low + at.skip) (count page) n, z)
  ]

  pub the_first_key_is_that_of_the_first_record : first_key (records_from s list store page at) ≡ key_from s list page at
  the_first_key_is_that_of_the_first_record = elim (dec_lt at.entry s.used) [
    | yes l ↦ ap first_key (the_records_from_an_entry_on list store page s h at l (c.skip_in l)) ∙ in_entry l
    | no l ↦ ap first_key (the_records_from_the_rest_on list store page s h at (omega (arith, c.entry_in)) (c.rest_in (omega (arith, c.entry_in)))) ∙ in_rest (omega arith)
  ]

-- ---- the last record of a leaf's page

run_last : (p : List ℕ) (m i : ℕ) → last_key (run (suc m) i (record_at p)) ≡ key_at p (i + m)
unfolding run record_at
run_last p zero i = let e : i + 0 ≡ i = omega arith in rw e
run_last p (suc m) i = let e : i + suc m ≡ suc i + m = omega arith in rw e (run_last p m (suc i))

pub the_last_key_of_a_page_is_that_of_its_last_record : (p : List ℕ) → 0 < count p → key_at p (count p - 1) ≡ last_key (records p)
unfolding records records_between
the_last_key_of_a_page_is_that_of_its_last_record p h =
    let e : count p - 0 ≡ suc (count p - 1) = omega arith in
    let f : 0 + (count p - 1) ≡ count p - 1 = omega arith in
    sym (ap (λ (m : ℕ). last_key (run m 0 (record_at p))) e ∙ run_last p (count p - 1) 0 ∙ ap (key_at p) f)

records_are_counted : (p : List ℕ) → length (records p) ≡ count p
unfolding records records_between
records_are_counted p = length_run (count p - 0) 0 (record_at p) ∙ omega arith

-- so the last key of a leaf is found in its page
pub the_last_key_of_a_leaf : (size : ℕ) (rs : List Record) → page.Fits size rs → 0 < length rs → key_at (build size rs) (length rs - 1) ≡ last_key rs
the_last_key_of_a_leaf size rs f h =
    let r : records (build size rs) ≡ rs = a_built_page_has_its_records size rs f in
    let n : count (build size rs) ≡ length rs = sym (records_are_counted (build size rs)) ∙ ap length r in
    ap (λ (m : ℕ). key_at (build size rs) (m - 1)) (sym n) ∙ the_last_key_of_a_page_is_that_of_its_last_record (build size rs) (omega (arith, n)) ∙ ap last_key r
