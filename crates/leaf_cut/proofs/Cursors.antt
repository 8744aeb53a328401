-- A leaf that comes from cursor to cursor, and ends. Assumes nothing.
use mathlib.Core.Path.{◌≡◌, refl, sym, ap, ◌∙◌}
use mathlib.Core.Bool.{Bool, true, false, true≢false}
use mathlib.Core.List.{List, [], ◌∷◌, ◌++◌, append-nil, append_assoc}
use Prim.Native.Nat.{ℕ, zero, suc, ◌+◌, ◌-◌, ◌*◌, ◌≤◌, ◌<◌}
use native.Mathlib.Omega.{arith}
use lib.Dec.{eqb, ltb, leb}
use lib.ListN.{length, get_or, drop, length-append}
use lib.Seq.{drop-append-le, drop-append-add}
use borrow.Author.Tests.{eq-eqb, ne_eqb, ltb-true, ltb-false, leb-true, leb-false}
use Rattle.leaf_node.specs.Page.{length_at, run}
use Rattle.leaf_work.specs.declared.Entry.{Entry}
use Rattle.leaf_work.specs.Lent.{blank}
use Rattle.leaf_node.specs.Steps.{Counted}
use Rattle.leaf_node.proofs.Lengths.{length_run}
use Rattle.leaf_cut.specs.declared.Cursor.{Cursor}
use Rattle.leaf_cut.specs.declared.Ended.{Ended}
use Rattle.leaf_cut.specs.Sizes.{cut_sizes, entry_sizes, listed_sizes, sizes_behind, count_behind, passed_by}
use Rattle.leaf_cut.proofs.Ranges.{records_are_few}
use Rattle.leaf_cut.proofs.Ending.{ends_before, ends_behind, ends_later}

-- ---- where a leaf ends among some records, whatever comes behind it

module _ (limit target : ℕ) where
  pub record Within (xs ys : List ℕ) (n b : ℕ) : Type 0 where
    pub from : n ≤ (cut_sizes limit target n b xs).leaf.count
    pub upto : (cut_sizes limit target n b xs).leaf.count ≤ n + length xs
    pub cut : (cut_sizes limit target n b xs).cut ≡ true → cut_sizes limit target n b (xs ++ ys) ≡ cut_sizes limit target n b xs
    pub whole : (cut_sizes limit target n b xs).cut ≡ false → (cut_sizes limit target n b xs).leaf.count ≡ n + length xs
    pub on : (cut_sizes limit target n b xs).cut ≡ false
        → cut_sizes limit target n b (xs ++ ys) ≡ cut_sizes limit target (cut_sizes limit target n b xs).leaf.count (cut_sizes limit target n b xs).leaf.bytes ys
    pub below : (cut_sizes limit target n b xs).cut ≡ false → 34 * n + b < target → 34 * (cut_sizes limit target n b xs).leaf.count + (cut_sizes limit target n b xs).leaf.bytes < target

  true_is_not_false : {A : Type 0} → true ≡ false → A
  true_is_not_false e = absurd (true≢false e)

  -- a record that ends the leaf
  ends : (x : ℕ) (xs ys : List ℕ) (n b c d : ℕ) → ((zs : List ℕ) → cut_sizes limit target n b (x ∷ zs) ≡ record { cut = true; leaf = record { count = c; bytes = d } }) → n ≤ c → c ≤ n + suc (length xs)
      → Within (x ∷ xs) ys n b
  ends x xs ys n b c d q h k =
      let m : (cut_sizes limit target n b (x ∷ xs)).leaf.count ≡ c = ap (λ (e : Ended). e.leaf.count) (q xs) in
      let t : (cut_sizes limit target n b (x ∷ xs)).cut ≡ true = ap (λ (e : Ended). e.cut) (q xs) in
      record {
        from = omega arith;
        upto = omega arith;
        cut = λ f. q (xs ++ ys) ∙ sym (q xs);
        whole = λ f. true_is_not_false (sym t ∙ f);
        on = λ f. true_is_not_false (sym t ∙ f);
        below = λ f. true_is_not_false (sym t ∙ f);
      }

  goes_on : (x : ℕ) (xs ys : List ℕ) (n b : ℕ) → ((zs : List ℕ) → cut_sizes limit target n b (x ∷ zs) ≡ cut_sizes limit target (n + 1) (b + x) zs) → 34 * (n + 1) + (b + x) < target
      → Within xs ys (n + 1) (b + x) → Within (x ∷ xs) ys n b
  goes_on x xs ys n b q l w =
      let m : (cut_sizes limit target n b (x ∷ xs)).leaf.count ≡ (cut_sizes limit target (n + 1) (b + x) xs).leaf.count = ap (λ (e : Ended). e.leaf.count) (q xs) in
      let d : (cut_sizes limit target n b (x ∷ xs)).leaf.bytes ≡ (cut_sizes limit target (n + 1) (b + x) xs).leaf.bytes = ap (λ (e : Ended). e.leaf.bytes) (q xs) in
      let t : (cut_sizes limit target n b (x ∷ xs)).cut ≡ (cut_sizes limit target (n + 1) (b + x) xs).cut = ap (λ (e : Ended). e.cut) (q xs) in
      record {
        from = omega (arith, w.from);
        upto = omega (arith, w.upto);
        cut = λ f. q (xs ++ ys) ∙ w.cut (sym t ∙ f) ∙ sym (q xs);
        whole = λ f. omega (arith, w.whole (sym t ∙ f));
        on = λ f. q (xs ++ ys) ∙ w.on (sym t ∙ f) ∙ sym (ap (λ (k : ℕ). cut_sizes limit target k (cut_sizes limit target n b (x ∷ xs)).leaf.bytes ys) m ∙ ap (λ (k : ℕ). cut_sizes limit target (cut_sizes limit target (n + 1) (b + x) xs).leaf.count k ys) d);
        below = λ f g. omega (arith, w.below (sym t ∙ f) l);
      }

  pub a_leaf_among_some_records : (xs ys : List ℕ) (n b : ℕ) → Within xs ys n b
  a_leaf_among_some_records [] ys n b = unfold cut_sizes in record {
    from = omega arith;
    upto = omega arith;
    cut = λ f. true_is_not_false (sym f);
    whole = λ f. omega arith;
    on = λ f. refl;
    below = λ f g. g;
  }
  a_leaf_among_some_records (x ∷ xs) ys n b =
      test (a_leaf_among_some_records xs ys (n + 1) (b + x)) (ltb limit (34 * (n + 1) + (b + x))) (leb target (34 * (n + 1) + (b + x))) refl refl
    where
      test : Within xs ys (n + 1) (b + x) → (t u : Bool) → ltb limit (34 * (n + 1) + (b + x)) ≡ t → leb target (34 * (n + 1) + (b + x)) ≡ u → Within (x ∷ xs) ys n b
      test ih true u e f = ends x xs ys n b n b (λ zs. ends_before limit target n b x zs (ltb-true limit (34 * (n + 1) + (b + x)) e)) (omega arith) (omega arith)
      test ih false true e f =
          ends x xs ys n b (n + 1) (b + x) (λ zs. ends_behind limit target n b x zs (ltb-false limit (34 * (n + 1) + (b + x)) e) (leb-true target (34 * (n + 1) + (b + x)) f)) (omega arith) (omega arith)
      test ih false false e f =
          let l = leb-false target (34 * (n + 1) + (b + x)) f in
          goes_on x xs ys n b (λ zs. ends_later limit target n b x zs (ltb-false limit (34 * (n + 1) + (b + x)) e) l) l ih

  pub a_leaf_does_not_shrink : (xs : List ℕ) (n b : ℕ) (e : Ended) → e ≡ cut_sizes limit target n b xs → n ≤ e.leaf.count
  a_leaf_does_not_shrink xs n b e q = let m = ap (λ (x : Ended). x.leaf.count) q in omega (arith, m, (a_leaf_among_some_records xs [] n b).from)

  pub a_leaf_takes_no_more_than_there_is : (xs : List ℕ) (n b : ℕ) (e : Ended) → e ≡ cut_sizes limit target n b xs → e.leaf.count ≤ n + length xs
  a_leaf_takes_no_more_than_there_is xs n b e q = let m = ap (λ (x : Ended). x.leaf.count) q in omega (arith, m, (a_leaf_among_some_records xs [] n b).upto)

-- ---- the records from a cursor on: those of its entry, and those behind it

module _ (page : List ℕ) where
  pub entry_split : (j used : ℕ) (list : List Entry) (k : ℕ) (tail : List ℕ) → j < used → used ≤ length list → k ≤ length (entry_sizes page (get_or list j blank))
      → drop (length (listed_sizes page j list) + k) (listed_sizes page used list ++ tail)
      ≡ drop k (entry_sizes page (get_or list j blank)) ++ drop (length (listed_sizes page (suc j) list) + 0) (listed_sizes page used list ++ tail)
  unfolding listed_sizes
  entry_split j zero list k tail h l m = absurd (omega arith)
  entry_split j (suc used) [] k tail h l m = absurd (omega arith)
  entry_split zero (suc used) (r ∷ rs) k tail h l m =
      let x : List ℕ = entry_sizes page r in
      let e : length (x ++ []) + 0 ≡ length x + 0 = ap (λ (y : List ℕ). length y + 0) (append-nil x) in
      rw (append_assoc x (listed_sizes page used rs) tail, e, drop-append-add x (listed_sizes page used rs ++ tail) 0)
      (let z : 0 + k ≡ k = omega arith in rw z (drop-append-le k x (listed_sizes page used rs ++ tail) m))
  entry_split (suc j) (suc used) (r ∷ rs) k tail h l m =
      let x : List ℕ = entry_sizes page r in
      let a : length (x ++ listed_sizes page j rs) + k ≡ length x + (length (listed_sizes page j rs) + k) = simp length-append (omega arith) in
      let b : length (x ++ listed_sizes page (suc j) rs) + 0 ≡ length x + (length (listed_sizes page (suc j) rs) + 0) = simp length-append (omega arith) in
      rw (
        a,
        b,
        append_assoc x (listed_sizes page used rs) tail,
        drop-append-add x (listed_sizes page used rs ++ tail) (length (listed_sizes page j rs) + k),
        drop-append-add x (listed_sizes page used rs ++ tail) (length (listed_sizes page (suc j) rs) + 0),
      )
      (entry_split j used rs k tail (omega arith) (omega arith) m)

  pub one_more_entry : (j : ℕ) (list : List Entry) → j < length list → length (listed_sizes page (suc j) list) ≡ length (listed_sizes page j list) + length (entry_sizes page (get_or list j blank))
  unfolding listed_sizes
  one_more_entry j [] h = absurd (omega arith)
  one_more_entry zero (r ∷ rs) h = simp (append-nil) (omega arith)
  one_more_entry (suc j) (r ∷ rs) h = simp length-append (omega (arith, one_more_entry j rs (omega arith)))

-- ---- one entry

pub an_entry_is_passed : (at : Cursor) (all taken : ℕ) → taken ≡ all → record { entry = at.entry + 1; skip = 0 } ≡ passed_by at all taken
unfolding passed_by
an_entry_is_passed at all taken e = rw (eq-eqb taken all e)

pub some_records_are_passed : (at : Cursor) (all taken : ℕ) → (taken ≡ all → ⊥) → record { entry = at.entry; skip = at.skip + taken } ≡ passed_by at all taken
unfolding passed_by
some_records_are_passed at all taken n = rw (ne_eqb taken all n)

pub records_behind_are_counted : (page : List ℕ) (entry : Entry) (skip : ℕ) → length (sizes_behind page entry skip) ≡ count_behind entry skip
unfolding sizes_behind count_behind
records_behind_are_counted page entry skip = go (eqb entry.kind 1) refl
  where
    go : (b : Bool) → eqb entry.kind 1 ≡ b → length (sizes_behind page entry skip) ≡ count_behind entry skip
    go true e = rw e
    go false e = rw (e, length_run (entry.to - (entry.from + skip)) (entry.from + skip) (length_at page))

module _ (page : List ℕ) (entry : Entry) (at : Cursor) (limit target n b : ℕ) (end : Ended) (to : Cursor) where
  module _ (e : entry.kind ≡ 1) where
    pub an_insert_is_consumed : end ≡ cut_sizes limit target n b ((entry.to - entry.from) ∷ []) → end ≡ cut_sizes limit target n b (sizes_behind page entry at.skip)
    unfolding sizes_behind
    an_insert_is_consumed q = rw (eq-eqb entry.kind 1 e) q

    pub an_insert_is_passed : to ≡ passed_by at 1 (end.leaf.count - n) → to ≡ passed_by at (count_behind entry at.skip) (end.leaf.count - n)
    unfolding count_behind
    an_insert_is_passed q = rw (eq-eqb entry.kind 1 e) q

  module _ (e : entry.kind ≡ 1 → ⊥) where
    pub a_chunk_is_consumed : end ≡ cut_sizes limit target n b (run (entry.to - (entry.from + at.skip)) (entry.from + at.skip) (length_at page)) → end ≡ cut_sizes limit target n b (sizes_behind page entry at.skip)
    unfolding sizes_behind
    a_chunk_is_consumed q = rw (ne_eqb entry.kind 1 e) q

    pub a_chunk_is_passed : to ≡ passed_by at (entry.to - (entry.from + at.skip)) (end.leaf.count - n) → to ≡ passed_by at (count_behind entry at.skip) (end.leaf.count - n)
    unfolding count_behind
    a_chunk_is_passed q = rw (ne_eqb entry.kind 1 e) q

-- what a leaf takes of some records is no more than they are
module _ (limit target n b : ℕ) (end : Ended) where
  pub one_record_is_taken_at_most : (v : ℕ) → end ≡ cut_sizes limit target n b (v ∷ []) → end.leaf.count - n ≤ 65536
  one_record_is_taken_at_most v q = omega (arith, a_leaf_takes_no_more_than_there_is limit target (v ∷ []) n b end q)

  module _ (page : List ℕ) (records : ℕ) (c : Counted page records) (from to : ℕ) (h : to ≤ records) (q : end ≡ cut_sizes limit target n b (run (to - from) from (length_at page))) where
    pub few_records_are_taken : end.leaf.count - n ≤ to - from
    few_records_are_taken = omega (arith, a_leaf_takes_no_more_than_there_is limit target (run (to - from) from (length_at page)) n b end q, length_run (to - from) from (length_at page))

    pub a_chunk_has_few_records : end.leaf.count - n ≤ 65536
    a_chunk_has_few_records = omega (arith, few_records_are_taken, records_are_few page records c)
