-- One leaf off the pending records: from entry to entry, then through the base's rest. Assumes nothing.
use mathlib.Core.Path.{◌≡◌, refl, sym, ap, ◌∙◌}
use mathlib.Core.Bool.{Bool, true, false}
use mathlib.Core.List.{List, [], ◌∷◌, ◌++◌}
use Prim.Native.Nat.{ℕ, suc, ◌+◌, ◌-◌, ◌≤◌, ◌<◌}
use native.Mathlib.Omega.{arith}
use native.Mathlib.Decide.{dec_lt}
use native.Mathlib.Numerals.{add-one}
use lib.Dec.{eqb}
use lib.ListN.{length, get_or, drop, length-drop}
use lib.Seq.{drop-append-add}
use borrow.Author.Tests.{eq-eqb, ne_eqb, eqb-true, eqb-false}
use Rattle.leaf_node.specs.Page.{count, length_at, run}
use Rattle.leaf_node.proofs.Lengths.{length_run}
use Rattle.leaf_work.specs.declared.Entry.{Entry}
use Rattle.leaf_work.specs.Lent.{blank}
use Rattle.leaf_work.specs.Ready.{EntryIn}
use Rattle.leaf_cut.specs.declared.Gauge.{Gauge}
use Rattle.leaf_cut.specs.declared.Aim.{Aim}
use Rattle.leaf_cut.specs.declared.Span.{Span}
use Rattle.leaf_cut.specs.declared.Cursor.{Cursor}
use Rattle.leaf_cut.specs.declared.Ended.{Ended}
use Rattle.leaf_cut.specs.declared.Taken.{Taken}
use Rattle.leaf_cut.specs.Sizes.{cut_sizes, entry_sizes, listed_sizes, pending_sizes, index_of, sizes_from, sizes_behind, count_behind, passed_by}
use Rattle.leaf_cut.specs.Steps.{Rest, Spread, CursorIn, EntryAt, Walked, Leafed}
use Rattle.leaf_cut.proofs.Ranges.{drop_run}
use Rattle.leaf_cut.proofs.Cursors.{Within, a_leaf_among_some_records, entry_split, one_more_entry, records_behind_are_counted}

-- ---- one entry

module _ (page : List ℕ) (entry : Entry) (s : Span) (h : EntryIn s.low 65536 entry) (r : Rest page s.low) where
  pub insert_sizes : entry.kind ≡ 1 → entry_sizes page entry ≡ (entry.to - entry.from) ∷ []
  unfolding entry_sizes
  insert_sizes e = rw (eq-eqb entry.kind 1 e)

  chunk_sizes : (entry.kind ≡ 1 → ⊥) → entry_sizes page entry ≡ run (entry.to - entry.from) entry.from (length_at page)
  unfolding entry_sizes
  chunk_sizes n = rw (ne_eqb entry.kind 1 n)

  pub chunk_many : (entry.kind ≡ 1 → ⊥) → length (entry_sizes page entry) ≡ entry.to - entry.from
  chunk_many n = ap length (chunk_sizes n) ∙ length_run (entry.to - entry.from) entry.from (length_at page)

  pub an_entry_has_a_record : 0 < length (entry_sizes page entry)
  an_entry_has_a_record = go (eqb entry.kind 1) refl
    where
      go : (b : Bool) → eqb entry.kind 1 ≡ b → 0 < length (entry_sizes page entry)
      go true e = omega (arith, ap length (insert_sizes (eqb-true _ _ e)))
      go false e = omega (arith, chunk_many (eqb-false _ _ e), (h.chunk (eqb-false _ _ e)).0)

  pub an_entry_has_few_records : length (entry_sizes page entry) ≤ 65536
  an_entry_has_few_records = go (eqb entry.kind 1) refl
    where
      go : (b : Bool) → eqb entry.kind 1 ≡ b → length (entry_sizes page entry) ≤ 65536
      go true e = omega (arith, ap length (insert_sizes (eqb-true _ _ e)))
      go false e = omega (arith, chunk_many (eqb-false _ _ e), (h.chunk (eqb-false _ _ e)).1, r.low_in, r.few)

  module _ (k : ℕ) (l : k < length (entry_sizes page entry)) where
    behind_in : (at : Cursor) → at.skip ≡ k → at.entry ≤ 65536 → EntryAt (count page) entry at
    behind_in at e few = record {
      insert = h.insert;
      chunk = λ n. (omega (arith, chunk_many n), omega (arith, (h.chunk n).1, r.low_in));
      few = few;
      short = omega (arith, an_entry_has_few_records);
    }

    pub what_is_behind_follows_in_its_entry : sizes_behind page entry k ≡ drop k (entry_sizes page entry)
    unfolding sizes_behind
    what_is_behind_follows_in_its_entry = go (eqb entry.kind 1) refl
      where
        go : (b : Bool) → eqb entry.kind 1 ≡ b → sizes_behind page entry k ≡ drop k (entry_sizes page entry)
        go true e =
            let i = insert_sizes (eqb-true _ _ e) in
            let z : k ≡ 0 = omega (arith, ap length i) in
            rw (e, z, i)
        go false e =
            let n : entry.kind ≡ 1 → ⊥ = eqb-false _ _ e in
            let d : entry.to - (entry.from + k) ≡ entry.to - entry.from - k = omega arith in
            rw (e, chunk_sizes n, d) (sym (drop_run k (entry.to - entry.from) entry.from (length_at page) (omega (arith, chunk_many n))))

-- ---- the walk

module _ (a : Aim) (list : List Entry) (page : List ℕ) (s : Span) (sp : Spread list page s) (start : Cursor) where
  module _ (at : Cursor) (leaf : Gauge) (w : Walked a list page s start at leaf) where
    module _ (h : at.entry < s.used) where
      abbrev entry : Entry
      entry = get_or list at.entry blank

      here : EntryIn s.low 65536 entry
      here = sp.entries at.entry h

      skipped : at.skip < length (entry_sizes page entry)
      skipped = w.there.skip_in h

      pub the_entry_is_there : at.entry < length list
      the_entry_is_there = omega (arith, sp.used_in)

      pub the_entry_has_records : EntryAt (count page) entry at
      the_entry_has_records = behind_in page entry s here sp.rest at.skip skipped at refl (omega (arith, sp.used_few))

      abbrev xs : List ℕ
      xs = sizes_behind page entry at.skip

      -- the next entry's first record
      abbrev next : Cursor
      next = record { entry = at.entry + 1; skip = 0 }

      xs_are : xs ≡ drop at.skip (entry_sizes page entry)
      xs_are = what_is_behind_follows_in_its_entry page entry s here sp.rest at.skip skipped

      split : sizes_from list page s at ≡ xs ++ sizes_from list page s next
      unfolding sizes_from index_of pending_sizes
      split =
          entry_split page at.entry s.used list at.skip (run (count page - s.low) s.low (length_at page)) h sp.used_in (omega (arith, skipped)) ∙ rw (xs_are, add-one at.entry)

      many : length xs ≡ length (entry_sizes page entry) - at.skip
      many = ap length xs_are ∙ length-drop at.skip (entry_sizes page entry)

      counted : count_behind entry at.skip ≡ length xs
      counted = sym (records_behind_are_counted page entry at.skip)

      next_in : CursorIn list page s next
      next_in = record {
        entry_in = omega arith;
        skip_in = λ l. an_entry_has_a_record page (get_or list (at.entry + 1) blank) s (sp.entries (at.entry + 1) l) sp.rest;
        rest_in = λ e. omega (arith, sp.rest.low_in);
      }

      next_index : index_of list page next ≡ index_of list page at + length xs
      unfolding index_of
      next_index =
          let e : length (listed_sizes page (at.entry + 1) list) ≡ length (listed_sizes page (suc at.entry) list) = ap (λ (j : ℕ). length (listed_sizes page j list)) (add-one at.entry) in
          omega (arith, e, one_more_entry page at.entry list the_entry_is_there, many, skipped)

      module _ (m : ℕ) (few : m ≤ length xs) where
        moved : index_of list page (passed_by at (count_behind entry at.skip) m) ≡ index_of list page at + m
        unfolding passed_by
        moved = go (eqb m (count_behind entry at.skip)) refl
          where
            go : (b : Bool) → eqb m (count_behind entry at.skip) ≡ b → index_of list page (passed_by at (count_behind entry at.skip) m) ≡ index_of list page at + m
            go true e =
                let k : m ≡ length xs = eqb-true m (count_behind entry at.skip) e ∙ counted in
                rw e (next_index ∙ ap (λ (x : ℕ). index_of list page at + x) (sym k))
            go false e = unfold index_of in rw e (omega arith)

        stays : CursorIn list page s (passed_by at (count_behind entry at.skip) m)
        unfolding passed_by
        stays = go (eqb m (count_behind entry at.skip)) refl
          where
            go : (b : Bool) → eqb m (count_behind entry at.skip) ≡ b → CursorIn list page s (passed_by at (count_behind entry at.skip) m)
            go true e = rw e next_in
            go false e =
                let k : m ≡ count_behind entry at.skip → ⊥ = eqb-false m (count_behind entry at.skip) e in
                let l : m < length xs = elim (dec_lt m (length xs)) [ yes y ↦ y | no y ↦ absurd (k (omega (arith, counted))) ] in
                rw e (record { entry_in = omega arith; skip_in = λ (g : at.entry < s.used). omega (arith, l, many, skipped); rest_in = λ (g : at.entry ≡ s.used). absurd (omega arith) })

      module _ (t : Taken) (q : t.end ≡ cut_sizes a.limit a.target leaf.count leaf.bytes (sizes_behind page entry at.skip))
          (p : t.at ≡ passed_by at (count_behind entry at.skip) (t.end.leaf.count - leaf.count)) where
        within : Within a.limit a.target xs (sizes_from list page s next) leaf.count leaf.bytes
        within = a_leaf_among_some_records a.limit a.target xs (sizes_from list page s next) leaf.count leaf.bytes

        count_is : t.end.leaf.count ≡ (cut_sizes a.limit a.target leaf.count leaf.bytes xs).leaf.count
        count_is = ap (λ (e : Ended). e.leaf.count) q

        bytes_is : t.end.leaf.bytes ≡ (cut_sizes a.limit a.target leaf.count leaf.bytes xs).leaf.bytes
        bytes_is = ap (λ (e : Ended). e.leaf.bytes) q

        cut_is : t.end.cut ≡ (cut_sizes a.limit a.target leaf.count leaf.bytes xs).cut
        cut_is = ap (λ (e : Ended). e.cut) q

        few_taken : t.end.leaf.count - leaf.count ≤ length xs
        few_taken = omega (arith, count_is, within.upto)

        further : index_of list page t.at ≡ index_of list page start + t.end.leaf.count
        further = rw p (moved (t.end.leaf.count - leaf.count) few_taken ∙ omega (arith, w.further, count_is, within.from))

        there : CursorIn list page s t.at
        there = rw p (stays (t.end.leaf.count - leaf.count) few_taken)

        so_far : cut_sizes a.limit a.target 0 0 (sizes_from list page s start) ≡ cut_sizes a.limit a.target leaf.count leaf.bytes (xs ++ sizes_from list page s next)
        so_far = w.ended ∙ ap (cut_sizes a.limit a.target leaf.count leaf.bytes) split

        pub the_leaf_ends_in_the_entry : t.end.cut ≡ true → Leafed a list page s start t
        the_leaf_ends_in_the_entry c = record { ended = q ∙ sym (so_far ∙ within.cut (sym cut_is ∙ c)); further = further; there = there }

        module _ (c : t.end.cut ≡ false) where
          pub all_taken : t.at ≡ next
          unfolding passed_by
          all_taken =
              let e : t.end.leaf.count - leaf.count ≡ count_behind entry at.skip = omega (arith, count_is, counted, within.whole (sym cut_is ∙ c)) in
              p ∙ rw (eq-eqb (t.end.leaf.count - leaf.count) (count_behind entry at.skip) e)

          pub the_leaf_goes_on : Walked a list page s start t.at (t.end.leaf)
          the_leaf_goes_on = record {
            there = there;
            ended = so_far ∙ within.on (sym cut_is ∙ c) ∙ rw (all_taken, count_is, bytes_is);
            further = further;
            room = record { below = rw (count_is, bytes_is) (within.below (sym cut_is ∙ c) w.room.below); reachable = w.room.reachable; small = w.room.small };
          }

    -- the base's rest
    module _ (h : s.used ≤ at.entry) where
      at_rest : at.entry ≡ s.used
      at_rest = omega (arith, w.there.entry_in)

      pub the_rest_is_reached : s.low + at.skip ≤ count page
      the_rest_is_reached = w.there.rest_in at_rest

      abbrev ys : List ℕ
      ys = run (count page - (s.low + at.skip)) (s.low + at.skip) (length_at page)

      rest_from : sizes_from list page s at ≡ ys
      unfolding sizes_from index_of pending_sizes
      rest_from =
          let d : count page - (s.low + at.skip) ≡ count page - s.low - at.skip = omega arith in
          rw (at_rest, drop-append-add (listed_sizes page s.used list) (run (count page - s.low) s.low (length_at page)) at.skip, d)
          (drop_run at.skip (count page - s.low) s.low (length_at page) (omega (arith, the_rest_is_reached)))

      rest_index : (m : ℕ) → leaf.count ≤ m → index_of list page (record { entry = s.used; skip = at.skip + (m - leaf.count) }) ≡ index_of list page start + m
      unfolding index_of
      rest_index m k =
          let e : length (listed_sizes page at.entry list) ≡ length (listed_sizes page s.used list) = ap (λ (j : ℕ). length (listed_sizes page j list)) at_rest in
          omega (arith, e, w.further)

      pub the_leaf_ends_in_the_rest : (t : Taken) → t.end ≡ cut_sizes a.limit a.target leaf.count leaf.bytes (run (count page - (s.low + at.skip)) (s.low + at.skip) (length_at page))
          → t.at ≡ record { entry = s.used; skip = at.skip + (t.end.leaf.count - leaf.count) } → Leafed a list page s start t
      the_leaf_ends_in_the_rest t q p =
          let i = a_leaf_among_some_records a.limit a.target ys [] leaf.count leaf.bytes in
          let n : t.end.leaf.count ≡ (cut_sizes a.limit a.target leaf.count leaf.bytes ys).leaf.count = ap (λ (e : Ended). e.leaf.count) q in
          let l : length ys ≡ count page - (s.low + at.skip) = length_run (count page - (s.low + at.skip)) (s.low + at.skip) (length_at page) in
          record {
            ended = q ∙ sym (w.ended ∙ ap (cut_sizes a.limit a.target leaf.count leaf.bytes) rest_from);
            further = rw p (rest_index t.end.leaf.count (omega (arith, n, i.from)));
            there = rw p (record {
              entry_in = omega arith;
              skip_in = λ (g : s.used < s.used). absurd (omega arith);
              rest_in = λ g. omega (arith, n, i.upto, l, the_rest_is_reached);
            });
          }
