-- All records from a cursor on are raised, part after part from the last one: nothing is covered before it is read. Assumes nothing.
use mathlib.Core.Path.{◌≡◌, refl, sym, ap, ◌∙◌, subst}
use mathlib.Core.Bool.{Bool, true, false, cond}
use mathlib.Core.List.{List, [], ◌∷◌, ◌++◌, append-nil}
use Prim.Native.Nat.{ℕ, zero, suc, ◌+◌, ◌-◌, ◌≤◌, ◌<◌}
use native.Mathlib.Omega.{arith}
use native.Mathlib.Decide.{dec_lt}
use native.Mathlib.Nat.{add-zero}
use native.Mathlib.Numerals.{add-one}
use lib.Dec.{eqb, ltb}
use lib.ListN.{length, get_or, take, drop, take-append-drop}
use lib.Seq.{drop-drop}
use borrow.Author.Tests.{lt-ltb, le-ltb, eqb-true, eqb-false}
use Rattle.leaf_node.specs.Record.{Record, values, total}
use Rattle.leaf_node.specs.Page.{count, records_between}
use Rattle.leaf_node.proofs.Lengths.{length_values}
use Rattle.leaf_work.specs.declared.Entry.{Entry}
use Rattle.leaf_work.specs.Lent.{blank}
use Rattle.leaf_work.specs.Tests.{is_set}
use Rattle.leaf_work.specs.Pending.{held, insert_place}
use Rattle.leaf_work.specs.Digest.{inserts_of}
use Rattle.leaf_cut.specs.declared.Span.{Span}
use Rattle.leaf_cut.specs.declared.Cursor.{Cursor}
use Rattle.leaf_cut.specs.Sizes.{entry_sizes, listed_sizes, index_of}
use Rattle.leaf_cut.specs.Records.{spanned_records, records_from, entry_records}
use Rattle.leaf_cut.specs.Steps.{Spread, CursorIn}
use Rattle.leaf_cut.proofs.Cursors.{one_more_entry}
use Rattle.leaf_cut.proofs.Walking.{an_entry_has_a_record}
use Rattle.leaf_cut.proofs.Parts.{what_is_kept_is_spread, an_insert_holds_itself, a_chunk_holds_its_records, the_records_from_an_entry_on, the_records_from_the_rest_on}
use Rattle.leaf_write.proofs.Parts.{part_from}
use Rattle.leaf_write.specs.Filling.{EntryThere}
use Rattle.leaf_write.proofs.Leaves.{the_entry_of_a_cursor_can_be_read}
use Rattle.leaf_move.proofs.Under.{get_d_under, part_under}
use Rattle.leaf_raise.specs.declared.Top.{Top}
use Rattle.leaf_raise.specs.Raising.{lower_by, Room, Raised, RangeThere, EntryBelow}
use Rattle.leaf_merge.specs.Lifting.{full_top, skip_at, Raises}
use Rattle.leaf_raise.proofs.Inserts.{inserts_many}
use Rattle.leaf_raise.proofs.Raising.{nothing_is_raised, below_no_record, list_as_long, store_as_long, room_for_the_last, tops_join, room_is_left, both_are_raised}
use Rattle.leaf_merge.proofs.Parts.{the_entry_of_the_cursor_skips, another_entry_does_not_skip}

-- leaf_write's `PartThere`, but of what is below the top, and the base's rest may be empty
pub record PartBelow (list : List Entry) (page : List ℕ) (s : Span) (at : Cursor) (top : Top) : Type 0 where
  pub entry_in : at.entry < s.used → at.entry < length list
  pub entry : at.entry < s.used → EntryBelow page (get_or list at.entry blank) at.skip top
  pub rest : s.used ≤ at.entry → RangeThere page (s.low + at.skip) (count page)

-- the kept records from entry e on; the base's rest is entry `used`, and none are behind it
unfoldable pub kept_from : Span → List Entry → List ℕ → List ℕ → Cursor → ℕ → List Record
kept_from s list store page at e = cond (ltb s.used e) [] (records_from s list store page (record { entry = e; skip = skip_at at e }))

skip_above : (at : Cursor) (j : ℕ) → at.entry < j → skip_at at j ≡ 0
skip_above at j h = sym (another_entry_does_not_skip at j (λ (e : j ≡ at.entry). omega arith))

same_cursor : (at : Cursor) (j : ℕ) → j ≡ at.entry → ◌≡◌ {A = Cursor} (record { entry = j; skip = skip_at at j }) at
same_cursor at j e = let q : skip_at at j ≡ at.skip = sym (the_entry_of_the_cursor_skips at j e) in λ i. record { entry = e i; skip = q i }

listed_rises : (page : List ℕ) (list : List Entry) (i k : ℕ) → i + k ≤ length list → length (listed_sizes page i list) ≤ length (listed_sizes page (i + k) list)
listed_rises page list i zero h = rw (add-zero i) (omega arith)
listed_rises page list i (suc k) h =
    let e : i + suc k ≡ suc (i + k) = omega arith in
    rw e (omega (arith, listed_rises page list i k (omega arith), one_more_entry page (i + k) list (omega arith)))

same_insert : (store store₀ page : List ℕ) (entry : Entry) → take (entry.to - entry.from) (drop entry.from store) ≡ take (entry.to - entry.from) (drop entry.from store₀)
    → held store page (insert_place entry) ∷ [] ≡ held store₀ page (insert_place entry) ∷ []
unfolding held
same_insert store store₀ page entry v = λ i. record { key = entry.key; value = v i; flag = is_set entry.flag } ∷ []

-- a cursor's record comes before those of a later entry
pub a_later_entry_has_later_records : (list : List Entry) (page : List ℕ) (s : Span) (at : Cursor) → s.used ≤ length list → CursorIn list page s at → (j : ℕ) → at.entry < j → j ≤ s.used
    → index_of list page at ≤ index_of list page (record { entry = j; skip = 0 })
a_later_entry_has_later_records list page s at u there j l high = unfold index_of in
    let n : at.entry + 1 + (j - (at.entry + 1)) ≡ j = omega arith in
    let o : at.entry + 1 + (j - (at.entry + 1)) ≤ length list = omega (arith, u) in
    let r : length (listed_sizes page (at.entry + 1) list) ≤ length (listed_sizes page j list) = rw n at (listed_rises page list (at.entry + 1) (j - (at.entry + 1)) o) in
    let m : length (listed_sizes page (at.entry + 1) list) ≡ length (listed_sizes page at.entry list) + length (entry_sizes page (get_or list at.entry blank)) =
    rw (add-one at.entry) (one_more_entry page at.entry list (omega (arith, u))) in
    omega (arith, r, m, there.skip_in (omega arith))

-- ---- what is raised

module _ (list₀ : List Entry) (store₀ page : List ℕ) (s : Span) (at : Cursor) (bytes room : ℕ) where
  -- the kept records from entry e on are raised
  pub record Lifted (list : List Entry) (store : List ℕ) (top : Top) (e : ℕ) : Type 0 where
    pub entry_in : at.entry ≤ e
    pub end_in : e ≤ s.used + 1
    pub raised : Raised list₀ store₀ (full_top room store₀ bytes) (kept_from s list₀ store₀ page at e) list store
    pub top_is : top ≡ lower_by (full_top room store₀ bytes) (length (kept_from s list₀ store₀ page at e)) (total (kept_from s list₀ store₀ page at e))
    pub list_long : length list ≡ length list₀
    pub store_long : length store ≡ length store₀

  module _ (g : Raises list₀ store₀ page s at bytes room) where
    abbrev full : Top
    full = full_top room store₀ bytes

    abbrev from : Cursor → List Record
    from c = records_from s list₀ store₀ page c

    abbrev kept : ℕ → List Record
    kept e = kept_from s list₀ store₀ page at e

    abbrev cursor : ℕ → Cursor
    cursor j = record { entry = j; skip = skip_at at j }

    spread : Spread list₀ page s
    spread = what_is_kept_is_spread list₀ store₀ page s g.kept

    kept_here : (j : ℕ) → j ≤ s.used → kept j ≡ from (cursor j)
    unfolding kept_from
    kept_here j h = rw (le-ltb s.used j h)

    kept_none : (e : ℕ) → s.used < e → kept e ≡ []
    unfolding kept_from
    kept_none e h = rw (lt-ltb s.used e h)

    pub nothing_is_lifted : Lifted list₀ store₀ (record { entry = room; to = bytes; at = length store₀ }) (s.used + 1)
    nothing_is_lifted =
        let z : kept (s.used + 1) ≡ [] = kept_none (s.used + 1) (omega arith) in
        record {
          entry_in = omega (arith, g.there.entry_in);
          end_in = omega arith;
          raised = rw z (nothing_is_raised list₀ store₀ full);
          top_is = rw z (below_no_record full);
          list_long = refl;
          store_long = refl;
        }

    -- ---- the cursor of an entry

    module _ (j : ℕ) (low : at.entry ≤ j) (high : j ≤ s.used) where
      cursor_in : CursorIn list₀ page s (cursor j)
      cursor_in = elim (dec_lt at.entry j) [
        | yes l ↦ rw (skip_above at j l) (record {
          entry_in = high;
          skip_in = λ (m : j < s.used). an_entry_has_a_record page (get_or list₀ j blank) s (spread.entries j m) g.kept.rest;
          rest_in = λ (e : j ≡ s.used). omega (arith, g.kept.rest.low_in);
        })
        | no l ↦ subst (λ (c : Cursor). CursorIn list₀ page s c) (sym (same_cursor at j (omega arith))) g.there
      ]

      index_rises : index_of list₀ page at ≤ index_of list₀ page (cursor j)
      index_rises = elim (dec_lt at.entry j) [ yes l ↦ above l | no l ↦ ap_le (same_cursor at j (omega arith)) ]
        where
          above : at.entry < j → index_of list₀ page at ≤ index_of list₀ page (cursor j)
          above l = rw (skip_above at j l) (a_later_entry_has_later_records list₀ page s at g.kept.used_in g.there j l high)

          ap_le : cursor j ≡ at → index_of list₀ page at ≤ index_of list₀ page (cursor j)
          ap_le e = omega (arith, ap (index_of list₀ page) e)

      all_room : Room list₀ store₀ full (from at)
      all_room = record {
        list_in = g.room_in;
        store_in = omega arith;
        few = g.few;
        short = omega (arith, g.bytes_is);
        fits = omega (arith, g.bytes_is, g.short);
      }

      part_room : Room list₀ store₀ full (from (cursor j))
      part_room =
          let d : ℕ = index_of list₀ page (cursor j) - index_of list₀ page at in
          let e : drop d (from at) ≡ from (cursor j) = behind d (omega (arith, index_rises)) in
          let q : Room list₀ store₀ full (take d (from at) ++ drop d (from at)) = rw (take-append-drop d (from at)) all_room in
          rw (← e) (room_for_the_last list₀ store₀ full (take d (from at)) (drop d (from at)) q)
        where
          behind : (d : ℕ) → index_of list₀ page at + d ≡ index_of list₀ page (cursor j) → drop d (from at) ≡ from (cursor j)
          behind d e = unfold records_from in drop-drop d (index_of list₀ page at) (spanned_records s list₀ store₀ page) ∙ ap (λ (i : ℕ). drop i (spanned_records s list₀ store₀ page)) e

      -- what comes behind its part
      behind_an_entry : (e : ℕ) → e ≡ j + 1 → j < s.used → kept e ≡ from (record { entry = j + 1; skip = 0 })
      behind_an_entry e q l =
          let z : skip_at at e ≡ 0 = skip_above at e (omega arith) in
          kept_here e (omega arith) ∙ ap from (λ i. record { entry = q i; skip = z i })

      behind_the_rest : (e : ℕ) → e ≡ j + 1 → s.used ≤ j → kept e ≡ []
      behind_the_rest e q l = kept_none e (omega arith)

      rest_at : s.used ≤ j → j ≡ s.used
      rest_at l = omega arith

      together : (e : ℕ) → e ≡ j + 1 → from (cursor j) ≡ part_from s list₀ store₀ page (cursor j) ++ kept e
      together e q = elim (dec_lt j s.used) [ yes l ↦ in_an_entry l | no l ↦ in_the_rest (omega arith) ]
        where
          in_an_entry : j < s.used → from (cursor j) ≡ part_from s list₀ store₀ page (cursor j) ++ kept e
          in_an_entry l = unfold part_from in
              rw (lt-ltb j s.used l, behind_an_entry e q l) (the_records_from_an_entry_on list₀ store₀ page s g.kept (cursor j) l (cursor_in.skip_in l))

          in_the_rest : s.used ≤ j → from (cursor j) ≡ part_from s list₀ store₀ page (cursor j) ++ kept e
          in_the_rest l = unfold part_from in
              rw (le-ltb j s.used l, behind_the_rest e q l, append-nil (records_between page (s.low + skip_at at j) (count page)))
              (the_records_from_the_rest_on list₀ store₀ page s g.kept (cursor j) (rest_at l) (cursor_in.rest_in (rest_at l)))

      rest_there : s.used ≤ j → RangeThere page (s.low + skip_at at j) (count page)
      rest_there l = record {
        order = cursor_in.rest_in (rest_at l);
        there = omega arith;
        laid = λ m.
            g.kept.rest.laid (omega arith);
      }

      entry_there : j < s.used → EntryThere store₀ page (get_or list₀ j blank) (skip_at at j)
      entry_there l = the_entry_of_a_cursor_can_be_read list₀ store₀ page s g.kept (cursor j) cursor_in l

    -- ---- one part more

    module _ (list : List Entry) (store : List ℕ) (top : Top) (e : ℕ) (w : Lifted list store top e) where
      pub all_is_lifted : e ≤ at.entry → Raised list₀ store₀ (full_top room store₀ bytes) (records_from s list₀ store₀ page at) list store
      all_is_lifted h =
          let q : e ≡ at.entry = omega (arith, w.entry_in) in
          let k : kept e ≡ from at = kept_here e (omega (arith, g.there.entry_in)) ∙ ap from (same_cursor at e q) in
          rw k at w.raised

      module _ (h : at.entry < e) (k : ℕ) (q : k ≡ skip_at at (e - 1)) where
        low_in : at.entry ≤ e - 1
        low_in = omega arith

        high_in : e - 1 ≤ s.used
        high_in = omega (arith, w.end_in)

        next_is : e ≡ e - 1 + 1
        next_is = omega arith

        abbrev here : Cursor
        here = record { entry = e - 1; skip = k }

        here_is : here ≡ cursor (e - 1)
        here_is = λ i. record { entry = e - 1; skip = q i }

        both_room : Room list₀ store₀ full (part_from s list₀ store₀ page (cursor (e - 1)) ++ kept e)
        both_room = rw (together (e - 1) low_in high_in e next_is) at (part_room (e - 1) low_in high_in)

        kept_few : length (inserts_of (bytes - total (kept e)) (kept e)) ≡ length (kept e)
        kept_few = inserts_many (bytes - total (kept e)) (kept e)

        kept_room : Room list₀ store₀ full (kept e)
        kept_room = room_for_the_last list₀ store₀ full (part_from s list₀ store₀ page (cursor (e - 1))) (kept e) both_room

        module _ (l : e - 1 < s.used) where
          kept_is : kept e ≡ from (record { entry = e - 1 + 1; skip = 0 })
          kept_is = behind_an_entry (e - 1) low_in high_in e next_is l

          below : e - 1 + 1 + length (kept e) ≤ room
          below = rw kept_is (g.entries_below (e - 1 + 1) (omega arith) (omega arith))

          entry_same : get_or list (e - 1) blank ≡ get_or list₀ (e - 1) blank
          entry_same =
              rw w.raised.list_is (get_d_under list₀ room (inserts_of (bytes - total (kept e)) (kept e)) (omega (arith, kept_few, kept_room.few)) g.room_in (e - 1) blank (omega (arith, kept_few, below)))

          abbrev entry : Entry
          entry = get_or list₀ (e - 1) blank

          value_below : entry.kind ≡ 1 → entry.to + total (kept e) ≤ length store₀
          value_below o = rw kept_is (g.values_below (e - 1) l o)

          value_same : entry.kind ≡ 1 → take (entry.to - entry.from) (drop entry.from store) ≡ take (entry.to - entry.from) (drop entry.from store₀)
          value_same o =
              rw w.raised.store_is (part_under store₀ (length store₀) (values (kept e)) (omega (arith, length_values (kept e), kept_room.fits)) (omega arith) entry.from (entry.to - entry.from) (omega (arith, length_values (kept e), value_below o, ((entry_there (e - 1) low_in high_in l).insert o).1.order)))

          records_same : entry_records store page entry (skip_at at (e - 1)) ≡ entry_records store₀ page entry (skip_at at (e - 1))
          records_same = go (eqb entry.kind 1) refl
            where
              go : (b : Bool) → eqb entry.kind 1 ≡ b → entry_records store page entry (skip_at at (e - 1)) ≡ entry_records store₀ page entry (skip_at at (e - 1))
              go true t =
                  let o : entry.kind ≡ 1 = eqb-true _ _ t in
                  let z : skip_at at (e - 1) ≡ 0 = ((entry_there (e - 1) low_in high_in l).insert o).0 in
                  an_insert_holds_itself store page entry (skip_at at (e - 1)) o z ∙ same_insert store store₀ page entry (value_same o)
                  ∙ sym (an_insert_holds_itself store₀ page entry (skip_at at (e - 1)) o z)
              go false t =
                  let o : entry.kind ≡ 1 → ⊥ = eqb-false _ _ t in
                  let c = ((entry_there (e - 1) low_in high_in l).chunk o).order in
                  a_chunk_holds_its_records store page entry (skip_at at (e - 1)) o c ∙ sym (a_chunk_holds_its_records store₀ page entry (skip_at at (e - 1)) o c)

          entry_below : EntryBelow page (get_or list (e - 1) blank) k top
          entry_below =
              let y = entry_there (e - 1) low_in high_in l in
              let a : top.at ≡ length store₀ - total (kept e) = ap (λ (t : Top). t.at) w.top_is in
              rw (entry_same, q) (record {
                insert = λ o. ((y.insert o).0, record { order = (y.insert o).1.order; there = omega (arith, a, value_below o) });
                chunk = λ o. record { order = (y.chunk o).order; there = (y.chunk o).there; laid = λ m. (y.chunk o).laid };
              })

        part_same : part_from s list store page here ≡ part_from s list₀ store₀ page (cursor (e - 1))
        part_same = rw here_is (elim (dec_lt (e - 1) s.used) [ yes l ↦ in_an_entry l | no l ↦ in_the_rest (omega arith) ])
          where
            in_an_entry : e - 1 < s.used → part_from s list store page (cursor (e - 1)) ≡ part_from s list₀ store₀ page (cursor (e - 1))
            in_an_entry l = unfold part_from in rw (lt-ltb (e - 1) s.used l, entry_same l) (records_same l)

            in_the_rest : s.used ≤ e - 1 → part_from s list store page (cursor (e - 1)) ≡ part_from s list₀ store₀ page (cursor (e - 1))
            in_the_rest l = unfold part_from in rw (le-ltb (e - 1) s.used l)

        pub the_part_is_below : PartBelow list page s (record { entry = e - 1; skip = k }) top
        the_part_is_below = record {
          entry_in = λ l. omega (arith, w.list_long, g.kept.used_in);
          entry = entry_below;
          rest = λ l. rw q (rest_there (e - 1) low_in high_in l);
        }

        pub the_part_has_room : Room list store top (part_from s list store page (record { entry = e - 1; skip = k }))
        the_part_has_room =
            rw (part_same, w.top_is) (room_is_left list₀ store₀ full (part_from s list₀ store₀ page (cursor (e - 1))) (kept e) both_room list store w.raised)

        pub a_part_is_lifted : (list' : List Entry) (store' : List ℕ) (next : Top) → Raised list store top (part_from s list store page (record { entry = e - 1; skip = k })) list' store'
            → next ≡ lower_by top (length (part_from s list store page (record { entry = e - 1; skip = k }))) (total (part_from s list store page (record { entry = e - 1; skip = k })))
            → Lifted list' store' next (e - 1)
        a_part_is_lifted list' store' next r n =
            let part : List Record = part_from s list₀ store₀ page (cursor (e - 1)) in
            let j : kept (e - 1) ≡ part ++ kept e = kept_here (e - 1) high_in ∙ together (e - 1) low_in high_in e next_is in
            let r₀ : Raised list store (lower_by full (length (kept e)) (total (kept e))) part list' store' = rw (part_same, w.top_is) at r in
            let both : Raised list₀ store₀ full (part ++ kept e) list' store' = both_are_raised list₀ store₀ full part (kept e) both_room list store w.raised list' store' r₀ in
            let n₀ : next ≡ lower_by (lower_by full (length (kept e)) (total (kept e))) (length part) (total part) = rw (part_same, w.top_is) at n in
            record {
              entry_in = low_in;
              end_in = omega (arith, w.end_in);
              raised = rw j both;
              top_is = rw j (n₀ ∙ tops_join list₀ store₀ full part (kept e) both_room);
              list_long = list_as_long list₀ store₀ full (part ++ kept e) both_room list' store' both;
              store_long = store_as_long list₀ store₀ full (part ++ kept e) both_room list' store' both;
            }
