-- What a digest keeps can be raised, and raised and settled it is kept as inserts. Assumes nothing.
use mathlib.Core.Path.{◌≡◌, refl, sym, ap, ◌∙◌}
use mathlib.Core.Logic.{inl, inr}
use mathlib.Core.Bool.{true}
use mathlib.Core.List.{List, ◌++◌, append-nil}
use Prim.Native.Nat.{ℕ, suc, ◌+◌, ◌-◌, ◌≤◌, ◌<◌}
use native.Mathlib.Omega.{arith}
use native.Mathlib.Numerals.{add-one}
use lib.ListN.{length, get_or, take, drop, replicate, length-drop, get_or-replicate, take-append-drop}
use lib.Seq.{drop-length, get_or-drop}
use Rattle.bit_ops.specs.Steps.{zeros}
use Rattle.leaf_node.specs.Record.{Record, values, total}
use Rattle.leaf_node.specs.Page.{count, length_at, run}
use Rattle.leaf_node.proofs.Lengths.{length_values}
use Rattle.leaf_work.specs.declared.Entry.{Entry}
use Rattle.leaf_work.specs.Lent.{blank}
use Rattle.leaf_work.specs.declared.Work.{Work}
use Rattle.leaf_work.specs.Tests.{every, is_zero}
use Rattle.leaf_work.specs.Pending.{pending_of}
use Rattle.leaf_work.proofs.Tests.{every_all}
use Rattle.leaf_work.proofs.Decoding.{all_zero_lem}
use Rattle.leaf_work.proofs.Operations.{total_append}
use Rattle.leaf_cut.specs.declared.Span.{Span}
use Rattle.leaf_cut.specs.declared.Cursor.{Cursor}
use Rattle.leaf_cut.specs.declared.Gauge.{Gauge}
use Rattle.leaf_cut.specs.Sizes.{sum, listed_sizes, pending_sizes, index_of, sizes_from}
use Rattle.leaf_cut.specs.Records.{span_of, spanned_records, records_from}
use Rattle.leaf_cut.specs.Steps.{Kept}
use Rattle.leaf_cut.proofs.Records.{what_is_ready_is_kept, what_is_ready_is_spread, the_pending_records_by_the_lengths_of_their_values, sizes_from_a_cursor}
use Rattle.leaf_move.specs.Moving.{under, settled, Spare}
use Rattle.leaf_move.proofs.Under.{drop_under, get_d_under}
use Rattle.leaf_merge.specs.Keeping.{kept_records, Keeps}
use Rattle.leaf_raise.specs.Raising.{Room, Raised}
use Rattle.leaf_merge.specs.Lifting.{full_top, Raises}
use Rattle.leaf_raise.proofs.Raising.{store_as_long}
use Rattle.leaf_merge.proofs.Walk.{a_later_entry_has_later_records}
use Rattle.leaf_merge.proofs.Places.{total_is_a_sum, sum_append, listed_prefix, an_entry_has_no_less_than_one_record, a_listed_value_ends_below_the_sum}

-- what was put below the end comes last
top_is : {A : Type 0} (xs new ys : List A) (c : ℕ) → length new ≡ c → c ≤ length xs → ys ≡ under xs (length xs) new → length ys ≡ length xs → drop (length ys - c) ys ≡ new
top_is {A} xs new ys c l m q y =
    let a : length ys - c ≡ length xs - length new = omega (arith, l, y) in
    rw (a, q) (drop_under xs (length xs) new (omega (arith, l)) (omega arith) ∙ ap (λ (t : List A). new ++ t) (drop-length xs) ∙ append-nil new)

unused_is_zero : (store : List ℕ) (filled : ℕ) → every is_zero (drop filled store) ≡ true → (i : ℕ) → filled ≤ i → i < length store → get_or store i 0 ≡ 0
unused_is_zero store filled e i h l =
    let z : drop filled store ≡ replicate (length (drop filled store)) 0 = all_zero_lem (every_all is_zero (drop filled store) e) in
    let a : filled + (i - filled) ≡ i = omega arith in
    ap (λ (j : ℕ). get_or store j 0) (sym a) ∙ sym (get_or-drop filled store (i - filled) 0) ∙ ap (λ (x : List ℕ). get_or x (i - filled) 0) z
    ∙ get_or-replicate (length (drop filled store)) (i - filled) 0 0 (omega (arith, length-drop filled store))

-- ---- what is kept can be raised

module _ (w : Work) (list : List Entry) (store page : List ℕ) (at : Cursor) (left : Gauge) (room : ℕ) (k : Keeps w list store page at left room) where
  abbrev span : Span
  span = span_of w

  abbrev pending : List Record
  pending = pending_of w list store page

  abbrev from : Cursor → List Record
  from c = records_from span list store page c

  all_short : total pending ≤ length store
  all_short = omega (arith, k.summed, k.ready.store_room)

  from_is : (c : Cursor) → from c ≡ drop (index_of list page c) pending
  unfolding records_from spanned_records
  from_is c = refl

  from_many : (c : Cursor) → length (from c) ≡ length pending - index_of list page c
  from_many c = ap length (from_is c) ∙ length-drop (index_of list page c) pending

  from_short : (c : Cursor) → total (from c) ≤ total pending
  from_short c =
      let i : ℕ = index_of list page c in
      let e : total pending ≡ total (take i pending) + total (drop i pending) = ap total (sym (take-append-drop i pending)) ∙ total_append (take i pending) (drop i pending) in
      omega (arith, e, ap total (from_is c))

  all_is_kept : Kept list store page span
  all_is_kept = what_is_ready_is_kept w list store page k.ready

  kept_few : length (from at) ≤ room
  kept_few = elim k.room_is [ inl h ↦ omega (arith, from_many at, h) | inr h ↦ omega (arith, k.left_counted, h) ]

  entries_below : (i : ℕ) → at.entry < i → i ≤ w.used → i + length (from (record { entry = i; skip = 0 })) ≤ room
  entries_below i l h =
      let c : Cursor = record { entry = i; skip = 0 } in
      let m : index_of list page (record { entry = i; skip = 0 }) ≡ length (listed_sizes page i list) + 0 = unfold index_of in refl in
      let o = an_entry_has_no_less_than_one_record list page span (what_is_ready_is_spread w list store page k.ready) i h in
      let r = a_later_entry_has_later_records list page span at all_is_kept.used_in k.there i l h in
      elim k.room_is [
        | inl q ↦ omega (arith, m, from_many c, o, q, k.used_room)
        | inr q ↦ omega (arith, from_many c, from_many at, r, q, k.left_counted)
      ]

  sums_split : (i : ℕ) → i ≤ w.used → sum (listed_sizes page i list) + total (from (record { entry = i; skip = 0 })) ≡ total pending
  unfolding sizes_from index_of pending_sizes
  sums_split i h =
      let tail : List ℕ = run (count page - w.low) w.low (length_at page) in
      let m : ℕ = length (listed_sizes page i list) + 0 in
      let z : length (listed_sizes page i list) + 0 ≡ length (listed_sizes page i list) = omega arith in
      let p : take m (listed_sizes page w.used list ++ tail) ≡ listed_sizes page i list = rw z (listed_prefix page i w.used list tail h) in
      let q : sum (listed_sizes page w.used list ++ tail) ≡ sum (take m (listed_sizes page w.used list ++ tail)) + sum (drop m (listed_sizes page w.used list ++ tail)) =
      ap sum (sym (take-append-drop m (listed_sizes page w.used list ++ tail))) ∙ sum_append (take m (listed_sizes page w.used list ++ tail)) (drop m (listed_sizes page w.used list ++ tail)) in
      let a : total pending ≡ sum (listed_sizes page w.used list ++ tail) = total_is_a_sum pending ∙ ap sum (the_pending_records_by_the_lengths_of_their_values w list store page k.ready) in
      let b : total (from (record { entry = i; skip = 0 })) ≡ sum (drop m (listed_sizes page w.used list ++ tail)) =
      total_is_a_sum (from (record { entry = i; skip = 0 })) ∙ ap sum (sizes_from_a_cursor w list store page k.ready (record { entry = i; skip = 0 })) in
      omega (arith, a, b, q, ap sum p)

  values_below : (i : ℕ) → i < w.used → (get_or list i blank).kind ≡ 1 → (get_or list i blank).to + total (from (record { entry = i + 1; skip = 0 })) ≤ length store
  values_below i h o =
      let b = a_listed_value_ends_below_the_sum page w.filled w.low (length store) i w.used 0 list h all_is_kept.used_in all_is_kept.entries k.in_place o in
      let e : sum (listed_sizes page (i + 1) list) ≡ sum (listed_sizes page (suc i) list) = ap (λ (j : ℕ). sum (listed_sizes page j list)) (add-one i) in
      omega (arith, b, e, sums_split (i + 1) (omega arith), all_short)

  raises : Raises list store page span at left.bytes room
  raises = record {
    kept = all_is_kept;
    there = k.there;
    bytes_is = k.left_summed;
    room_in = k.room_in;
    few = kept_few;
    short = omega (arith, k.left_summed, from_short at, all_short);
    entries_below = entries_below;
    values_below = values_below;
  }

  abbrev kept : List Record
  kept = kept_records w list store page at

  pub as_many_as_have_room : left.count ≤ room
  as_many_as_have_room = omega (arith, k.left_counted, raises.few)

  pub places_from_the_start : left.bytes - total kept ≡ 0
  places_from_the_start = omega (arith, k.left_summed)

  pub what_is_kept_has_room : Room list store (full_top room store left.bytes) kept
  what_is_kept_has_room = record {
    list_in = k.room_in;
    store_in = omega arith;
    few = raises.few;
    short = omega (arith, k.left_summed);
    fits = omega (arith, k.left_summed, raises.short);
  }

  pub what_is_kept_can_be_raised : Raises list store page (span_of w) at left.bytes room
  what_is_kept_can_be_raised = raises

  -- ---- raised

  module _ (list₁ : List Entry) (store₁ : List ℕ)
      (h : Raised list store (full_top room store left.bytes) (kept_records w list store page at) list₁ store₁) where
    -- ---- the store, settled

    store_long : length store₁ ≡ length store
    store_long = store_as_long list store (full_top room store left.bytes) kept what_is_kept_has_room list₁ store₁ h

    pub the_store_can_be_settled : Spare store₁ left.bytes w.filled
    the_store_can_be_settled = record {
      few = omega (arith, store_long, raises.short);
      within = omega (arith, store_long, k.ready.filled_in);
      zero = λ i h l. below i (omega (arith, store_long, k.left_summed)) ∙ unused_is_zero store w.filled k.unused i h (omega (arith, store_long));
    }
      where
        below : (i : ℕ) → i < length store - total kept → get_or store₁ i 0 ≡ get_or store i 0
        below i l =
            let v : length (values kept) ≡ total kept = length_values kept in
            rw h.store_is (get_d_under store (length store) (values kept) (omega (arith, k.left_summed, raises.short)) (omega arith) i 0 (omega arith))

    pub the_settled_store : (store₂ : List ℕ) → store₂ ≡ settled 0 store₁ left.bytes → store₂ ≡ values kept ++ zeros (length store - total kept)
    unfolding settled
    the_settled_store store₂ q =
        let t : drop (length store₁ - left.bytes) store₁ ≡ values kept =
        top_is store (values kept) store₁ left.bytes (length_values kept ∙ sym k.left_summed) (omega (arith, raises.short)) h.store_is store_long in
        let m : length store₁ - left.bytes ≡ length store - total kept = omega (arith, store_long, k.left_summed) in
        q ∙ rw (t, m)
