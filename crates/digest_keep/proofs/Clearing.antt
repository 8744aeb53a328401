-- What is pending and what is kept is told by the used entries and the list's length: clearing the entries behind them changes neither.
-- Assumes nothing.
use mathlib.Core.Path.{◌≡◌, refl, sym, ap, ◌∙◌}
use mathlib.Core.Logic.{inl, inr}
use mathlib.Core.List.{List, [], ◌∷◌, ◌++◌}
use Prim.Native.Nat.{ℕ, zero, suc, ◌+◌, ◌-◌, ◌≤◌, ◌<◌}
use native.Mathlib.Omega.{arith}
use native.Mathlib.Decide.{dec_lt}
use lib.ListN.{length, get_or, take, drop, replicate, length-append, length-replicate}
use lib.Seq.{length-take-le, take_at, drop_at}
use Rattle.std.proofs.lemmas.List.{get_or-take}
use Rattle.leaf_model.specs.Basics.{cleared}
use Rattle.leaf_work.specs.declared.Work.{Work}
use Rattle.leaf_work.specs.declared.Entry.{Entry}
use Rattle.leaf_work.specs.Lent.{blank}
use Rattle.leaf_work.specs.Pending.{places_of, rest_places, records_held, pending_of}
use Rattle.leaf_work.specs.Ready.{Ready}
use Rattle.leaf_cut.specs.declared.Cursor.{Cursor}
use Rattle.leaf_cut.specs.declared.Gauge.{Gauge}
use Rattle.leaf_cut.specs.Sizes.{entry_sizes, listed_sizes, index_of}
use Rattle.leaf_cut.specs.Records.{span_of, spanned_records, records_from}
use Rattle.leaf_cut.specs.Steps.{CursorIn}
use Rattle.leaf_merge.specs.Keeping.{RoomToKeep, kept_records, Keeps, KeptAs}
use Rattle.digest_keep.specs.Lifting.{room_by}
use Rattle.digest_keep.specs.Keeping.{KeepsIn}

-- ---- a list that is cleared

module _ {A : Type 0} (z : A) (l : List A) (n : ℕ) (h : n ≤ length l) (x : List A) (e : x ≡ cleared z l n) where
  first_long : length (take n l) ≡ n
  first_long = length-take-le n l h

  in_two : x ≡ take n l ++ replicate (length l - n) z
  unfolding cleared
  in_two = e

  pub a_cleared_list_is_as_long : length x ≡ length l
  a_cleared_list_is_as_long = ap length in_two ∙ length-append (take n l) (replicate (length l - n) z) ∙ omega (arith, first_long, length-replicate (length l - n) z, h)

  pub a_cleared_list_begins_as_it_did : take n x ≡ take n l
  a_cleared_list_begins_as_it_did = ap (take n) in_two ∙ take_at (take n l) (replicate (length l - n) z) n first_long

  pub a_cleared_list_is_clear_behind : drop n x ≡ replicate (length x - n) z
  a_cleared_list_is_clear_behind =
      ap (drop n) in_two ∙ drop_at (take n l) (replicate (length l - n) z) n first_long ∙ ap (λ (k : ℕ). replicate (k - n) z) (sym a_cleared_list_is_as_long)

-- ---- the same used entries

-- the first j entries' sizes are told by the first n entries
first_sizes : (page : List ℕ) (j n : ℕ) (list : List Entry) → j ≤ n → listed_sizes page j (take n list) ≡ listed_sizes page j list
unfolding listed_sizes
first_sizes page zero n list h = refl
first_sizes page (suc j) zero list h = absurd (omega arith)
first_sizes page (suc j) (suc n) [] h = refl
first_sizes page (suc j) (suc n) (e ∷ es) h = ap (λ (x : List ℕ). entry_sizes page e ++ x) (first_sizes page j n es (omega arith))

module _ (w : Work) (list list' : List Entry) (store page : List ℕ) (long : length list' ≡ length list) (same : take w.used list' ≡ take w.used list) where
  pub the_same_is_pending : pending_of w list' store page ≡ pending_of w list store page
  the_same_is_pending = ap (λ (es : List Entry). records_held store page (places_of page es ++ rest_places w page)) same

  entry_same : (i : ℕ) → i < w.used → get_or list' i blank ≡ get_or list i blank
  entry_same i h = sym (get_or-take w.used list' i blank h) ∙ ap (λ (es : List Entry). get_or es i blank) same ∙ get_or-take w.used list i blank h

  sizes_same : (j : ℕ) → j ≤ w.used → listed_sizes page j list' ≡ listed_sizes page j list
  sizes_same j h = sym (first_sizes page j w.used list' h) ∙ ap (listed_sizes page j) same ∙ first_sizes page j w.used list h

  pub the_same_is_ready : Ready w list store page → Ready w list' store page
  the_same_is_ready r = record {
    used_in = omega (arith, long, r.used_in);
    filled_in = r.filled_in;
    low_in = r.low_in;
    entries = λ i h. rw (entry_same i h) (r.entries i h);
    used_few = r.used_few;
    filled_few = r.filled_few;
    few = r.few;
    store_room = r.store_room;
    laid = r.laid;
    rising = r.rising;
    list_there = omega (arith, long, r.list_there);
    list_short = omega (arith, long, r.list_short);
    store_short = r.store_short;
    page_short = r.page_short;
  }

  -- ---- from a cursor on

  module _ (at : Cursor) (there : CursorIn list page (span_of w) at) where
    the_same_stands_before : index_of list' page at ≡ index_of list page at
    unfolding index_of
    the_same_stands_before = ap (λ (x : List ℕ). length x + at.skip) (sizes_same at.entry there.entry_in)

    pub the_same_is_kept : kept_records w list' store page at ≡ kept_records w list store page at
    unfolding records_from spanned_records
    the_same_is_kept = rw (the_same_stands_before, same)

    pub the_cursor_is_in : CursorIn list' page (span_of w) at
    the_cursor_is_in = record {
      entry_in = there.entry_in;
      skip_in = λ l. rw (entry_same at.entry l) (there.skip_in l);
      rest_in = there.rest_in;
    }

    pub what_is_kept_is_as_it_was : (list₂ : List Entry) (store₂ : List ℕ) → KeptAs w list' store page at list₂ store₂ → KeptAs w list store page at list₂ store₂
    what_is_kept_is_as_it_was list₂ store₂ k = record { list_is = rw (the_same_is_kept, long) at k.list_is; store_is = rw the_same_is_kept at k.store_is }

-- ---- room

module _ (used kept pending entries : ℕ) (u : used ≤ entries) (r : RoomToKeep entries pending used kept) where
  abbrev room : ℕ
  room = room_by used kept entries

  bounds : (room ≤ entries) × (used ≤ room) × (room < entries → room ≡ used + kept)
  bounds = (omega arith, omega (arith, u), λ h. omega (arith, h))

  -- room in the list is room beside the used entries, or behind the list's end there is nothing
  pub room_beside_the_used : (room ≤ entries) × (used ≤ room) × RoomToKeep room pending used kept
  room_beside_the_used = (
    bounds.0,
    bounds.1,
    elim (dec_lt room entries) [
      | yes h ↦ inr (omega (arith, bounds.2 h))
      | no h ↦ elim r [ inl a ↦ inl (omega (arith, h, a)) | inr a ↦ inr (omega (arith, h, a)) ]
    ],
  )

-- ---- any list

module _ (w : Work) (list : List Entry) (store page : List ℕ) (at : Cursor) (left : Gauge) (k : Keeps w list store page at left (length list))
    (list₁ : List Entry) (e : list₁ ≡ cleared blank list w.used) where
  long : length list₁ ≡ length list
  long = a_cleared_list_is_as_long blank list w.used k.ready.used_in list₁ e

  same : take w.used list₁ ≡ take w.used list
  same = a_cleared_list_begins_as_it_did blank list w.used k.ready.used_in list₁ e

  pending : pending_of w list₁ store page ≡ pending_of w list store page
  pending = the_same_is_pending w list list₁ store page long same

  kept : kept_records w list₁ store page at ≡ kept_records w list store page at
  kept = the_same_is_kept w list list₁ store page long same at k.there

  room_in_it : RoomToKeep (length list₁) (length (pending_of w list₁ store page)) w.used left.count
  room_in_it = rw (long, pending) k.room_is

  pub a_cleared_list_can_be_kept : KeepsIn w list₁ store page at left
  a_cleared_list_can_be_kept =
      let r = the_same_is_ready w list list₁ store page long same k.ready in
      let b = room_beside_the_used w.used left.count (length (pending_of w list₁ store page)) (length list₁) r.used_in room_in_it in
      record {
        keeps = record {
          ready = r;
          in_place = rw same k.in_place;
          unused = k.unused;
          counted = rw pending k.counted;
          summed = rw pending k.summed;
          there = the_cursor_is_in w list list₁ store page long same at k.there;
          left_counted = rw kept k.left_counted;
          left_summed = rw kept k.left_summed;
          room_in = b.0;
          used_room = b.1;
          room_is = b.2;
        };
        unused = a_cleared_list_is_clear_behind blank list w.used k.ready.used_in list₁ e;
      }

  pub any_list_is_kept : (list₂ : List Entry) (store₂ : List ℕ) → KeptAs w list₁ store page at list₂ store₂ → KeptAs w list store page at list₂ store₂
  any_list_is_kept = what_is_kept_is_as_it_was w list list₁ store page long same at k.there
