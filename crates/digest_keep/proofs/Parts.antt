-- What a cursor stands before, as one entry; part after part is raised. Assumes nothing.
use mathlib.Core.Path.{◌≡◌, refl, sym, ap, subst, ◌∙◌}
use mathlib.Core.Logic.{inl, inr}
use mathlib.Core.List.{List}
use Prim.Native.Nat.{ℕ, ◌+◌, ◌-◌, ◌≤◌, ◌<◌}
use native.Mathlib.Omega.{arith}
use native.Mathlib.Decide.{dec_lt}
use lib.ListN.{length, get_or}
use borrow.Author.Tests.{lt-ltb, le-ltb, eq-eqb, ne_eqb}
use Rattle.leaf_node.specs.Record.{total}
use Rattle.leaf_node.specs.Page.{count, records_between}
use Rattle.leaf_work.specs.declared.Entry.{Entry}
use Rattle.leaf_work.specs.Lent.{blank, chunk_of}
use Rattle.leaf_cut.specs.declared.Span.{Span}
use Rattle.leaf_cut.specs.declared.Cursor.{Cursor}
use Rattle.leaf_cut.specs.Records.{records_from, entry_records}
use Rattle.leaf_cut.proofs.Parts.{a_chunk_holds_its_records}
use Rattle.leaf_write.proofs.Parts.{part_from}
use Rattle.leaf_raise.specs.declared.Top.{Top}
use Rattle.leaf_raise.specs.Raising.{lower_by, Room, Raised, RangeThere, EntryBelow}
use Rattle.leaf_merge.specs.Lifting.{full_top, skip_at, Raises}
use Rattle.leaf_merge.proofs.Walk.{PartBelow}
use Rattle.leaf_merge.proofs.Walk.{Lifted, nothing_is_lifted, the_part_is_below, the_part_has_room, a_part_is_lifted, all_is_lifted}
use Rattle.leaf_entries.specs.Lists.{behind_of}
use Rattle.digest_keep.specs.Lifting.{Raisable, place_before, part_of, RestThere}
use Rattle.digest_keep.proofs.Lists.{either_kind}

-- ---- the cursor of a part, and its entry

module _ (e : Entry) (n : ℕ) (s : Span) (at : Cursor) where
  pub an_entry_is_its_part : at.entry < s.used → e ≡ part_of e n s at
  unfolding part_of
  an_entry_is_its_part l = rw (lt-ltb at.entry s.used l)

  module _ (h : RestThere n s at) (l : s.used ≤ at.entry) where
    pub the_rest_is_its_part : (x : Entry) → x ≡ chunk_of (s.low + at.skip) n 0 → x ≡ part_of e n s at
    unfolding part_of
    the_rest_is_its_part x q = rw (le-ltb at.entry s.used l) q

-- ---- one part as an entry

-- a range of the base as a chunk
module _ (store page : List ℕ) (from to sum : ℕ) where
  no_insert : (chunk_of from to sum).kind ≡ 1 → ⊥
  no_insert e = omega (arith, e)

  pub a_range_is_a_chunk : from ≤ to → entry_records store page (chunk_of from to sum) 0 ≡ records_between page from to
  a_range_is_a_chunk h =
      let z : from + 0 ≡ from = omega arith in
      a_chunk_holds_its_records store page (chunk_of from to sum) 0 no_insert (omega (arith, h)) ∙ ap (λ (i : ℕ). records_between page i to) z

  pub a_range_can_be_raised : (top : Top) → RangeThere page from to → EntryBelow page (chunk_of from to sum) 0 top
  a_range_can_be_raised top r =
      let z : from ≡ from + 0 = omega arith in
      record { insert = λ k. absurd (no_insert k); chunk = λ n. subst (λ (i : ℕ). RangeThere page i to) z r }

module _ (store page : List ℕ) (e : Entry) (skip : ℕ) (top : Top) (below : EntryBelow page e skip top) where
  behind_an_insert : e.kind ≡ 1 → behind_of skip e ≡ e
  unfolding behind_of
  behind_an_insert k = rw (eq-eqb e.kind 1 k)

  behind_a_chunk : (e.kind ≡ 1 → ⊥) → behind_of skip e ≡ chunk_of (e.from + skip) e.to 0
  unfolding behind_of
  behind_a_chunk n = rw (ne_eqb e.kind 1 n, le-ltb e.to (e.from + skip) (below.chunk n).order)

  pub behind_it_are_the_same_records : entry_records store page (behind_of skip e) 0 ≡ entry_records store page e skip
  behind_it_are_the_same_records = elim (either_kind e) [
    | inl k ↦ rw (behind_an_insert k, (below.insert k).0)
    | inr n ↦ rw (behind_a_chunk n) (a_range_is_a_chunk store page (e.from + skip) e.to 0 (below.chunk n).order ∙ sym (a_chunk_holds_its_records store page e skip n (below.chunk n).order))
  ]

  pub what_is_behind_it_can_be_raised : EntryBelow page (behind_of skip e) 0 top
  what_is_behind_it_can_be_raised = elim (either_kind e) [
    | inl k ↦ rw (behind_an_insert k) (rw (below.insert k).0 at below)
    | inr n ↦ rw (behind_a_chunk n) (a_range_can_be_raised store page (e.from + skip) e.to 0 top (below.chunk n))
  ]

module _ (list : List Entry) (store page : List ℕ) (s : Span) (at : Cursor) (top : Top) (h : PartBelow list page s at top) where
  abbrev here : Entry
  here = part_of (behind_of at.skip (get_or list at.entry blank)) (count page) s at

  module _ (l : at.entry < s.used) where
    below : EntryBelow page (get_or list at.entry blank) at.skip top
    below = h.entry l

    in_the_list : here ≡ behind_of at.skip (get_or list at.entry blank)
    unfolding part_of
    in_the_list = rw (lt-ltb at.entry s.used l)

  in_the_base : s.used ≤ at.entry → here ≡ chunk_of (s.low + at.skip) (count page) 0
  unfolding part_of
  in_the_base l = rw (le-ltb at.entry s.used l)

  pub a_part_is_an_entry : part_from s list store page at ≡ entry_records store page here 0
  unfolding part_from
  a_part_is_an_entry = elim (dec_lt at.entry s.used) [
    | yes l ↦
        rw (lt-ltb at.entry s.used l) (sym (ap (λ (e : Entry). entry_records store page e 0) (in_the_list l)
        ∙ behind_it_are_the_same_records store page (get_or list at.entry blank) at.skip top (below l)))
    | no l ↦
        let m : s.used ≤ at.entry = omega arith in
        rw (le-ltb at.entry s.used m) (sym (ap (λ (e : Entry). entry_records store page e 0) (in_the_base m) ∙ a_range_is_a_chunk store page (s.low + at.skip) (count page) 0 (h.rest m).order))
  ]

  pub it_can_be_raised : EntryBelow page here 0 top
  it_can_be_raised = elim (dec_lt at.entry s.used) [
    | yes l ↦ rw (in_the_list l) (what_is_behind_it_can_be_raised store page (get_or list at.entry blank) at.skip top (below l))
    | no l ↦ let m : s.used ≤ at.entry = omega arith in rw (in_the_base m) (a_range_can_be_raised store page (s.low + at.skip) (count page) 0 top (h.rest m))
  ]

-- ---- part after part

pub a_top_at_the_stores_end : (store : List ℕ) (top : Top) → top.at ≡ length store → top ≡ full_top top.entry store top.to
a_top_at_the_stores_end store top e = ap (λ (n : ℕ). record { entry = top.entry; to = top.to; at = n }) e

module _ (list₀ : List Entry) (store₀ page : List ℕ) (s : Span) (at : Cursor) (bytes room : ℕ) (g : Raises list₀ store₀ page s at bytes room) (parts : ℕ) (many : parts ≡ s.used + 1 - at.entry) where
  -- the last i parts are raised
  pub record PartsRaised (list : List Entry) (store : List ℕ) (top : Top) (i : ℕ) : Type 0 where
    pub upto : i ≤ parts
    pub lifted : Lifted list₀ store₀ page s at bytes room list store top (s.used + 1 - i)

  pub no_part_is_raised : (full : Top) → full ≡ record { entry = room; to = bytes; at = length store₀ } → PartsRaised list₀ store₀ full 0
  no_part_is_raised full e = let z : s.used + 1 ≡ s.used + 1 - 0 = omega arith in rw e (record { upto = omega arith; lifted = subst (Lifted list₀ store₀ page s at bytes room list₀ store₀ (full_top room store₀ bytes)) z (nothing_is_lifted list₀ store₀ page s at bytes room g) })

  module _ (list : List Entry) (store : List ℕ) (top : Top) (i : ℕ) (w : PartsRaised list store top i) where
    pub all_parts_are_raised : parts ≤ i
        → Raised list₀ store₀ (full_top room store₀ bytes) (records_from s list₀ store₀ page at) list store
    all_parts_are_raised past =
        all_is_lifted list₀ store₀ page s at bytes room g list store top (s.used + 1 - i) w.lifted (omega (arith, past, many, g.there.entry_in))

    module _ (less : i < parts) where
      abbrev e : ℕ
      e = s.used + 1 - i

      behind : at.entry < e
      behind = omega (arith, less, many)

      entry_is : e - 1 ≡ s.used - i
      entry_is = omega (arith, less, many)

      abbrev cursor : Cursor
      cursor = record { entry = e - 1; skip = skip_at at (e - 1) }

      cursor_is : cursor ≡ place_before s at i
      cursor_is = λ j. record { entry = entry_is j; skip = skip_at at (entry_is j) }

      is_below : PartBelow list page s cursor top
      is_below = the_part_is_below list₀ store₀ page s at bytes room g list store top e w.lifted behind (skip_at at (e - 1)) refl

      has_room : Room list store top (part_from s list store page cursor)
      has_room = the_part_has_room list₀ store₀ page s at bytes room g list store top e w.lifted behind (skip_at at (e - 1)) refl

      module _ (n : ℕ) (m : n ≡ count page) (place : Cursor) (p : place ≡ place_before s at i) where
        same : cursor ≡ place
        same = cursor_is ∙ sym p

        part_below : PartBelow list page s place top
        part_below = subst (λ (c : Cursor). PartBelow list page s c top) same is_below

        pub the_rest_is_there : RestThere n s place
        the_rest_is_there = record { rest = λ l. rw m (part_below.rest l).order }

        module _ (entry : Entry) (x : entry ≡ behind_of place.skip (get_or list place.entry blank)) (part : Entry) (y : part ≡ part_of entry n s place) where
          abbrev taken : Entry
          taken = part_of (behind_of place.skip (get_or list place.entry blank)) (count page) s place

          part_is : part ≡ taken
          part_is = y ∙ ap (λ (z : Entry). part_of z n s place) x ∙ ap (λ (k : ℕ). part_of (behind_of place.skip (get_or list place.entry blank)) k s place) m

          records_are : part_from s list store page cursor ≡ entry_records store page part 0
          records_are =
              ap (part_from s list store page) same ∙ a_part_is_an_entry list store page s place top part_below ∙ ap (λ (z : Entry). entry_records store page z 0) (sym part_is)

          pub the_part_can_be_raised : Raisable list store page part top
          the_part_can_be_raised = record { below = subst (λ (z : Entry). EntryBelow page z 0 top) (sym part_is) (it_can_be_raised list store page s place top part_below); room = rw records_are at has_room }

          pub one_part_more_is_raised : (next : Top) (list' : List Entry) (store' : List ℕ)
              → (Raised list store top (entry_records store page part 0) list' store')
              × (next ≡ lower_by top (length (entry_records store page part 0)) (total (entry_records store page part 0)))
              → PartsRaised list' store' next (i + 1)
          one_part_more_is_raised next list' store' f =
              let z : e - 1 ≡ s.used + 1 - (i + 1) = omega arith in
              let r : Raised list store top (part_from s list store page cursor) list' store' = rw records_are f.0 in
              let n : next ≡ lower_by top (length (part_from s list store page cursor)) (total (part_from s list store page cursor)) = rw records_are f.1 in
              record {
                upto = omega (arith, less);
                lifted = subst (Lifted list₀ store₀ page s at bytes room list' store' next) z
                    (a_part_is_lifted list₀ store₀ page s at bytes room g list store top e w.lifted behind (skip_at at (e - 1)) refl list' store' next r n);
              }
