-- A leaf that is loaded, from its opening or next base to its digest. Assumes nothing.
use mathlib.Core.Path.{◌≡◌, refl, sym, ap, subst, ◌∙◌}
use mathlib.Core.Bool.{true, false, cond, ◌&&◌}
use mathlib.Core.Option.{Option, some}
use mathlib.Core.List.{List, [], ◌++◌}
use Prim.Native.Nat.{ℕ, ◌+◌, ◌-◌, ◌≤◌}
use native.Mathlib.Omega.{arith}
use lib.Dec.{leb}
use lib.ListN.{length, take, drop, replicate, length-drop}
use lib.Seq.{take-length}
use borrow.Author.Tests.{leb-true, ne_eqb}
use Rattle.bit_ops.specs.Steps.{zeros}
use Rattle.std.specs.Prelude.{Result, Ok, Err, Some, None, is_some}
use Rattle.std.specs.Prelude as std
use Rattle.refusal.specs.declared.Refusal.{Refusal}
use Rattle.refusal.specs.Numbers.{number}
use Rattle.refusal.proofs.Refused.{refused}
use Rattle.leaf_node.specs.Limits.{PageSize, record_limit}
use Rattle.leaf_node.specs.Record.{Record}
use Rattle.leaf_node.specs.Page.{run, records_between, records}
use Rattle.leaf_node.specs.Good.{Good}
use Rattle.leaf_node.specs.Fits.{All}
use Rattle.leaf_node.proofs.Reading.{good_pages_are_laid}
use Rattle.leaf_model.specs.Basics.{nonempty}
use Rattle.leaf_model.specs.Work.{zero_key, below_cutoff}
use Rattle.leaf_model.specs.Claim.{Le}
use Rattle.leaf_model.proofs.Tests.{clash, and_left, and_right}
use Rattle.leaf_work.specs.declared.Work.{Work}
use Rattle.leaf_work.specs.declared.Entry.{Entry}
use Rattle.leaf_work.specs.Tests.{key_if}
use Rattle.leaf_work.specs.Lent.{blank, most_entries, most_store_bytes, room_right, cutoff_of, separator_of}
use Rattle.leaf_work.specs.Pending.{pending_of}
use Rattle.leaf_work.specs.Verdict.{first, base_verdict}
use Rattle.leaf_work.proofs.Laid.{an_ignored_page_has_no_records}
use Rattle.leaf_work.proofs.BasePages.{base_page_is_good}
use Rattle.leaf_open.proofs.Openings.{a_page_has_4096_bytes}
use Rattle.row_turns.specs.Changes.{Edit}
use Rattle.row_turns.specs.Turns.{room_verdict, rooms_verdict, load_verdict}
use Rattle.row_changes.specs.Packed.{edits_of}
use Rattle.row_changes.specs.Tests.{values_length}
use Rattle.row_work.specs.Loaded.{Loaded, Waits}
use Rattle.row_work.proofs.Opening as opening
use Rattle.row_work.proofs.NextBase as following
use Rattle.row_ingest.specs.declared.Taking.{Taking}
use Rattle.row_ingest.specs.Taking.{ChangesThere, ChangesTaken}
use Rattle.row_leaf.specs.declared.LeafAt.{LeafAt}
use Rattle.row_leaf.specs.declared.RowAt.{RowAt}
use Rattle.row_leaf.specs.Leaf.{is_based, is_cut, cutoff_key, cutoff_in, page_in, BaseThere, Begins, begin_verdict, begun_by, LeafBegun}
use Rattle.row_leaf.specs.Load.{Between, DigestThere, LeavesGiven, kept_by, begins_at, changes_in, edits_in, pending_in, LoadThere, LeafLoaded}

abbrev q : PageSize 4096
q = a_page_has_4096_bytes

room_is : (n m : ℕ) → room_right 4096 n m ≡ true → (record_limit 4096 + 1 ≤ n) × (4096 ≤ m)
room_is n m e =
    let a₁ = and_left (leb (record_limit 4096 + 1) n && leb n most_entries && leb 4096 m) (leb m most_store_bytes) e in
    let a₂ = and_left (leb (record_limit 4096 + 1) n && leb n most_entries) (leb 4096 m) a₁ in
    (leb-true _ _ (and_left (leb (record_limit 4096 + 1) n) (leb n most_entries) a₂), leb-true 4096 m (and_right (leb (record_limit 4096 + 1) n && leb n most_entries) (leb 4096 m) a₁))

first_accepted : (n y : ℕ) → n ≡ 0 → first n y ≡ y
first_accepted n y e = rw (e, first)

first_refused : (n y : ℕ) → (n ≡ 0 → ⊥) → first n y ≡ n
first_refused n y e = rw (ne_eqb n 0 e, first)

no_records : records [] ≡ []
unfolding records records_between run
no_records = rw an_ignored_page_has_no_records

-- the part of a slice from v on
pub part_is : (xs : List ℕ) (v : ℕ) → take (length xs - v) (drop v xs) ≡ drop v xs
part_is xs v = ap (λ (n : ℕ). take n (drop v xs)) (sym (length-drop v xs)) ∙ take-length (drop v xs)

-- what is pending when the changes es of a leaf begin: what waits, and the leaf's records; they begin at s, and end at c. v is what refuses the work w
record Begun (list : List Entry) (store page : List ℕ) (es : List Edit) (kept : List Record) (s : List ℕ) (c : Option (List ℕ)) (v : ℕ) (w : Work) : Type 0 where
  number_is : v ≡ cond (nonempty kept) (room_verdict (length list) (length store) (kept ++ records page)) 0
  loaded : v ≡ 0 → Loaded 4096 w list store page es
  separator : v ≡ 0 → separator_of w ≡ s
  cutoff : v ≡ 0 → cutoff_of w ≡ c
  pending : v ≡ 0 → pending_of w list store page ≡ kept ++ records page

module _ (at : RowAt) (leaf : LeafAt) (list : List Entry) (store pages : List ℕ) (changes : List (List ℕ)) (to : ℕ) (values area tickets : List ℕ)
    (h : LoadThere at leaf list store pages changes to values area tickets) where
  abbrev page : List ℕ
  page = page_in leaf pages

  abbrev es : List Edit
  es = edits_in at changes to values

  abbrev kept : List Record
  kept = kept_by at list store

  abbrev n : ℕ
  n = length list

  abbrev m : ℕ
  m = length store

  pub the_base_is_there : BaseThere leaf pages
  the_base_is_there = record {
    there = h.leaf_right.page_there;
    good = λ e. base_page_is_good 4096 q page leaf.separator (cutoff_in leaf) (h.leaf_right.base e);
  }

  based : is_some at.waiting ≡ true → is_based leaf ≡ true
  based e = go leaf.page refl
    where
      go : (o : std.Option ℕ) → leaf.page ≡ o → is_based leaf ≡ true
      go (Some from) f = rw f
      go None f = clash e (ap is_some (h.leaf_right.bare f).2)

  pub it_can_begin : Begins at page n m
  it_can_begin = record {
    laid = λ e. good_pages_are_laid 4096 page q (good e);
    few = λ e. omega (arith, (good e).few, (room_is n m h.room).0);
    short = λ e. omega (arith, (good e).sized, (room_is n m h.room).1);
  }
    where
      good : is_some at.waiting ≡ true → Good 4096 page
      good e = base_page_is_good 4096 q page leaf.separator (cutoff_in leaf) (h.leaf_right.base (based e))

  -- ---- what is pending when its changes begin

  module _ (w : Work) (e : at.waiting ≡ Some w) where
    abbrev P : List Record
    P = pending_of w list store []

    rests : Between (Some w) list store P (separator_of w) (some leaf.separator)
    rests = rw e at h.rests

    waits : Waits 4096 w list store P (separator_of w) (some leaf.separator)
    waits = rests.1

    b : base_verdict 4096 page leaf.separator (cutoff_in leaf) ≡ 0
    b = h.leaf_right.base (based (rw e))

    begun_waiting : Begun list store page es kept (begins_at at leaf) (cutoff_in leaf) (begin_verdict at leaf page n m) (begun_by at leaf)
    begun_waiting =
        let room = following.the_room_decides 4096 q w list store P (separator_of w) leaf.separator waits page (is_cut leaf) (cutoff_key leaf) b in
        let o = following.a_next_base_comes_behind_what_waits 4096 q w list store P (separator_of w) leaf.separator waits page (is_cut leaf) (cutoff_key leaf) b in
        rw e (record {
          number_is = rw rests.0 room;
          loaded = λ z. following.a_next_base_is_loaded 4096 q w list store P (separator_of w) leaf.separator waits page (is_cut leaf) (cutoff_key leaf) b z
              h.leaf_right.separator_long h.leaf_right.cutoff_long es h.right h.above h.below;
          separator = λ z. (o z h.leaf_right.separator_long h.leaf_right.cutoff_long).separator;
          cutoff = λ z. (o z h.leaf_right.separator_long h.leaf_right.cutoff_long).cutoff;
          pending = λ z. (o z h.leaf_right.separator_long h.leaf_right.cutoff_long).pending_is;
        })

  begun_opened : at.waiting ≡ None → Begun list store page es kept (begins_at at leaf) (cutoff_in leaf) (begin_verdict at leaf page n m) (begun_by at leaf)
  begun_opened e = go leaf.page refl
    where
      rests_lem : Between None list store [] leaf.separator (some leaf.separator)
      rests_lem = rw e at h.rests

      lc : list ≡ replicate (length list) blank
      lc = rests_lem.1

      sc : store ≡ zeros (length store)
      sc = rests_lem.2

      go : (o : std.Option ℕ) → leaf.page ≡ o → Begun list store page es kept (begins_at at leaf) (cutoff_in leaf) (begin_verdict at leaf page n m) (begun_by at leaf)
      go (Some from) f =
          let b = h.leaf_right.base (rw f) in
          let l = opening.an_opened_leaf_is_loaded 4096 q list store lc sc h.room page leaf.separator (is_cut leaf) (cutoff_key leaf) es b h.leaf_right.separator_long h.leaf_right.cutoff_long h.right h.above h.below in
          let o = opening.an_opened_leaf_has_its_records 4096 q list store lc sc h.room page leaf.separator (is_cut leaf) (cutoff_key leaf) es b h.leaf_right.separator_long h.leaf_right.cutoff_long h.right h.above h.below in
          let g : is_based leaf ≡ true = rw f in
          rw (e, g) (record { number_is = refl; loaded = λ z. l; separator = λ z. o.separator; cutoff = λ z. o.cutoff; pending = λ z. o.pending_is })
      go None f =
          let b = h.leaf_right.bare f in
          let above : All (λ x. Le zero_key x.key) es = subst (λ (k : List ℕ). All (λ x. Le k x.key) es) b.0 h.above in
          let below : All (λ x. below_cutoff (key_if false zero_key) x.key ≡ true) es = rw b.1 at h.below in
          let l = opening.an_empty_row_is_loaded 4096 q list store lc sc h.room es h.right above below in
          let o = opening.an_empty_row_has_no_records 4096 q list store lc sc h.room es h.right above below in
          rw (e, f, b.0, b.1) (record { number_is = refl; loaded = λ z. l; separator = λ z. o.separator; cutoff = λ z. o.cutoff; pending = λ z. o.pending_is ∙ sym no_records })

  begun : Begun list store page es kept (begins_at at leaf) (cutoff_in leaf) (begin_verdict at leaf page n m) (begun_by at leaf)
  begun = go at.waiting refl
    where
      go : (o : std.Option Work) → at.waiting ≡ o → Begun list store page es kept (begins_at at leaf) (cutoff_in leaf) (begin_verdict at leaf page n m) (begun_by at leaf)
      go (Some w) e = begun_waiting w e
      go None e = begun_opened e

  -- what the changes come to, where what waits had room
  abbrev rooms : ℕ
  rooms = rooms_verdict n m es (kept ++ records page)

  whole_is : load_verdict n m kept (records page) es ≡ first (begin_verdict at leaf page n m) rooms
  whole_is = ap (λ (x : ℕ). first x rooms) (sym begun.number_is)

  pub what_waits_has_no_room : (r : Refusal) → LeafBegun at leaf page n m (Err r) → LeafLoaded at leaf list store pages changes to values area tickets (Err r) list store area tickets
  what_waits_has_no_room r b = record {
    number_is = sym (whole_is ∙ ap (λ (x : ℕ). first x rooms) (sym b.number_is) ∙ first_refused (number r) rooms (refused r));
    given = tt;
  }

  module _ (w : Work) (b : LeafBegun at leaf page n m (Ok w)) where
    none : begin_verdict at leaf page n m ≡ 0
    none = sym b.number_is

    whole_rooms : load_verdict n m kept (records page) es ≡ rooms
    whole_rooms = whole_is ∙ first_accepted (begin_verdict at leaf page n m) rooms none

    pending_here : pending_of w list store page ≡ kept ++ records page
    pending_here = rw b.work_is (begun.pending none)

    abbrev cs : List (List ℕ)
    cs = changes_in at changes to

    abbrev vs : List ℕ
    vs = take (length values - at.value) (drop at.value values)

    edits_are : edits_of cs vs ≡ es
    edits_are = ap (edits_of cs) (part_is values at.value)

    pub its_changes_are_there : ChangesThere w list store page cs vs
    its_changes_are_there = record {
      values_there = subst (λ (x : List ℕ). values_length cs ≤ length x) (sym (part_is values at.value)) h.values_there;
      loaded = rw (edits_are, b.work_is) (begun.loaded none);
    }

    -- ---- its changes were taken

    rooms_are : rooms_verdict n m (edits_of cs vs) (pending_of w list store page) ≡ load_verdict n m kept (records page) es
    rooms_are = rw (edits_are, pending_here) (sym whole_rooms)

    pub its_changes_have_no_room : (r : Refusal) (list' : List Entry) (store' : List ℕ) → ChangesTaken w list store page cs vs (Err r) list' store'
        → LeafLoaded at leaf list store pages changes to values area tickets (Err r) list' store' area tickets
    its_changes_have_no_room r list' store' k = record { number_is = k.number_is ∙ rooms_are; given = tt }

    module _ (t : Taking) (list' : List Entry) (store' : List ℕ) (k : ChangesTaken w list store page cs vs (Ok t) list' store') where
      pending_is : pending_of t.work list' store' page ≡ pending_in at leaf list store pages es
      pending_is = k.made.changed.pending_is ∙ rw (edits_are, pending_here)

      -- where the row stands behind its changes
      abbrev behind : RowAt
      behind = record { leaves = at.leaves; last = at.last; change = to; value = at.value + t.value; waiting = at.waiting }

      pub it_can_be_given : DigestThere behind t.work list' store' page area tickets
      it_can_be_given = record { loaded = k.made.loaded; area_room = rw pending_is h.area_room; ticket_room = rw pending_is h.ticket_room }

      pub a_leaf_is_loaded : (x : RowAt) (list'' : List Entry) (store'' area'' tickets'' : List ℕ)
          → LeavesGiven behind (separator_of t.work) (cutoff_of t.work) (pending_of t.work list' store' page) to (at.value + t.value) area tickets x list'' store'' area'' tickets''
          → LeafLoaded at leaf list store pages changes to values area tickets (Ok x) list'' store'' area'' tickets''
      a_leaf_is_loaded x list'' store'' area'' tickets'' f = record {
        number_is = k.number_is ∙ rooms_are;
        given = rw (← pending_is, ← (k.made.changed.separator ∙ separator_here), ← (k.made.changed.cutoff ∙ cutoff_here), ← k.made.value_is) (of_the_row f);
      }
        where
          separator_here : separator_of w ≡ begins_at at leaf
          separator_here = rw b.work_is (begun.separator none)

          cutoff_here : cutoff_of w ≡ cutoff_in leaf
          cutoff_here = rw b.work_is (begun.cutoff none)

          of_the_row : {s : List ℕ} {c : Option (List ℕ)} {rs : List Record} {v : ℕ} → LeavesGiven behind s c rs to v area tickets x list'' store'' area'' tickets'' → LeavesGiven at s c rs to v area tickets x list'' store'' area'' tickets''
          of_the_row g = record {
            leaves_are = g.leaves_are;
            last_is = g.last_is;
            change_is = g.change_is;
            value_is = g.value_is;
            area_is = g.area_is;
            tickets_are = g.tickets_are;
            rests = g.rests;
          }
