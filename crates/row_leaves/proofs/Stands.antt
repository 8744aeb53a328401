-- Where the turns of a row stand before a leaf: what has been written is the new row so far, and what is lent is what the leaf's turn requires. Assumes nothing.
use Rattle.std.specs.Prelude as std
use Rattle.std.specs.Prelude.{Result, Ok, Err, Some, None}
use Rattle.refusal.specs.declared.Refusal.{Refusal}
use Rattle.refusal.specs.Numbers.{number_of}
use Rattle.refusal.proofs.Refused.{refused}
use mathlib.Core.Path.{◌≡◌, refl, sym, ap, subst, ◌∙◌}
use mathlib.Core.Bool.{Bool, true, false, cond, ◌||◌}
use mathlib.Core.Option.{Option, none, some, some-injective}
use mathlib.Core.List.{List, [], ◌∷◌, ◌++◌, map, append-nil, append_assoc}
use Prim.Native.Nat.{ℕ, zero, suc, ◌+◌, ◌-◌, ◌*◌, ◌≤◌, ◌<◌}
use native.Mathlib.Omega.{arith}
use native.Mathlib.Nat.{le_trans, mul-le-mul_right}
use lib.Dec.{eqb, ltb}
use lib.ListN.{length, get_or, take, drop, replicate, length-append, length-drop}
use lib.Seq.{drop-drop, drop-length, take_at, drop_at}
use borrow.Author.Tests.{ne_eqb, eq-eqb, eqb-true, ltb-false, lt-leb}
use Rattle.bit_ops.specs.Key.{num}
use Rattle.bit_ops.specs.Steps.{zeros}
use Rattle.leaf_node.specs.Limits.{PageSize, body_limit, merge_below, pages_asked}
use Rattle.leaf_node.specs.Record.{Record, body}
use Rattle.leaf_node.specs.Page.{records}
use Rattle.leaf_node.specs.Good.{Good}
use Rattle.leaf_node.specs.Build.{put, build}
use Rattle.leaf_node.specs.Fits.{All, nil, cons}
use Rattle.leaf_model.specs.Basics.{joined, nonempty}
use Rattle.leaf_model.specs.Cut.{Cut}
use Rattle.leaf_model.specs.Work.{Leaf, zero_key, or_else, plan, leaves_by}
use Rattle.leaf_model.specs.Claim.{Le}
use Rattle.leaf_model.proofs.Tests.{clash, none_is_not_some}
use Rattle.leaf_model.proofs.Lists.{all_append, all_map, all_head}
use Rattle.leaf_work.specs.declared.Work.{Work}
use Rattle.leaf_work.specs.declared.Entry.{Entry}
use Rattle.leaf_work.specs.Tests.{is_set}
use Rattle.leaf_work.specs.Lent.{blank, separator_of}
use Rattle.leaf_work.specs.Pending.{pending_of}
use Rattle.leaf_work.specs.Digest as digest
use Rattle.leaf_work.proofs.Tests.{key_is_there}
use Rattle.leaf_builder.proofs.Putting.{put_parts}
use Rattle.leaf_open.proofs.Openings.{a_page_has_4096_bytes}
use Rattle.row_turns.specs.Row as rows
use Rattle.row_turns.specs.Row.{RowLeaf, cutoff_by, IsRow, FromZero, first_leaf, no_leaf, Among, is_from_zero, pages_of}
use Rattle.row_turns.specs.Changes.{Edit, EditsRight, changed_all, taken, behind, inserted_body, row_pages_asked}
use Rattle.row_turns.specs.Turns.{Turned, made, load_verdict, digested_to, loaded, turn, turns, nothing_yet}
use Rattle.row_turns.proofs.Changing.{all_taken, all_behind, taken_below, taken_rising, behind_rising, behind_above}
use Rattle.row_turns.proofs.Turning.{EditFacts, Turning, loaded_is, a_turn_holds, refused_stays}
use Rattle.row_turns.proofs.NewRow.{nothing_yet_lem, own_pages}
use Rattle.row_turns.proofs.Asked.{a_full_page_of_4096_bytes_is_two_least_leaves, Within, inserted_in_turn, asked_within, asked_of_a_row, count_leaves, a_digest_gets_the_pages_it_asks_for, a_digest_stays_within, a_digest_gives_no_more_than_asked, a_copy_stays_within, proper, leaf_body}
use Rattle.row_turns.proofs.Separators.{leaves_long}
use Rattle.row_changes.specs.Packed.{edits_of}
use Rattle.row_changes.specs.Tests.{values_length, put_bodies}
use Rattle.row_changes.proofs.Edits.{inserted_bodies_are_those_of_the_entries, changes_that_pass_are_right}
use Rattle.row_check.specs.Verdict.{row_of}
use Rattle.row_check.proofs.Facts.{Passed, a_row_that_passes, leaf_is_right, row_length}
use Rattle.row_work.specs.Loaded.{Waits}
use Rattle.row_tickets.specs.Linked.{separator_at, linked, linked_all, last_linked}
use Rattle.row_tickets.proofs.NewRow.{Linked, no_leaf_is_linked, one_leaf_is_linked, leaves_are_linked}
use Rattle.row_leaf.specs.declared.LeafAt.{LeafAt}
use Rattle.row_leaf.specs.declared.LentRow.{LentRow}
use Rattle.row_leaf.specs.declared.RowAt.{RowAt}
use Rattle.row_leaf.specs.declared.Turn.{Turn}
use Rattle.row_leaf.specs.Leaf.{leaf_at, cutoff_in, page_in, PageThere, count_below, is_loaded, CopyThere, copied_by, LeafCopied}
use Rattle.row_leaf.specs.Load.{Between, LeavesGiven, kept_by, begins_at, changes_in, edits_in, pending_in, LoadThere}
use Rattle.row_leaves.specs.Turns.{to_by, turn_by, TurnThere, LeafTurned, nothing_at, RowWritten, RowTurned, RowAsked}
use Rattle.row_leaves.proofs.Parts.{the_leaf, the_cutoff, the_next_is_long, row_behind, row_head, one_of, no_more_than_there_are, the_edits_taken, the_edits_behind, some_are_taken, values_in_two}

abbrev q : PageSize 4096
q = a_page_has_4096_bytes

pub above_zeros : {es : List Edit} → All (λ e. length e.key ≡ 32) es → All (λ e. Le zero_key e.key) es
unfolding num
above_zeros a = all_map (λ x k. omega arith) a

put_behind : (A old u : List ℕ) (n : ℕ) → length A ≡ n → put (digest.overwrite A old) n u ≡ digest.overwrite (A ++ u) old
put_behind A old u n e =
    let D : List ℕ = drop (length A) old in
    let k : length A + length u ≡ length (A ++ u) = sym (length-append A u) in
    put_parts (A ++ D) n u
    ∙ ap (λ (i : ℕ). take i (A ++ D) ++ (u ++ drop (i + length u) (A ++ D))) (sym e)
    ∙ ap (λ (t : List ℕ). t ++ (u ++ drop (length A + length u) (A ++ D))) (take_at A D (length A) refl)
    ∙ ap (λ (t : List ℕ). A ++ (u ++ t)) (sym (drop-drop (length u) (length A) (A ++ D)) ∙ ap (drop (length u)) (drop_at A D (length A) refl) ∙ drop-drop (length u) (length A) old ∙ ap (λ (i : ℕ). drop i old) k)
    ∙ sym (append_assoc A u _)

pages_long : {xs : List RowLeaf} → All (λ x. Good 4096 x.page) xs → length (joined (pages_of xs)) ≡ length xs * 4096
pages_long nil = refl
pages_long (cons {x} {xs} g a) = omega (arith, length-append x.page (joined (pages_of xs)), g.sized, pages_long a)

pages_append : (xs ys : List RowLeaf) → joined (pages_of (xs ++ ys)) ≡ joined (pages_of xs) ++ joined (pages_of ys)
pages_append [] ys = refl
pages_append (x ∷ xs) ys = ap (λ (z : List ℕ). x.page ++ z) (pages_append xs ys) ∙ sym (append_assoc x.page (joined (pages_of xs)) (joined (pages_of ys)))

pages_made : (ls : List Leaf) → joined (pages_of (map (made 4096) ls)) ≡ digest.pages_of 4096 ls
pages_made [] = refl
pages_made (l ∷ ls) = ap (λ (z : List ℕ). build 4096 l.records ++ z) (pages_made ls)

separators_made : (ls : List Leaf) → map (λ x. x.separator) (map (made 4096) ls) ≡ map (λ l. l.separator) ls
separators_made [] = refl
separators_made (l ∷ ls) = ap {B = List (List ℕ)} (λ xs. l.separator ∷ xs) (separators_made ls)

all_drop : {P : RowLeaf → Type 0} (i : ℕ) {xs : List RowLeaf} → All P xs → All P (drop i xs)
all_drop zero a = a
all_drop (suc i) nil = nil
all_drop (suc i) (cons p a) = all_drop i a

no_element : {A : Type 0} (ys : List A) → nonempty ys ≡ false → ys ≡ []
no_element [] e = refl
no_element (y ∷ ys) e = clash refl e

neither : (a b : Bool) → (a || b) ≡ false → (a ≡ false) × (b ≡ false)
neither true b e = clash refl e
neither false b e = (refl, e)

-- ---- between two leaves

module _ (list : List Entry) (store : List ℕ) (kept : List Record) (s : List ℕ) (c : Option (List ℕ)) where
  waits_or_not : (o : std.Option Work) → Between o list store kept s c → std.is_some o ≡ nonempty kept
  waits_or_not std.None r = rw r.0
  waits_or_not (std.Some w) r = sym r.0

  -- where nothing waits, list and store are zeros
  nothing_waits : (o : std.Option Work) → Between o list store kept s c → kept ≡ [] → (list ≡ replicate (length list) blank) × (store ≡ zeros (length store))
  nothing_waits std.None r e = (r.1, r.2)
  nothing_waits (std.Some w) r e = clash r.0 (ap nonempty e)

  abbrev kept_in : std.Option Work → List Record
  kept_in o = elim o [ Some w ↦ pending_of w list store [] | None ↦ [] ]

  what_waits : (o : std.Option Work) → Between o list store kept s c → kept_in o ≡ kept
  what_waits std.None r = sym r.0
  what_waits (std.Some w) r = r.1.pending_is

  separator_waiting : (w : Work) → Waits 4096 w list store kept s c → separator_of w ≡ s
  separator_waiting w x = ap (λ (b : Option (List ℕ)). or_else b w.latest) x.override

  -- of a leaf with the separator sep, where the records begin that are pending then
  module _ (sep : List ℕ) where
    abbrev begins_in : std.Option Work → List ℕ
    begins_in o = elim o [ Some w ↦ separator_of w | None ↦ sep ]

    begins_at_one : (o : std.Option Work) → Between o list store kept s c → begins_in o ≡ cond (nonempty kept) s sep
    begins_at_one std.None r = rw r.0
    begins_at_one (std.Some w) r = rw r.0 (separator_waiting w r.1)

    begins_long : (o : std.Option Work) → Between o list store kept s c → length sep ≡ 32 → length (cond (nonempty kept) s sep) ≡ 32
    begins_long std.None r l = rw r.0 l
    begins_long (std.Some w) r l = rw (r.0, ← (key_is_there (is_set w.over) w.overriding s r.1.override).1) r.1.holds.keys.overriding

    -- as the leaf's turn requires it: the leaf asked for is this one
    waits_for_it : (o : std.Option Work) → Between o list store kept s c → c ≡ some sep → Between o list store (kept_in o) (begins_in o) (some sep)
    waits_for_it std.None r e = (refl, r.1, r.2)
    waits_for_it (std.Some w) r e = (
      rw r.1.pending_is r.0,
      record {
        holds = r.1.holds;
        waiting = r.1.waiting;
        override = r.1.override ∙ ap some (sym (separator_waiting w r.1));
        cutoff = r.1.cutoff ∙ e;
        pending_is = refl;
      },
    )

-- ---- what was written, and what waits

module _ (area₀ tickets₀ : List ℕ) where
  -- the new row so far is t's, and its next leaf begins at c
  pub record Written (t : Turned) (c : Option (List ℕ)) (at : RowAt) (list : List Entry) (store area tickets : List ℕ) : Type 0 where
    pub linked_to : Linked tickets₀ t.row at.leaves at.last tickets
    pub area_is : area ≡ digest.overwrite (joined (pages_of t.row)) area₀
    pub good : All (λ x. Good 4096 x.page) t.row
    pub rests : Between at.waiting list store t.kept t.separator c

  -- ---- a leaf that was loaded

  module _ (entries bytes : ℕ) (t : Turned) (at : RowAt) (list : List Entry) (store area tickets : List ℕ) (s c₀ : Option (List ℕ)) (w : Written t c₀ at list store area tickets)
      (sep : List ℕ) (c : Option (List ℕ)) (P : List Record) (to value : ℕ) where
    abbrev from : List ℕ
    from = cond (nonempty t.kept) t.separator sep

    abbrev p : Cut
    p = plan 4096 c P

    abbrev ys : List RowLeaf
    ys = map (made 4096) (leaves_by from c p)

    abbrev done : Turned
    done = digested_to 4096 entries bytes t.row from c P

    count_is : length ys ≡ length p.leaves
    count_is = count_leaves 4096 entries bytes q a_full_page_of_4096_bytes_is_two_least_leaves from c (nonempty p.left) p.leaves p.left

    pub a_load_is_written : length from ≡ 32 → All (λ x. Good 4096 x.page) done.row → (at.leaves + length p.leaves) * 65 ≤ length tickets₀
        → (r : RowAt) (list' : List Entry) (store' area' tickets' : List ℕ) → LeavesGiven at from c P to value area tickets r list' store' area' tickets' → Written done c r list' store' area' tickets'
    a_load_is_written long good room r list' store' area' tickets' g =
        let k = leaves_are_linked tickets₀ t.row at.leaves at.last tickets w.linked_to ys (leaves_long 4096 from c (nonempty p.left) p.leaves p.left long) (omega (arith, room, count_is)) in
        let n : at.leaves + length ys ≡ r.leaves = ap (λ (i : ℕ). at.leaves + i) count_is ∙ sym g.leaves_are in
        let l : last_linked at.leaves at.last (map (λ y. y.separator) ys) ≡ r.last = ap (last_linked at.leaves at.last) (separators_made (leaves_by from c p)) ∙ sym g.last_is in
        let d : linked_all at.leaves at.last (map (λ y. y.separator) ys) tickets ≡ tickets' = ap (λ (ss : List (List ℕ)). linked_all at.leaves at.last ss tickets) (separators_made (leaves_by from c p)) ∙ sym g.tickets_are in
        record {
          linked_to = rw (n, l, d) at k;
          area_is =
              g.area_is
              ∙ ap (λ (x : List ℕ). put x (at.leaves * 4096) (digest.pages_of 4096 (leaves_by from c p))) w.area_is
              ∙ put_behind (joined (pages_of t.row)) area₀ (digest.pages_of 4096 (leaves_by from c p)) (at.leaves * 4096) (pages_long w.good ∙ ap (λ (i : ℕ). i * 4096) (sym w.linked_to.count_is))
              ∙ ap (λ (x : List ℕ). digest.overwrite (joined (pages_of t.row) ++ x) area₀) (sym (pages_made (leaves_by from c p)))
              ∙ ap (λ (x : List ℕ). digest.overwrite x area₀) (sym (pages_append t.row ys));
          good = good;
          rests = g.rests;
        }

  -- ---- a leaf that was copied

  module _ (t : Turned) (c₀ : Option (List ℕ)) (at : RowAt) (list : List Entry) (store area tickets : List ℕ) (w : Written t c₀ at list store area tickets) (z : t.kept ≡ [])
      (x : RowLeaf) (good : Good 4096 x.page) (long : length x.separator ≡ 32) (room : (at.leaves + 1) * 65 ≤ length tickets₀) (leaf : LeafAt) (pages : List ℕ)
      (page_is : page_in leaf pages ≡ x.page) (sep-is : leaf.separator ≡ x.separator) where
    pub a_copy_is_written : (c : Option (List ℕ)) (r : RowAt) (list' : List Entry) (store' area' tickets' : List ℕ) → list' ≡ list → store' ≡ store → LeafCopied at leaf pages area tickets r area' tickets'
        → Written (record { number = t.number; row = t.row ++ (x ∷ []); kept = []; separator = t.separator }) c r list' store' area' tickets'
    a_copy_is_written c r list' store' area' tickets' list_is store_is k =
        let o = one_leaf_is_linked tickets₀ t.row at.leaves at.last tickets w.linked_to x long (omega (arith, room)) in
        let d : linked at.leaves at.last x.separator tickets ≡ tickets' = ap (λ (s : List ℕ). linked at.leaves at.last s tickets) (sym sep-is) ∙ sym k.tickets_are in
        let e : r ≡ copied_by at (separator_at at.leaves x.separator) = k.is ∙ ap (λ (s : List ℕ). copied_by at (separator_at at.leaves s)) sep-is in
        let clear = nothing_waits _ _ _ _ _ at.waiting w.rests z in
        rw e (record {
          linked_to = rw d at o;
          area_is =
              k.area_is
              ∙ ap (λ (a : List ℕ). put a (at.leaves * 4096) (page_in leaf pages)) w.area_is
              ∙ ap (λ (p : List ℕ). put (digest.overwrite (joined (pages_of t.row)) area₀) (at.leaves * 4096) p) (page_is ∙ sym (append-nil x.page))
              ∙ put_behind (joined (pages_of t.row)) area₀ (x.page ++ []) (at.leaves * 4096) (pages_long w.good ∙ ap (λ (i : ℕ). i * 4096) (sym w.linked_to.count_is))
              ∙ ap (λ (a : List ℕ). digest.overwrite a area₀) (sym (pages_append t.row (x ∷ [])));
          good = all_append w.good (cons good nil);
          rests = (refl, rw list_is clear.0, rw store_is clear.1);
        })

-- ---- a row that is written, with nothing kept

same_pages : (xs : List RowLeaf) → pages_of (is_from_zero xs) ≡ pages_of xs
same_pages [] = refl
same_pages (x ∷ xs) = refl

same_length : (xs : List RowLeaf) → length (is_from_zero xs) ≡ length xs
same_length [] = refl
same_length (x ∷ xs) = refl

pub a_row_is_written : (area₀ tickets₀ : List ℕ) (t : Turned) (c : Option (List ℕ)) (at : RowAt) (list : List Entry) (store area tickets : List ℕ) → Written area₀ tickets₀ t c at list store area tickets → t.kept ≡ []
    → RowWritten (is_from_zero t.row) area₀ tickets₀ at list store area tickets
a_row_is_written area₀ tickets₀ t c at list store area tickets w e = record {
  leaves_are = w.linked_to.count_is ∙ sym (same_length t.row);
  list_is = (nothing_waits _ _ _ _ _ at.waiting w.rests e).0;
  store_is = (nothing_waits _ _ _ _ _ at.waiting w.rests e).1;
  area_is = w.area_is ∙ ap (λ (ps : List (List ℕ)). digest.overwrite (joined ps) area₀) (sym (same_pages t.row));
  tickets_are = w.linked_to.tickets_are;
}

-- ---- the row

module _ (list₀ : List Entry) (store₀ : List ℕ) (lent : LentRow) (area₀ tickets₀ : List ℕ) (h : RowAsked list₀ store₀ lent area₀ tickets₀) where
  abbrev pages : List ℕ
  pages = lent.row.pages.now

  abbrev separators : List (List ℕ)
  separators = lent.row.separators.now

  abbrev changes : List (List ℕ)
  changes = lent.changes.now

  abbrev values : List ℕ
  values = lent.values.now

  abbrev n : ℕ
  n = length list₀

  abbrev m : ℕ
  m = length store₀

  abbrev row : List RowLeaf
  row = row_of 4096 pages separators

  abbrev edits : List Edit
  edits = edits_of changes values

  passed : Passed 4096 n m pages separators changes (length values) (length area₀) (length tickets₀)
  passed = a_row_that_passes 4096 n m pages separators changes (length values) (length area₀) (length tickets₀) q h.passed

  right : EditsRight 4096 edits
  right = changes_that_pass_are_right 4096 changes values h.packed passed.fitting passed.rising

  even : body_limit 4096 ≤ 2 * merge_below 4096
  even = a_full_page_of_4096_bytes_is_two_least_leaves

  abbrev B : ℕ
  B = length row * (2 * merge_below 4096) + inserted_body edits

  asked_is : pages_asked 4096 B ≡ row_pages_asked 4096 (length separators) (put_bodies changes)
  asked_is =
      asked_of_a_row 4096 n m q even (length row) (inserted_body edits)
      ∙ ap (λ (k : ℕ). row_pages_asked 4096 k (inserted_body edits)) (row_length 4096 pages separators)
      ∙ ap (row_pages_asked 4096 (length separators)) (inserted_bodies_are_those_of_the_entries changes values passed.there)

  area_room : pages_asked 4096 B * 4096 ≤ length area₀
  area_room = rw asked_is passed.area_room

  ticket_room : pages_asked 4096 B * 65 ≤ length tickets₀
  ticket_room = rw asked_is passed.ticket_room

  -- the changes that are still to come
  abbrev left : RowAt → List Edit
  left at = edits_of (drop at.change changes) (drop at.value values)

  -- before leaf i, where none was refused
  pub record On (t : Turned) (at : RowAt) (list : List Entry) (store area tickets : List ℕ) (i : ℕ) : Type 0 where
    pub written : Written area₀ tickets₀ t (cutoff_by (drop i row)) at list store area tickets
    pub T : List Record
    pub turning : Turning 4096 (pages_of row) (cutoff_by (drop i row)) t T
    pub within : (x : RowLeaf) (xs : List RowLeaf) → drop i row ≡ x ∷ xs → Within 4096 B t (x ∷ xs) (left at)
    pub change_in : at.change ≤ length changes
    pub values_are : at.value + values_length (drop at.change changes) ≡ values_length changes
    pub edits_right : EditsRight 4096 (left at)
    pub above : (s : List ℕ) → cutoff_by (drop i row) ≡ some s → All (λ e. Le s e.key) (left at)

  pub record Stands (at : RowAt) (list : List Entry) (store area tickets : List ℕ) (i : ℕ) : Type 0 where
    pub in_row : i ≤ length separators
    pub list_long : length list ≡ n
    pub store_long : length store ≡ m
    pub area_long : length area ≡ length area₀
    pub tickets_long : length tickets ≡ length tickets₀
    pub t : Turned
    pub accepted : t.number ≡ 0
    pub ends : turns 4096 n m t (drop i row) (left at) ≡ turns 4096 n m (nothing_yet 4096 n m) row edits
    pub on : On t at list store area tickets i

  pub nothing_stands : (at : RowAt) → at ≡ nothing_at → Stands at list₀ store₀ area₀ tickets₀ 0
  nothing_stands at e = rw e (record {
    in_row = omega arith;
    list_long = refl;
    store_long = refl;
    area_long = refl;
    tickets_long = refl;
    t = nothing_yet 4096 n m;
    accepted = refl;
    ends = refl;
    on = record {
      written = record {
        linked_to = no_leaf_is_linked tickets₀;
        area_is = refl;
        good = nil;
        rests = (refl, h.list_clear, h.store_clear);
      };
      T = [];
      turning = nothing_yet_lem 4096 n m q (pages_of row) (cutoff_by row);
      within = λ x xs y. record { fitting = nil; used = subst (λ (l : ℕ). 0 * merge_below 4096 + 0 + (l * (2 * merge_below 4096) + inserted_body edits) ≤ B) (ap length y) (omega arith) };
      change_in = omega arith;
      values_are = omega arith;
      edits_right = right;
      above = λ s y. from_zero passed.from_zero s y;
    };
  })
    where
      from_zero : {xs : List RowLeaf} → FromZero xs → (s : List ℕ) → cutoff_by xs ≡ some s → All (λ e. Le s e.key) edits
      from_zero no_leaf s y = none_is_not_some y
      from_zero (first_leaf z) s y = rw (← some-injective _ s y, z) (above_zeros right.keyed)

  -- ---- leaf i

  module _ (at : RowAt) (list : List Entry) (store area tickets : List ℕ) (i : ℕ) (k : Stands at list store area tickets i) (there_is : i < length separators) where
    o : On k.t at list store area tickets i
    o = k.on

    abbrev t : Turned
    t = k.t

    abbrev x : RowLeaf
    x = record { separator = get_or separators i []; page = take 4096 (drop (i * 4096) pages) }

    abbrev xs : List RowLeaf
    xs = drop (i + 1) row

    here_is : drop i row ≡ x ∷ xs
    here_is = the_leaf 4096 pages separators i there_is

    abbrev leaf : LeafAt
    leaf = leaf_at separators i

    abbrev c : Option (List ℕ)
    c = cutoff_by xs

    leaf_is : leaf ≡ record { page = std.Some (i * 4096); separator = get_or separators i []; cutoff = std.slice_get separators (i + 1) }
    leaf_is = rw (leaf_at, lt-leb (length separators) i there_is)

    cutoff_is : cutoff_in leaf ≡ c
    cutoff_is = ap cutoff_in leaf_is ∙ sym (the_cutoff 4096 pages separators (i + 1))

    separator_is : leaf.separator ≡ x.separator
    separator_is = ap (λ (l : LeafAt). l.separator) leaf_is

    page_is : page_in leaf pages ≡ x.page
    page_is = ap (λ (l : LeafAt). page_in l pages) leaf_is

    leaf_right : rows.LeafRight 4096 x c
    leaf_right = row_head (rw here_is at (row_behind i passed.row))

    x_long : length x.separator ≡ 32
    x_long = one_of h.keyed i there_is

    cutoff_here : cutoff_by (drop i row) ≡ some x.separator
    cutoff_here = ap cutoff_by here_is

    -- its changes

    abbrev cs : List (List ℕ)
    cs = drop at.change changes

    abbrev vs : List ℕ
    vs = drop at.value values

    abbrev mine : List Edit
    mine = taken c (left at)

    abbrev later : List Edit
    later = behind c (left at)

    abbrev to : ℕ
    to = to_by at i separators changes

    to_is : to ≡ at.change + count_below c cs
    to_is = ap (λ (b : Option (List ℕ)). at.change + count_below b cs) cutoff_is

    few : count_below c cs ≤ length cs
    few = no_more_than_there_are c cs

    cs_long : length cs ≡ length changes - at.change
    cs_long = length-drop at.change changes

    changes_are : changes_in at changes to ≡ take (count_below c cs) cs
    changes_are = let e : to - at.change ≡ count_below c cs = omega (arith, to_is) in ap (λ (j : ℕ). take j cs) e

    edits_are : edits_in at changes to values ≡ mine
    edits_are = ap (λ (ys : List (List ℕ)). edits_of ys vs) changes_are ∙ the_edits_taken c cs vs

    loaded_is_as_said : is_loaded at to ≡ (nonempty mine || nonempty t.kept)
    loaded_is_as_said =
        ap (λ (j : ℕ). ltb at.change j || std.is_some at.waiting) to_is
        ∙ ap (λ (b : Bool). b || std.is_some at.waiting) (some_are_taken c cs vs at.change)
        ∙ ap (λ (b : Bool). nonempty mine || b) (waits_or_not _ _ _ _ _ at.waiting o.written.rests)

    right_mine : EditsRight 4096 mine
    right_mine = record { rising = taken_rising c o.edits_right.rising; fitting = all_taken c o.edits_right.fitting; keyed = all_taken c o.edits_right.keyed }

    above_mine : All (λ e. Le x.separator e.key) mine
    above_mine = all_taken c (o.above x.separator cutoff_here)

    -- what waits

    rests : Between at.waiting list store (kept_by at list store) (begins_at at leaf) (some leaf.separator)
    rests = waits_for_it _ _ _ _ _ leaf.separator at.waiting o.written.rests (cutoff_here ∙ ap some (sym separator_is))

    kept_is : kept_by at list store ≡ t.kept
    kept_is = what_waits _ _ _ _ _ at.waiting o.written.rests

    begins_is : begins_at at leaf ≡ cond (nonempty t.kept) t.separator x.separator
    begins_is = begins_at_one _ _ _ _ _ leaf.separator at.waiting o.written.rests ∙ ap (cond (nonempty t.kept) t.separator) separator_is

    abbrev P : List Record
    P = changed_all mine (t.kept ++ records x.page)

    pending_is : pending_in at leaf list store pages (edits_in at changes to values) ≡ P
    pending_is =
        ap (λ (es : List Edit). changed_all es (kept_by at list store ++ records (page_in leaf pages))) edits_are
        ∙ ap (λ (rs : List Record). changed_all mine (rs ++ records (page_in leaf pages))) kept_is
        ∙ ap (λ (p : List ℕ). changed_all mine (t.kept ++ records p)) page_is

    -- room

    used : length t.row * merge_below 4096 + body t.kept + (2 * merge_below 4096 + length xs * (2 * merge_below 4096) + (inserted_body mine + inserted_body later)) ≤ B
    used = omega (arith, (o.within x xs here_is).used, inserted_in_turn c (left at))

    asks : length t.row + pages_asked 4096 (body P) ≤ pages_asked 4096 B
    asks =
        a_digest_gets_the_pages_it_asks_for 4096 n m q even B t (records x.page) (2 * merge_below 4096) (leaf_body 4096 n m q even x leaf_right.good) (proper 4096 n m q even x leaf_right.good).fitting xs mine later
        (all_taken c o.edits_right.fitting) o.turning.fitting used

    one_more_fits : length t.row + 1 ≤ pages_asked 4096 B
    one_more_fits = omega (arith, asked_within 4096 n m q even (length t.row + 1) 0 B (omega (arith, used)))

    leaves_are : at.leaves ≡ length t.row
    leaves_are = o.written.linked_to.count_is

    room_asked : at.leaves + pages_asked 4096 (body (pending_in at leaf list store pages (edits_in at changes to values))) ≤ pages_asked 4096 B
    room_asked = subst (λ (rs : List Record). at.leaves + pages_asked 4096 (body rs) ≤ pages_asked 4096 B) (sym pending_is) (omega (arith, asks, leaves_are))

    -- ---- what its turn requires

    values_left : at.value ≤ length values
    values_left = omega (arith, o.values_are, passed.there)

    page_there : PageThere leaf pages
    page_there = rw leaf_is (record { inside = omega (arith, passed.whole, there_is) })

    loads : is_loaded at to ≡ true → LoadThere at leaf list store pages changes to values area tickets
    loads b = record {
      leaf_right = record {
        page_there = page_there;
        separator_long = rw separator_is x_long;
        cutoff_long = rw leaf_is (the_next_is_long separators h.keyed (i + 1));
        base = λ e. rw (page_is, separator_is, cutoff_is) (leaf_is_right 4096 q x c leaf_right);
        bare = λ e. clash (ap std.is_some (sym e ∙ ap (λ (l : LeafAt). l.page) leaf_is)) refl;
      };
      room = rw (k.list_long, k.store_long) passed.room;
      changes_there = omega (arith, to_is);
      changes_in_lem = omega (arith, to_is, few, cs_long, o.change_in);
      values_in = values_left;
      values_there = rw changes_are (omega (arith, values_in_two c cs (count_below c cs), o.values_are, passed.there, length-drop at.value values));
      right = rw edits_are right_mine;
      above = rw (edits_are, separator_is) above_mine;
      below = rw (edits_are, cutoff_is) (taken_below c (left at));
      rests = rests;
      area_room = omega (arith, mul-le-mul_right 4096 room_asked, area_room, k.area_long);
      ticket_room = omega (arith, mul-le-mul_right 65 room_asked, ticket_room, k.tickets_long);
    }

    copies : is_loaded at to ≡ false → length area < 18446744073709551616 → CopyThere at leaf pages area tickets
    copies b a = record {
      page_there = page_there;
      area_room = omega (arith, mul-le-mul_right 4096 one_more_fits, area_room, leaves_are, k.area_long);
      ticket_room = omega (arith, mul-le-mul_right 65 one_more_fits, ticket_room, leaves_are, k.tickets_long);
      fits = omega (arith, mul-le-mul_right 4096 one_more_fits, area_room, leaves_are, k.area_long, a);
    }

    pub the_turn_begins : (length separators ≤ 16) × (at.change ≤ length changes)
    the_turn_begins = (passed.few, o.change_in)

    pub the_turn_is_there : length area < 18446744073709551616 → (u : Turn) → u ≡ turn_by at separators changes i → TurnThere u list store lent area tickets
    the_turn_is_there a u e = rw e (record { loads = loads; copies = λ b. copies b a })

    -- ---- what its turn leaves

    abbrev begin : List ℕ
    begin = cond (nonempty t.kept) t.separator x.separator

    from_long : length begin ≡ 32
    from_long = begins_long _ _ _ _ _ x.separator at.waiting o.written.rests x_long

    abbrev t' : Turned
    t' = turn 4096 n m t x c mine

    facts : EditFacts 4096 x.separator c mine
    facts = record { above = above_mine; below = taken_below c (left at); fitting = right_mine.fitting; keyed = right_mine.keyed }

    among : Among x.page (pages_of row)
    among = all_head (rw here_is at (all_drop i (own_pages 4096 n m q row)))

    turning_here : Turning 4096 (pages_of row) (some x.separator) t o.T
    turning_here = subst (λ (b : Option (List ℕ)). Turning 4096 (pages_of row) b t o.T) cutoff_here o.turning

    turning_after : t'.number ≡ 0 → Turning 4096 (pages_of row) c t' (changed_all mine (o.T ++ records x.page))
    turning_after z = a_turn_holds 4096 n m q (pages_of row) t o.T x c mine turning_here leaf_right facts among z

    right_later : EditsRight 4096 later
    right_later = record { rising = behind_rising c o.edits_right.rising; fitting = all_behind c o.edits_right.fitting; keyed = all_behind c o.edits_right.keyed }

    above_later : (s : List ℕ) → c ≡ some s → All (λ e. Le s e.key) later
    above_later s e = subst (λ (b : Option (List ℕ)). All (λ y. Le s y.key) (behind b (left at))) (sym e) (behind_above s o.edits_right.rising)

    -- the changes behind it
    module _ (r : RowAt) (ec : r.change ≡ at.change + count_below c cs) (ev : r.value ≡ at.value + values_length (take (count_below c cs) cs)) where
      left_is : left r ≡ later
      left_is =
          ap (λ (j : ℕ). edits_of (drop j changes) (drop r.value values)) ec
          ∙ ap (λ (j : ℕ). edits_of (drop (at.change + count_below c cs) changes) (drop j values)) ev
          ∙ ap (λ (ys : List (List ℕ)). edits_of ys (drop (at.value + values_length (take (count_below c cs) cs)) values)) (sym (drop-drop (count_below c cs) at.change changes))
          ∙ ap (edits_of (drop (count_below c cs) cs)) (sym (drop-drop (values_length (take (count_below c cs) cs)) at.value values))
          ∙ the_edits_behind c cs vs

      change_after : r.change ≤ length changes
      change_after = omega (arith, ec, few, cs_long, o.change_in)

      values_after : r.value + values_length (drop r.change changes) ≡ values_length changes
      values_after =
          let d : drop r.change changes ≡ drop (count_below c cs) cs = ap (λ (j : ℕ). drop j changes) ec ∙ sym (drop-drop (count_below c cs) at.change changes) in
          omega (arith, ev, ap values_length d, values_in_two c cs (count_below c cs), o.values_are)

    -- from here the turns come to the same
    ends_after : (es : List Edit) → (t'.number ≡ 0 → es ≡ later) → turns 4096 n m t' xs es ≡ turns 4096 n m (nothing_yet 4096 n m) row edits
    ends_after es f =
        go (eqb t'.number 0) refl
        ∙ sym (rw (eq-eqb t.number 0 k.accepted, turns) refl)
        ∙ ap (λ (ys : List RowLeaf). turns 4096 n m t ys (left at)) (sym here_is)
        ∙ k.ends
      where
        go : (b : Bool) → eqb t'.number 0 ≡ b → turns 4096 n m t' xs es ≡ turns 4096 n m t' xs later
        go true e = ap (turns 4096 n m t' xs) (f (eqb-true t'.number 0 e))
        go false e = refused_stays 4096 n m q t' xs es e ∙ sym (refused_stays 4096 n m q t' xs later e)

    -- ---- the leaf's turn

    module _ (u : Turn) (eu : u ≡ turn_by at separators changes i) (r : Result RowAt Refusal) (list' : List Entry) (store' area' tickets' : List ℕ)
        (g₀ : LeafTurned u list store lent area tickets r list' store' area' tickets') where
      g : LeafTurned (turn_by at separators changes i) list store lent area tickets r list' store' area' tickets'
      g = subst (λ (y : Turn). LeafTurned y list store lent area tickets r list' store' area' tickets') eu g₀

      abbrev verdict : ℕ
      verdict = load_verdict n m t.kept (records x.page) mine

      module _ (b : is_loaded at to ≡ true) where
        loaded_turn : t' ≡ loaded 4096 n m t x.separator c (records x.page) mine
        loaded_turn = rw (turn, sym loaded_is_as_said ∙ b)

        verdict_is : (loaded 4096 n m t x.separator c (records x.page) mine).number ≡ verdict
        verdict_is = go (eqb verdict 0) refl
          where
            go : (y : Bool) → eqb verdict 0 ≡ y → (loaded 4096 n m t x.separator c (records x.page) mine).number ≡ verdict
            go true e = rw (loaded, e) (sym (eqb-true verdict 0 e))
            go false e = rw (loaded, e)

        loaded_number : number_of r ≡ t'.number
        loaded_number =
            (g.loaded b).number_is
            ∙ ap (λ (j : ℕ). load_verdict j (length store) (kept_by at list store) (records (page_in leaf pages)) (edits_in at changes to values)) k.list_long
            ∙ ap (λ (j : ℕ). load_verdict n j (kept_by at list store) (records (page_in leaf pages)) (edits_in at changes to values)) k.store_long
            ∙ ap (λ (rs : List Record). load_verdict n m rs (records (page_in leaf pages)) (edits_in at changes to values)) kept_is
            ∙ ap (λ (p : List ℕ). load_verdict n m t.kept (records p) (edits_in at changes to values)) page_is
            ∙ ap (load_verdict n m t.kept (records x.page)) edits_are
            ∙ sym verdict_is
            ∙ ap (λ (y : Turned). y.number) (sym loaded_turn)

      module _ (b : is_loaded at to ≡ false) where
        quiet : (nonempty mine ≡ false) × (nonempty t.kept ≡ false)
        quiet = neither (nonempty mine) (nonempty t.kept) (sym loaded_is_as_said ∙ b)

        none_kept : t.kept ≡ []
        none_kept = no_element t.kept quiet.1

        abbrev copied : Turned
        copied = record { number = t.number; row = t.row ++ (x ∷ []); kept = []; separator = t.separator }

        copied_turn : t' ≡ copied
        copied_turn = rw (turn, sym loaded_is_as_said ∙ b)

        copied_number : number_of r ≡ t'.number
        copied_number = (g.copied b).accepted ∙ sym k.accepted ∙ ap (λ (y : Turned). y.number) (sym copied_turn)

      turned_number : number_of r ≡ t'.number
      turned_number = go (is_loaded at to) refl
        where
          go : (b : Bool) → is_loaded at to ≡ b → number_of r ≡ t'.number
          go true b = loaded_number b
          go false b = copied_number b

    -- ---- refused: the row comes to the same number

    pub a_refused_leaf_ends_the_row : (u : Turn) → u ≡ turn_by at separators changes i → (f : Refusal) (list' : List Entry) (store' area' tickets' : List ℕ) → LeafTurned u list store lent area tickets (Err f) list' store' area' tickets'
        → RowTurned list₀ store₀ pages separators changes values area₀ tickets₀ (Err f) list' store' area' tickets'
    a_refused_leaf_ends_the_row u eu f list' store' area' tickets' g =
        let v = turned_number u eu (Err f) list' store' area' tickets' g in
        let z : eqb t'.number 0 ≡ false = ne_eqb t'.number 0 (λ (y : t'.number ≡ 0). refused f (v ∙ y)) in
        record {
          number_is = v ∙ ap (λ (y : Turned). y.number) (sym (refused_stays 4096 n m q t' xs later z) ∙ ends_after later (λ y. refl));
          written = tt;
        }

    -- ---- accepted

    module _ (u : Turn) (eu : u ≡ turn_by at separators changes i) (r : RowAt) (list' : List Entry) (store' area' tickets' : List ℕ)
        (g₀ : LeafTurned u list store lent area tickets (Ok r) list' store' area' tickets') where
      abbrev turned : LeafTurned (turn_by at separators changes i) list store lent area tickets (Ok r) list' store' area' tickets'
      turned = g u eu (Ok r) list' store' area' tickets' g₀

      z : t'.number ≡ 0
      z = sym (turned_number u eu (Ok r) list' store' area' tickets' g₀)

      -- ---- loaded

      module _ (b : is_loaded at to ≡ true) where
        abbrev digested_here : Turned
        digested_here = digested_to 4096 n m t.row begin c P

        done_is : t' ≡ digested_here
        done_is =
            let e = loaded_turn u eu (Ok r) list' store' area' tickets' g₀ b in
            e ∙ loaded_is 4096 n m q t x.separator c (records x.page) mine (ap (λ (y : Turned). y.number) (sym e) ∙ z)

        given : LeavesGiven at begin c P to (at.value + values_length (changes_in at changes to)) area tickets r list' store' area' tickets'
        given =
            subst (λ (y : List ℕ). LeavesGiven at y c P to (at.value + values_length (changes_in at changes to)) area tickets r list' store' area' tickets') begins_is
            (subst (λ (y : Option (List ℕ)). LeavesGiven at (begins_at at leaf) y P to (at.value + values_length (changes_in at changes to)) area tickets r list' store' area' tickets') cutoff_is
            (subst (λ (y : List Record). LeavesGiven at (begins_at at leaf) (cutoff_in leaf) y to (at.value + values_length (changes_in at changes to)) area tickets r list' store' area' tickets') pending_is
            (turned.loaded b).given))

        few_leaves : length digested_here.row ≤ pages_asked 4096 B
        few_leaves =
            a_digest_gives_no_more_than_asked 4096 n m q even B t (records x.page) (2 * merge_below 4096) (leaf_body 4096 n m q even x leaf_right.good) (proper 4096 n m q even x leaf_right.good).fitting xs mine later
            (all_taken c o.edits_right.fitting) o.turning.fitting used begin c

        leaves_room : (at.leaves + length (plan 4096 c P).leaves) * 65 ≤ length tickets₀
        leaves_room =
            let p = plan 4096 c P in
            let a : length digested_here.row ≡ length t.row + length (map (made 4096) (leaves_by begin c p)) = length-append t.row (map (made 4096) (leaves_by begin c p)) in
            let d : length (map (made 4096) (leaves_by begin c p)) ≡ length p.leaves = count_leaves 4096 n m q even begin c (nonempty p.left) p.leaves p.left in
            let f : at.leaves + length p.leaves ≤ pages_asked 4096 B = omega (arith, few_leaves, a, d, leaves_are) in
            le_trans (mul-le-mul_right 65 f) ticket_room

        change_is : r.change ≡ at.change + count_below c cs
        change_is = given.change_is ∙ to_is

        value_is : r.value ≡ at.value + values_length (take (count_below c cs) cs)
        value_is = given.value_is ∙ ap (λ (ys : List (List ℕ)). at.value + values_length ys) changes_are

        loaded_on : On t' r list' store' area' tickets' (i + 1)
        loaded_on = record {
          written = rw done_is (a_load_is_written area₀ tickets₀ n m t at list store area tickets none (cutoff_by (drop i row)) o.written x.separator c P to (at.value + values_length (changes_in at changes to)) from_long
              (subst (λ (y : Turned). All (λ u. Good 4096 u.page) y.row) done_is (turning_after z).good) leaves_room r list' store' area' tickets' given);
          T = changed_all mine (o.T ++ records x.page);
          turning = turning_after z;
          within = λ y ys e. subst (Within 4096 B t' (y ∷ ys)) (sym (left_is r change_is value_is)) (rw (done_is, ← e)
              (a_digest_stays_within 4096 n m q even B t (records x.page) (2 * merge_below 4096) (leaf_body 4096 n m q even x leaf_right.good) (proper 4096 n m q even x leaf_right.good).fitting xs mine later
              (all_taken c o.edits_right.fitting) o.turning.fitting used begin c y.separator (ap cutoff_by e)));
          change_in = change_after r change_is value_is;
          values_are = values_after r change_is value_is;
          edits_right = rw (left_is r change_is value_is) right_later;
          above = λ s e. rw (left_is r change_is value_is) (above_later s e);
        }

      -- ---- copied

      module _ (b : is_loaded at to ≡ false) where
        only : LeafCopied at leaf pages area tickets r area' tickets'
        only = (turned.copied b).copied

        abbrev copy : Turned
        copy = copied u eu (Ok r) list' store' area' tickets' g₀ b

        copy_is : t' ≡ copy
        copy_is = copied_turn u eu (Ok r) list' store' area' tickets' g₀ b

        nothing_kept : t.kept ≡ []
        nothing_kept = none_kept u eu (Ok r) list' store' area' tickets' g₀ b

        none_taken : count_below c cs ≡ 0
        none_taken =
            let f : ltb at.change (at.change + count_below c cs) ≡ false = some_are_taken c cs vs at.change ∙ (quiet u eu (Ok r) list' store' area' tickets' g₀ b).0 in
            omega (arith, ltb-false at.change (at.change + count_below c cs) f)

        copied_change : r.change ≡ at.change + count_below c cs
        copied_change = ap (λ (y : RowAt). y.change) only.is ∙ omega (arith, none_taken)

        copied_value : r.value ≡ at.value + values_length (take (count_below c cs) cs)
        copied_value = ap (λ (y : RowAt). y.value) only.is ∙ omega (arith, ap (λ (j : ℕ). values_length (take j cs)) none_taken)

        later_is : later ≡ left at
        later_is = sym (left_is at (omega (arith, none_taken)) (omega (arith, ap (λ (j : ℕ). values_length (take j cs)) none_taken)))

        room_for_it : (at.leaves + 1) * 65 ≤ length tickets₀
        room_for_it = omega (arith, mul-le-mul_right 65 one_more_fits, ticket_room, leaves_are)

        copied_within : Within 4096 B copy xs later
        copied_within = subst (Within 4096 B copy xs) (sym later_is) (a_copy_stays_within 4096 n m q even B t x xs (left at) (o.within x xs here_is) nothing_kept)

        copied_on : On t' r list' store' area' tickets' (i + 1)
        copied_on = record {
          written = rw copy_is (a_copy_is_written area₀ tickets₀ t (cutoff_by (drop i row)) at list store area tickets o.written nothing_kept x leaf_right.good x_long room_for_it leaf pages page_is separator_is c r list' store' area' tickets'
              (turned.copied b).list_is (turned.copied b).store_is only);
          T = changed_all mine (o.T ++ records x.page);
          turning = turning_after z;
          within = λ y ys e. subst (Within 4096 B t' (y ∷ ys)) (sym (left_is r copied_change copied_value)) (rw (copy_is, ← e) copied_within);
          change_in = change_after r copied_change copied_value;
          values_are = values_after r copied_change copied_value;
          edits_right = rw (left_is r copied_change copied_value) right_later;
          above = λ s e. rw (left_is r copied_change copied_value) (above_later s e);
        }

      -- ---- either

      record After : Type 0 where
        on : On t' r list' store' area' tickets' (i + 1)
        left_after : left r ≡ later

      after : After
      after = go (is_loaded at to) refl
        where
          go : (b : Bool) → is_loaded at to ≡ b → After
          go true b = record { on = loaded_on b; left_after = left_is r (change_is b) (value_is b) }
          go false b = record { on = copied_on b; left_after = left_is r (copied_change b) (copied_value b) }

      pub one_leaf_more : Stands r list' store' area' tickets' (i + 1)
      one_leaf_more = record {
        in_row = omega (arith, there_is);
        list_long = turned.list_long ∙ k.list_long;
        store_long = turned.store_long ∙ k.store_long;
        area_long = turned.area_long ∙ k.area_long;
        tickets_long = turned.tickets_long ∙ k.tickets_long;
        t = t';
        accepted = z;
        ends = ends_after (left r) (λ y. after.left_after);
        on = after.on;
      }

  -- ---- the last leaf was taken

  module _ (at : RowAt) (list : List Entry) (store area tickets : List ℕ) (i : ℕ) (k : Stands at list store area tickets i) (past : length separators ≤ i) where
    none_left : drop i row ≡ []
    none_left = let e : i ≡ length separators = omega (arith, past, k.in_row) in ap (λ (j : ℕ). drop j row) (e ∙ sym (row_length 4096 pages separators)) ∙ drop-length row

    whole_is : k.t ≡ turns 4096 n m (nothing_yet 4096 n m) row edits
    whole_is = sym (ap (λ (ys : List RowLeaf). turns 4096 n m k.t ys (left at)) none_left) ∙ k.ends

    pub the_last_leaf_ends_the_row : RowTurned list₀ store₀ pages separators changes values area₀ tickets₀ (Ok at) list store area tickets
    the_last_leaf_ends_the_row = rw (← whole_is) (record {
      number_is = sym k.accepted;
      written = a_row_is_written area₀ tickets₀ k.t (cutoff_by (drop i row)) at list store area tickets k.on.written (k.on.turning.merges (ap cutoff_by none_left));
    })

  -- ---- the turns of all leaves

  -- where they ended: behind the last leaf, or with one that was refused
  pub data Ended : Result RowAt Refusal → List Entry → List ℕ → List ℕ → List ℕ → Type 0 where
    behind_the_last : (at : RowAt) (list : List Entry) (store area tickets : List ℕ) (i : ℕ) → Stands at list store area tickets i → length separators ≤ i → Ended (Ok at) list store area tickets
    with_a_refused_leaf : (at : RowAt) (list : List Entry) (store area tickets : List ℕ) (i : ℕ) → Stands at list store area tickets i → i < length separators
        → (u : Turn) → u ≡ turn_by at separators changes i → (f : Refusal) (list' : List Entry) (store' area' tickets' : List ℕ)
        → LeafTurned u list store lent area tickets (Err f) list' store' area' tickets' → Ended (Err f) list' store' area' tickets'

  pub the_row_is_turned : {r : Result RowAt Refusal} {list : List Entry} {store area tickets : List ℕ} → Ended r list store area tickets
      → RowTurned list₀ store₀ pages separators changes values area₀ tickets₀ r list store area tickets
  the_row_is_turned (behind_the_last at list store area tickets i k past) = the_last_leaf_ends_the_row at list store area tickets i k past
  the_row_is_turned (with_a_refused_leaf at list store area tickets i k there_is u eu f list' store' area' tickets' g) =
      a_refused_leaf_ends_the_row at list store area tickets i k there_is u eu f list' store' area' tickets' g
