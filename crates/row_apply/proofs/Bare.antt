-- A row without leaves that takes changes: it is opened without a base. Any other row is taken leaf by leaf. Assumes nothing.
use mathlib.Core.Path.{◌≡◌, refl, sym, ap, subst, ◌∙◌}
use mathlib.Core.Bool.{Bool, true, false, not}
use mathlib.Core.Option.{none}
use mathlib.Core.List.{List, [], ◌∷◌, ◌++◌}
use Prim.Native.Nat.{ℕ, ◌+◌, ◌-◌, ◌*◌, ◌≤◌}
use native.Mathlib.Omega.{arith}
use native.Mathlib.Nat.{le_of_eq, mul-le-mul_right}
use lib.Dec.{eqb}
use lib.ListN.{length, take, drop}
use lib.Seq.{take-length}
use borrow.Author.Tests.{eqb-true, not-true}
use Rattle.std.specs.Prelude as std
use Rattle.std.specs.Prelude.{Result, Ok, Err}
use Rattle.refusal.specs.declared.Refusal.{Refusal}
use Rattle.refusal.specs.Numbers.{number_of}
use Rattle.leaf_node.specs.Limits.{PageSize, pages_asked}
use Rattle.leaf_node.specs.Record.{Record, body}
use Rattle.leaf_node.specs.Page.{run, records_between, records}
use Rattle.leaf_node.specs.Good.{Good}
use Rattle.leaf_node.specs.Fits.{All, nil, cons}
use Rattle.leaf_model.specs.Basics.{nonempty}
use Rattle.leaf_model.specs.Work.{zero_key, plan}
use Rattle.leaf_model.proofs.Tests.{clash, and_left, and_right, none_is_not_some}
use Rattle.leaf_model.proofs.Lists.{all_map}
use Rattle.leaf_model.proofs.Plan.{kept_records_wait_for_a_merge}
use Rattle.leaf_work.specs.declared.Entry.{Entry}
use Rattle.leaf_work.proofs.Laid.{an_ignored_page_has_no_records}
use Rattle.leaf_open.proofs.Openings.{a_page_has_4096_bytes}
use Rattle.row_turns.specs.Row.{RowLeaf, is_from_zero}
use Rattle.row_turns.specs.Changes.{Edit, EditsRight, changed_all, inserted_body, row_pages_asked}
use Rattle.row_turns.specs.Turns.{Turned, load_verdict, digested_to, loaded, nothing_yet, row_turned}
use Rattle.row_turns.proofs.Turning.{loaded_is}
use Rattle.row_turns.proofs.Asked.{a_full_page_of_4096_bytes_is_two_least_leaves, changes_add_what_they_insert, asked_within, count_leaves}
use Rattle.row_changes.specs.Packed.{edits_of}
use Rattle.row_changes.specs.Tests.{values_length, put_bodies}
use Rattle.row_changes.proofs.Edits.{inserted_bodies_are_those_of_the_entries, changes_that_pass_are_right}
use Rattle.row_check.specs.Verdict.{row_of}
use Rattle.row_check.proofs.Facts.{Passed, a_row_that_passes, new_pages_are_good, the_new_row_fits_the_area}
use Rattle.row_tickets.proofs.NewRow.{no_leaf_is_linked}
use Rattle.row_leaf.specs.declared.LeafAt.{LeafAt}
use Rattle.row_leaf.specs.declared.RowAt.{RowAt}
use Rattle.row_leaf.specs.Leaf.{leaf_at}
use Rattle.row_leaf.specs.Load.{LeavesGiven, changes_in, edits_in, pending_in, LoadThere, LeafLoaded}
use Rattle.row_leaves.specs.Turns.{nothing_at, RowThere, RowWritten}
use Rattle.row_leaves.proofs.Stands.{Written, a_load_is_written, a_row_is_written, above_zeros}
use Rattle.row_apply.specs.Apply.{is_bare, RowTaken}

abbrev q : PageSize 4096
q = a_page_has_4096_bytes

no_records : records [] ≡ []
unfolding records records_between run
no_records = rw an_ignored_page_has_no_records

none_there : {A : Type 0} (xs : List A) → length xs ≡ 0 → xs ≡ []
none_there [] e = refl
none_there (x ∷ xs) e = absurd (omega (arith, e))

all_good : (xs : List RowLeaf) → All (λ x. Good 4096 x.page) (is_from_zero xs) → All (λ x. Good 4096 x.page) xs
all_good [] a = nil
all_good (x ∷ xs) (cons g a) = cons g a

module _ (list : List Entry) (store pages : List ℕ) (separators changes : List (List ℕ)) (values area tickets : List ℕ) (h : RowThere list store pages separators changes values area tickets) where
  abbrev n : ℕ
  n = length list

  abbrev m : ℕ
  m = length store

  abbrev edits : List Edit
  edits = edits_of changes values

  passed : Passed 4096 n m pages separators changes (length values) (length area) (length tickets)
  passed = a_row_that_passes 4096 n m pages separators changes (length values) (length area) (length tickets) q h.passed

  -- ---- a row without leaves

  module _ (begun : RowAt) (eb : begun ≡ nothing_at) (leaf : LeafAt) (el : leaf ≡ leaf_at separators 0) (bare : is_bare (length separators) (length changes) ≡ true) where
    no_leaves : length separators ≡ 0
    no_leaves = eqb-true (length separators) 0 (and_left (eqb (length separators) 0) (not (eqb (length changes) 0)) bare)

    some_changes : eqb (length changes) 0 ≡ false
    some_changes = not-true (eqb (length changes) 0) (and_right (eqb (length separators) 0) (not (eqb (length changes) 0)) bare)

    abbrev empty : LeafAt
    empty = record { page = std.None; separator = zero_key; cutoff = std.None }

    leaf_is : leaf ≡ empty
    leaf_is = el ∙ ap (λ (ss : List (List ℕ)). leaf_at ss 0) (none_there separators no_leaves)

    right : EditsRight 4096 edits
    right = changes_that_pass_are_right 4096 changes values h.packed passed.fitting passed.rising

    changes_are : take (length changes - 0) (drop 0 changes) ≡ changes
    changes_are = let e : length changes - 0 ≡ length changes = omega arith in ap (λ (j : ℕ). take j changes) e ∙ take-length changes

    edits_are : edits_in nothing_at changes (length changes) values ≡ edits
    edits_are = ap (λ (cs : List (List ℕ)). edits_of cs values) changes_are

    abbrev P : List Record
    P = changed_all edits ([] ++ records [])

    pending_is : pending_in nothing_at empty list store pages (edits_in nothing_at changes (length changes) values) ≡ P
    pending_is = ap (λ (es : List Edit). changed_all es ([] ++ records [])) edits_are

    asked : pages_asked 4096 (body P) ≤ row_pages_asked 4096 (length separators) (put_bodies changes)
    asked =
        let a : body P ≤ inserted_body edits = omega (arith, changes_add_what_they_insert edits ([] ++ records []), ap body no_records) in
        let i = inserted_bodies_are_those_of_the_entries changes values passed.there in
        let w = asked_within 4096 n m q a_full_page_of_4096_bytes_is_two_least_leaves 0 (body P) (put_bodies changes) (omega (arith, a, i)) in
        omega (arith, w)

    there : LoadThere nothing_at empty list store pages changes (length changes) values area tickets
    there = record {
      leaf_right = record {
        page_there = record { inside = tt };
        separator_long = refl;
        cutoff_long = refl;
        base = λ e. clash e refl;
        bare = λ e. (refl, refl, refl);
      };
      room = passed.room;
      changes_there = omega arith;
      changes_in_lem = omega arith;
      values_in = omega arith;
      values_there = subst (λ (cs : List (List ℕ)). values_length cs ≤ length values) (sym changes_are) passed.there;
      right = rw edits_are right;
      above = rw edits_are (above_zeros right.keyed);
      below = rw edits_are (all_map (λ x k. refl) right.keyed);
      rests = (refl, h.list_clear, h.store_clear);
      area_room = subst (λ (rs : List Record). (0 + pages_asked 4096 (body rs)) * 4096 ≤ length area) (sym pending_is) (omega (arith, mul-le-mul_right 4096 asked, passed.area_room));
      ticket_room = subst (λ (rs : List Record). (0 + pages_asked 4096 (body rs)) * 65 ≤ length tickets) (sym pending_is) (omega (arith, mul-le-mul_right 65 asked, passed.ticket_room));
    }

    pub it_can_be_opened : LoadThere begun leaf list store pages changes (length changes) values area tickets
    it_can_be_opened = rw (eb, leaf_is) there

    -- ---- what its turn comes to

    abbrev t : Turned
    t = row_turned 4096 n m (row_of 4096 pages separators) edits

    abbrev opened : Turned
    opened = loaded 4096 n m (nothing_yet 4096 n m) zero_key none [] edits

    turned_is : t ≡ opened
    turned_is = ap (λ (ss : List (List ℕ)). row_turned 4096 n m (row_of 4096 pages ss) edits) (none_there separators no_leaves) ∙ with_changes changes some_changes
      where
        with_changes : (cs : List (List ℕ)) → eqb (length cs) 0 ≡ false → row_turned 4096 n m [] (edits_of cs values) ≡ loaded 4096 n m (nothing_yet 4096 n m) zero_key none [] (edits_of cs values)
        with_changes [] e = clash refl e
        with_changes (x ∷ xs) e = refl

    abbrev verdict : ℕ
    verdict = load_verdict n m [] [] edits

    verdict_is : opened.number ≡ verdict
    verdict_is = go (eqb verdict 0) refl
      where
        go : (y : Bool) → eqb verdict 0 ≡ y → opened.number ≡ verdict
        go true e = rw (loaded, e) (sym (eqb-true verdict 0 e))
        go false e = rw (loaded, e)

    module _ (list' : List Entry) (store' area' tickets' : List ℕ) (r : Result RowAt Refusal) (l : LeafLoaded begun leaf list store pages changes (length changes) values area tickets r list' store' area' tickets') where
      l₀ : LeafLoaded nothing_at empty list store pages changes (length changes) values area tickets r list' store' area' tickets'
      l₀ = rw (eb, leaf_is) at l

      number_is : number_of r ≡ t.number
      number_is =
          l₀.number_is
          ∙ ap (load_verdict n m [] (records [])) edits_are
          ∙ ap (λ (rs : List Record). load_verdict n m [] rs edits) no_records
          ∙ sym verdict_is
          ∙ ap (λ (u : Turned). u.number) (sym turned_is)

    module _ (list' : List Entry) (store' area' tickets' : List ℕ) (r : RowAt) (l : LeafLoaded begun leaf list store pages changes (length changes) values area tickets (Ok r) list' store' area' tickets') where
      z : t.number ≡ 0
      z = sym (number_is list' store' area' tickets' (Ok r) l)

      abbrev Q : List Record
      Q = changed_all edits []

      abbrev digested_here : Turned
      digested_here = digested_to 4096 n m [] zero_key none Q

      done_is : t ≡ digested_here
      done_is = turned_is ∙ loaded_is 4096 n m q (nothing_yet 4096 n m) zero_key none [] edits (ap (λ (u : Turned). u.number) (sym turned_is) ∙ z)

      good : All (λ x. Good 4096 x.page) digested_here.row
      good = subst (λ (u : Turned). All (λ x. Good 4096 x.page) u.row) done_is (all_good t.row (new_pages_are_good 4096 q n m pages separators changes values (length area) (length tickets) h.packed h.passed z))

      fits : length (is_from_zero t.row) * 65 ≤ length tickets
      fits = (the_new_row_fits_the_area 4096 q n m pages separators changes values (length area) (length tickets) h.packed h.passed z a_full_page_of_4096_bytes_is_two_least_leaves).1

      same_length : (xs : List RowLeaf) → length (is_from_zero xs) ≡ length xs
      same_length [] = refl
      same_length (x ∷ xs) = refl

      room : (0 + length (plan 4096 none Q).leaves) * 65 ≤ length tickets
      room =
          let p = plan 4096 none Q in
          let c : length digested_here.row ≡ length p.leaves = count_leaves 4096 n m q a_full_page_of_4096_bytes_is_two_least_leaves zero_key none (nonempty p.left) p.leaves p.left in
          let d : length (is_from_zero t.row) ≡ length p.leaves = same_length t.row ∙ ap (λ (u : Turned). length u.row) done_is ∙ c in
          omega (arith, mul-le-mul_right 65 (le_of_eq (sym d)), fits)

      pending_here : pending_in nothing_at empty list store pages (edits_in nothing_at changes (length changes) values) ≡ Q
      pending_here = pending_is ∙ ap (λ (rs : List Record). changed_all edits ([] ++ rs)) no_records

      given : LeavesGiven nothing_at zero_key none Q (length changes) (0 + values_length (changes_in nothing_at changes (length changes))) area tickets r list' store' area' tickets'
      given = subst (λ (rs : List Record). LeavesGiven nothing_at zero_key none rs (length changes) (0 + values_length (changes_in nothing_at changes (length changes))) area tickets r list' store' area' tickets') pending_here
          (l₀ list' store' area' tickets' (Ok r) l).given

      before : Written area tickets (nothing_yet 4096 n m) none nothing_at list store area tickets
      before = record {
        linked_to = no_leaf_is_linked tickets;
        area_is = refl;
        good = nil;
        rests = (refl, h.list_clear, h.store_clear);
      }

      after : Written area tickets digested_here none r list' store' area' tickets'
      after = a_load_is_written area tickets n m (nothing_yet 4096 n m) nothing_at list store area tickets none none before zero_key none Q (length changes) (0 + values_length (changes_in nothing_at changes (length changes))) refl good room r list' store' area' tickets' given

      nothing_left : digested_here.kept ≡ []
      nothing_left = go (plan 4096 none Q).left refl
        where
          go : (left : List Record) → (plan 4096 none Q).left ≡ left → digested_here.kept ≡ []
          go [] e = e
          go (x ∷ xs) e = let k = kept_records_wait_for_a_merge 4096 none Q (ap nonempty e) in none_is_not_some k.1

      taken : RowWritten (is_from_zero t.row) area tickets r list' store' area' tickets'
      taken = subst (λ (u : Turned). RowWritten (is_from_zero u.row) area tickets r list' store' area' tickets') (sym done_is) (a_row_is_written area tickets digested_here none r list' store' area' tickets' after nothing_left)

    pub an_empty_row_is_taken : (r : Result RowAt Refusal) (list' : List Entry) (store' area' tickets' : List ℕ) → LeafLoaded begun leaf list store pages changes (length changes) values area tickets r list' store' area' tickets'
        → RowTaken list store pages separators changes values area tickets r list' store' area' tickets'
    an_empty_row_is_taken (Ok r) list' store' area' tickets' l = record { number_is = number_is list' store' area' tickets' (Ok r) l; written = taken list' store' area' tickets' r l }
    an_empty_row_is_taken (Err f) list' store' area' tickets' l = record { number_is = number_is list' store' area' tickets' (Err f) l; written = tt }
