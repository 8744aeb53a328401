-- Where giving leaves begins, and step 4: what is left is kept, or is one more leaf. Assumes nothing.
use mathlib.Core.Path.{◌≡◌, refl, sym, ap, ap₂, ◌∙◌}
use mathlib.Core.Bool.{Bool, true, false, ◌&&◌}
use Rattle.std.specs.Prelude.{None, Some}
use mathlib.Core.List.{List, [], ◌∷◌, ◌++◌}
use Prim.Native.Nat.{ℕ, ◌+◌, ◌-◌, ◌*◌, ◌≤◌, ◌<◌}
use native.Mathlib.Omega.{arith}
use lib.Dec.{ltb}
use lib.ListN.{length, take, drop, length-append, length-drop}
use lib.Seq.{take_all}
use borrow.Author.Tests.{ltb-true, ltb-false, lt-leb, le-leb}
use Rattle.leaf_node.specs.Limits.{body_limit, merge_below, pages_asked}
use Rattle.leaf_node.specs.Record.{Record, body, total}
use Rattle.leaf_node.specs.Page.{count, values_size}
use Rattle.leaf_node.proofs.Lengths.{body_is_pointers_and_values}
use Rattle.leaf_model.specs.Cut.{Cut, nothing_cut, target_of, cut_all}
use Rattle.leaf_model.specs.Work.{closes, finish, plan}
use Rattle.leaf_model.proofs.Tests.{clash}
use Rattle.leaf_model.proofs.Cutting.{cut_leaves_fit}
use Rattle.leaf_model.proofs.Plan.{leaves_never_more_than_pages_asked}
use Rattle.leaf_work.specs.declared.Entry.{Entry}
use Rattle.leaf_work.specs.declared.Work.{Work}
use Rattle.leaf_work.specs.Tests.{is_set, key_if}
use Rattle.leaf_work.specs.Lent.{cutoff_of, separator_of}
use Rattle.leaf_work.specs.Digest.{overwrite}
use Rattle.leaf_cut.specs.declared.Gauge.{Gauge}
use Rattle.leaf_cut.specs.declared.Span.{Span}
use Rattle.leaf_cut.specs.declared.Cursor.{Cursor}
use Rattle.leaf_cut.specs.Records.{span_of, records_from}
use Rattle.leaf_cut.specs.Steps.{CursorIn, Kept}
use Rattle.leaf_cut.proofs.Records.{what_is_ready_is_kept}
use Rattle.leaf_write.proofs.Leaves.{rest_many}
use Rattle.leaf_give.specs.declared.Progress.{Progress}
use Rattle.leaf_give.specs.declared.Beginning.{Beginning}
use Rattle.leaf_give.specs.Giving.{pending, Gives, GivenOut}
use Rattle.leaf_give.specs.Steps.{LeafThere, LeafGiven, Along, Begun, BegunBy}
use Rattle.leaf_give.proofs.Separating.{the_pages_are_those_of_the_records}
use Rattle.leaf_give.proofs.Onward.{no_leaf_is_given_yet, the_area_has_room, the_tickets_have_room, one_more_leaf_is_given}
use Rattle.leaf_give.proofs.LeafByLeaf.{left_keyed, left_rises}

empty : {A : Type 0} (xs : List A) → length xs ≡ 0 → xs ≡ []
empty [] h = refl
empty (x ∷ xs) h = absurd (omega arith)

-- ---- step 4

abbrev kept : List (List Record) → List Record → Cut
kept ls left = record { leaves = ls; left = left }

finish_none : (b : Bool) (ls : List (List Record)) (left : List Record) → length left ≡ 0 → finish b ls left ≡ kept ls left
finish_none b ls [] h = refl
finish_none b ls (r ∷ rs) h = absurd (omega arith)

finish_waiting : (ls : List (List Record)) (left : List Record) → finish false ls left ≡ kept ls left
finish_waiting ls [] = refl
finish_waiting ls (r ∷ rs) = refl

finish_closing : (ls : List (List Record)) (left : List Record) → 0 < length left → finish true ls left ≡ kept (ls ++ (left ∷ [])) []
finish_closing ls [] h = absurd (omega arith)
finish_closing ls (r ∷ rs) h = refl

module _ (size : ℕ) (k : List ℕ) (b : ℕ) where
  waiting : (x : Bool) → (x && ltb b (merge_below size)) ≡ true → closes size (key_if x k) b ≡ false
  waiting true h = lt-leb (merge_below size) b (ltb-true b (merge_below size) h)
  waiting false h = clash h refl

  closing : (x : Bool) → (x && ltb b (merge_below size)) ≡ false → closes size (key_if x k) b ≡ true
  closing true h = le-leb (merge_below size) b (ltb-false b (merge_below size) h)
  closing false h = refl

module _ (size : ℕ) (w : Work) (list : List Entry) (store page area tickets : List ℕ) (g : Gives size w list store page area tickets) where
  abbrev all : List Record
  all = pending size w list store page

  -- ---- the start

  module _ (n : ℕ) (e : n ≡ count page) where
    module _ (b : Beginning) (h : BegunBy size w page n b) where
      abbrev u : Gauge
      u = b.start.left

      count_all : u.count ≡ length all
      count_all = omega (arith, h.count_is, g.counted, e)

      bytes_all : u.bytes ≡ total all
      bytes_all = h.bytes_is ∙ ap (λ (m : ℕ). w.bytes + values_size page w.low m) e ∙ sym g.summed

      body_all : 34 * u.count + u.bytes ≡ body all
      body_all = omega (arith, count_all, bytes_all, body_is_pointers_and_values all)

      pub giving_begins : Begun size w list store page b.start
      giving_begins = record {
        at_is = h.at_is;
        leaves_are = h.leaves_are;
        place_is = h.place_is;
        count_is = count_all;
        bytes_is = bytes_all;
        separator_is = h.separator_is;
      }

      target_is : target_of size (body all) ≡ b.target
      target_is = sym (h.target_is ∙ ap (target_of size) body_all)

      pub a_target_is_fixed : (target : ℕ) → b.target ≡ Some target → target_of size (body all) ≡ Some target
      a_target_is_fixed target c = target_is ∙ c

      pub nothing_is_cut : b.target ≡ None → Along size w list store page area tickets (cut_all size all) b.start area tickets
      unfolding cut_all
      nothing_is_cut c =
          let d : target_of size (body all) ≡ None = target_is ∙ c in
          let k : cut_all size all ≡ nothing_cut all = rw (d, cut_all) in
          rw k (no_leaf_is_given_yet size w list store page area tickets g _ giving_begins)

  -- ---- the end

  out : (p : Progress) (a t : List ℕ) → Along size w list store page area tickets (plan size (cutoff_of w) all) p a t → GivenOut size w list store page area tickets p a t
  out p a t o = record {
    area_is =
        o.area_is
        ∙ ap (λ (x : List ℕ). overwrite x area)
        (sym (the_pages_are_those_of_the_records size (separator_of w) (cutoff_of w) _ (plan size (cutoff_of w) all).leaves (plan size (cutoff_of w) all).left));
    tickets_are = o.tickets_are;
    leaves_are = o.leaves_are;
    place_is = o.place_is;
    there = o.there;
    left_is = o.left_is;
    count_is = o.count_is;
    bytes_is = o.bytes_is;
    separator_is = o.separator_is;
  }

  abbrev c : Cut
  c = cut_all size all

  module _ (p : Progress) (a t : List ℕ) (o : Along size w list store page area tickets (cut_all size (pending size w list store page)) p a t) where
    body_left : body c.left ≡ 34 * p.left.count + p.left.bytes
    body_left = omega (arith, body_is_pointers_and_values c.left, o.count_is, o.bytes_is)

    planned_as : (d : Cut) → finish (closes size (cutoff_of w) (body c.left)) c.leaves c.left ≡ d → plan size (cutoff_of w) all ≡ d
    unfolding plan
    planned_as d q = q

    pub nothing_is_left : p.left.count ≡ 0 → GivenOut size w list store page area tickets p a t
    nothing_is_left z = out p a t (rw (planned_as c (finish_none _ c.leaves c.left (omega (arith, o.count_is)))) o)

    left_small : 34 * p.left.count + p.left.bytes ≤ 32767
    unfolding body_limit
    left_small = omega (arith, body_left, (cut_leaves_fit size g.sized all g.fitting).left, g.sized.most)

    pub few_records_are_left : p.left.count ≤ 98304
    few_records_are_left = omega (arith, left_small)

    pub few_bytes_are_left : p.left.bytes ≤ 98304
    few_bytes_are_left = omega (arith, left_small)

    pub the_rest_waits : (x : Bool) → x ≡ (is_set w.cut && ltb (34 * p.left.count + p.left.bytes) (merge_below size)) → x ≡ true → GivenOut size w list store page area tickets p a t
    the_rest_waits x q h =
        let f : closes size (cutoff_of w) (body c.left) ≡ false = rw body_left (waiting size w.cutoff (34 * p.left.count + p.left.bytes) (is_set w.cut) (sym q ∙ h)) in
        out p a t (rw (planned_as c (ap (λ (b : Bool). finish b c.leaves c.left) f ∙ finish_waiting c.leaves c.left)) o)

    -- one more leaf
    module _ (x : Bool) (q : x ≡ (is_set w.cut && ltb (34 * p.left.count + p.left.bytes) (merge_below size))) (h : x ≡ false) (some : p.left.count ≡ 0 → ⊥)
        (n : ℕ) (e : n ≡ count page) where
      abbrev s : Span
      s = span_of w

      abbrev end : Cursor
      end = record { entry = w.used; skip = n - w.low }

      abbrev R : List Record
      R = records_from s list store page p.at

      abbrev b : List Record
      b = records_from s list store page end

      kept_all : Kept list store page s
      kept_all = what_is_ready_is_kept w list store page g.ready

      the_rest_has_an_end : w.low ≤ n
      the_rest_has_an_end = omega (arith, e, g.ready.low_in)

      some_left : 0 < length c.left
      some_left = omega (arith, some, o.count_is)

      planned_is : plan size (cutoff_of w) all ≡ kept (c.leaves ++ (c.left ∷ [])) []
      planned_is =
          let f : closes size (cutoff_of w) (body c.left) ≡ true = rw body_left (closing size w.cutoff (34 * p.left.count + p.left.bytes) (is_set w.cut) (sym q ∙ h)) in
          planned_as _ (ap (λ (y : Bool). finish y c.leaves c.left) f ∙ finish_closing c.leaves c.left some_left)

      end_in : CursorIn list page s end
      end_in = record {
        entry_in = omega arith;
        skip_in = λ (l : w.used < w.used). absurd (omega arith);
        rest_in = λ l. omega (arith, the_rest_has_an_end, e);
      }

      none_behind : b ≡ []
      none_behind = empty b (rest_many list store page s kept_all end end_in (omega arith) ∙ omega (arith, e))

      count_R : p.left.count ≡ length R
      count_R = o.count_is ∙ ap length (sym o.left_is)

      all_taken : take p.left.count R ≡ R
      all_taken = take_all p.left.count R (omega (arith, count_R))

      few : length c.leaves + 1 ≤ pages_asked size (body all)
      few =
          let m : length (plan size (cutoff_of w) all).leaves ≡ length (c.leaves ++ (c.left ∷ [])) = ap (λ (d : Cut). length d.leaves) planned_is in
          omega (arith, m, length-append c.leaves (c.left ∷ []), leaves_never_more_than_pages_asked size g.sized (cutoff_of w) all g.fitting)

      last_there : LeafThere size list store page s p p.left end (length a) (length t)
      last_there = record {
        kept = kept_all;
        from_in = o.there;
        behind_in = end_in;
        fits = record {
          there = omega (arith, count_R);
          bytes = o.bytes_is ∙ ap total (sym (all_taken ∙ o.left_is));
          fits = rw (all_taken, o.left_is) (record { sized = g.sized; keys = left_keyed size w list store page area tickets g c.leaves c.left o.whole; room = (cut_leaves_fit size g.sized all g.fitting).left });
        };
        rest = empty (drop p.left.count R) (length-drop p.left.count R ∙ omega (arith, count_R)) ∙ sym none_behind;
        some_record = omega (arith, o.count_is, some_left);
        rise = rw o.left_is (left_rises size w list store page area tickets g c.leaves c.left o.whole);
        count_is = count_R;
        bytes_is = o.bytes_is ∙ ap total (sym o.left_is);
        page_room_lem = the_area_has_room size w list store page area tickets g c p a t o few;
        ticket_room = the_tickets_have_room size w list store page area tickets g c p a t o few;
      }

      pub the_last_leaf_can_be_given : LeafThere size list store page (span_of w) p p.left (record { entry = w.used; skip = n - w.low }) (length a) (length t)
      the_last_leaf_can_be_given = last_there

      pub the_last_leaf_is_given : (r : Progress) (a' t' : List ℕ)
          → LeafGiven size list store page (span_of w) p p.left (record { entry = w.used; skip = n - w.low }) (cutoff_of w) a t r a' t'
          → GivenOut size w list store page area tickets r a' t'
      the_last_leaf_is_given r a' t' m =
          let d : LeafGiven size list store page s p p.left end (cutoff_of w) a t r a' t' = m in
          let u : Along size w list store page area tickets (kept (c.leaves ++ (take p.left.count R ∷ [])) b) r a' t' =
          one_more_leaf_is_given size w list store page area tickets g c p a t o p.left end last_there r a' t' d in
          let v : kept (c.leaves ++ (take p.left.count R ∷ [])) b ≡ plan size (cutoff_of w) all =
          ap₂ (λ (y z : List Record). kept (c.leaves ++ (y ∷ [])) z) (all_taken ∙ o.left_is) none_behind ∙ sym planned_is in
          out r a' t' (rw v at u)
