-- Leaves cut off what is pending one by one are those of document 01's step 3; the invariant of cutting them. Assumes nothing.
use mathlib.Core.Path.{◌≡◌, refl, sym, ap, ◌∙◌}
use mathlib.Core.Bool.{Bool, true, false}
use mathlib.Core.Option.{none, some}
use Rattle.std.specs.Prelude.{Some}
use mathlib.Core.List.{List, [], ◌∷◌, ◌++◌, append-nil, append_assoc}
use Prim.Native.Nat.{ℕ, ◌+◌, ◌≤◌, ◌<◌}
use native.Mathlib.Omega.{arith}
use lib.ListN.{length, take, drop, length-append, take-append-drop}
use lib.Seq.{length-take-le}
use Rattle.bit_ops.specs.Key.{lt_key}
use Rattle.leaf_node.specs.Limits.{body_limit, pages_asked}
use Rattle.leaf_node.specs.Record.{Record, cost, body, total}
use Rattle.leaf_node.specs.Fits.{All, Keyed, Fitting}
use Rattle.leaf_model.specs.Basics.{joined, nonempty}
use Rattle.leaf_model.specs.Cut.{Cut, nothing_cut, with_leaf, target_of, cut, cut_all}
use Rattle.leaf_model.specs.Work.{is_rising, closes, finish, plan}
use Rattle.leaf_model.proofs.Tests.{and_right, clash}
use Rattle.leaf_model.proofs.Lists.{all_head, all_left, all_right_lem, all_map}
use Rattle.leaf_model.proofs.Cutting.{LeafSized, limits_agree, cut_leaves_fit, target_enough, target_fits}
use Rattle.leaf_model.proofs.Plan.{leaves_never_more_than_pages_asked}
use Rattle.leaf_model.proofs.AsThePaperSays.{continued, first_leaf}
use Rattle.leaf_work.specs.declared.Entry.{Entry}
use Rattle.leaf_work.specs.declared.Work.{Work}
use Rattle.leaf_work.specs.Lent.{cutoff_of}
use Rattle.leaf_cut.specs.declared.Gauge.{Gauge}
use Rattle.leaf_cut.specs.declared.Cursor.{Cursor}
use Rattle.leaf_cut.specs.declared.Taken as code
use Rattle.leaf_cut.specs.Records.{span_of, records_from}
use Rattle.leaf_cut.specs.Steps.{CursorIn, Leafed}
use Rattle.leaf_cut.proofs.Records.{taken_by, what_is_ready_is_kept, cutting_by_chunks_is_cutting_by_records, the_cursor_stands_behind_the_leaf, the_leaf_has_its_bytes, the_leaf_has_its_records}
use Rattle.leaf_give.specs.declared.Progress.{Progress}
use Rattle.leaf_give.specs.Giving.{pending, Gives}
use Rattle.leaf_give.specs.Steps.{aim_of, LeafThere, LeafGiven, Along, Begun}
use Rattle.leaf_give.proofs.Onward.{no_leaf_is_given_yet, the_area_has_room, the_tickets_have_room, one_more_leaf_is_given}

-- leaves, and behind them those of a cut
abbrev pub after : List (List Record) → Cut → Cut
after ls c = record { leaves = ls ++ c.leaves; left = c.left }

-- what is cut is among the leaves that a digest gives
few_finished : (b : Bool) (ls : List (List Record)) (left : List Record) → length ls ≤ length (finish b ls left).leaves
few_finished b ls [] = omega arith
few_finished true ls (r ∷ rs) = omega (arith, length-append ls ((r ∷ rs) ∷ []))
few_finished false ls (r ∷ rs) = omega arith

has_records : (l : List Record) → nonempty l ≡ true → 0 < length l
has_records [] h = clash h refl
has_records (r ∷ rs) h = omega arith

rise_right : (l m : List Record) → is_rising (l ++ m) ≡ true → is_rising m ≡ true
rise_right [] m h = h
rise_right (x ∷ []) [] h = refl
rise_right (x ∷ []) (r ∷ rs) h = and_right (lt_key x.key r.key) (is_rising (r ∷ rs)) h
rise_right (x ∷ y ∷ ys) m h = rise_right (y ∷ ys) m (and_right (lt_key x.key y.key) (is_rising ((y ∷ ys) ++ m)) h)

module _ (size : ℕ) (w : Work) (list : List Entry) (store page area tickets : List ℕ) (target : ℕ) where
  -- the leaves so far have been given out, those behind them are still to be cut, and `next` was sought as the first of these
  pub record Cutting (p : Progress) (a t : List ℕ) (next : code.Taken) : Type 0 where
    pub so_far : Cut
    pub along : Along size w list store page area tickets so_far p a t
    pub rest : cut_all size (pending size w list store page) ≡ after so_far.leaves (cut (body_limit size) target [] 0 so_far.left)
    pub leafed : Leafed (aim_of size target) list page (span_of w) p.at next

module _ (size : ℕ) (w : Work) (list : List Entry) (store page area tickets : List ℕ) (g : Gives size w list store page area tickets) where
  abbrev all : List Record
  all = pending size w list store page

  pub cut_leaves_have_pages : length (cut_all size all).leaves ≤ pages_asked size (body all)
  unfolding plan
  cut_leaves_have_pages =
      omega (arith, few_finished (closes size (cutoff_of w) (body (cut_all size all).left)) (cut_all size all).leaves (cut_all size all).left, leaves_never_more_than_pages_asked size g.sized (cutoff_of w) all g.fitting)

  -- what is left is the end of what is pending
  module _ (ls : List (List Record)) (left : List Record) (whole : joined ls ++ left ≡ all) where
    pub left_keyed : All Keyed left
    left_keyed = all_right_lem (joined ls) left (rw whole g.keyed)

    pub left_rises : is_rising left ≡ true
    left_rises = rise_right (joined ls) left (rw whole g.rise)

    left_fitting : All (λ r. cost r ≤ body_limit size) left
    left_fitting =
        let a : All (Fitting size) left = all_right_lem (joined ls) left (rw whole g.fitting) in
        all_map (λ r h. omega (arith, (limits_agree size g.sized).room)) a

  module _ (target : ℕ) where
    module _ (e : target_of size (body all) ≡ Some target) where
      -- what seeking a leaf requires
      a_leaf_can_be_sought : (at : Cursor) → CursorIn list page (span_of w) at
          → (CursorIn list page (span_of w) at) × (0 < target) × (target ≤ body_limit size) × (body_limit size ≤ 32767)
      unfolding body_limit
      a_leaf_can_be_sought at h = (
        h,
        omega (arith, target_enough size g.sized (body all) target e, (limits_agree size g.sized).some_body),
        target_fits size g.sized (body all) target e,
        omega (arith, g.sized.most),
      )

      all_cut : cut_all size all ≡ cut (body_limit size) target [] 0 all
      unfolding cut_all
      all_cut = rw (e, cut_all)

      pub the_first_leaf_can_be_sought : (p : Progress) → Begun size w list store page p
          → (CursorIn list page (span_of w) p.at) × (0 < target) × (target ≤ body_limit size) × (body_limit size ≤ 32767)
      the_first_leaf_can_be_sought p b = a_leaf_can_be_sought p.at (no_leaf_is_given_yet size w list store page area tickets g p b).there

      pub cutting_begins : (p : Progress) → Begun size w list store page p → (next : code.Taken) → Leafed (aim_of size target) list page (span_of w) p.at next → Cutting size w list store page area tickets target p area tickets next
      cutting_begins p b next l = record {
        so_far = nothing_cut all;
        along = no_leaf_is_given_yet size w list store page area tickets g p b;
        rest = all_cut;
        leafed = l;
      }

      module _ (p : Progress) (a t : List ℕ) (next : code.Taken) (i : Cutting size w list store page area tickets target p a t next) where
        abbrev c : Cut
        c = i.so_far

        abbrev R : List Record
        R = records_from (span_of w) list store page p.at

        R_left : R ≡ c.left
        R_left = i.along.left_is

        R_whole : joined c.leaves ++ R ≡ all
        R_whole = ap (λ (x : List Record). joined c.leaves ++ x) R_left ∙ i.along.whole

        rest_R : cut_all size all ≡ after c.leaves (cut (body_limit size) target [] 0 R)
        rest_R = i.rest ∙ ap (λ (x : List Record). after c.leaves (cut (body_limit size) target [] 0 x)) (sym R_left)

        cut_R : cut (body_limit size) target [] 0 R ≡ continued (body_limit size) target [] R (taken_by next.end R)
        cut_R =
            first_leaf (body_limit size) target [] R (left_fitting c.leaves R R_whole)
            ∙ ap (continued (body_limit size) target [] R) (cutting_by_chunks_is_cutting_by_records w list store page g.ready (aim_of size target) p.at next i.leafed)

        -- nothing more is cut
        pub no_leaf_is_left_to_cut : next.end.cut ≡ false → Along size w list store page area tickets (cut_all size all) p a t
        no_leaf_is_left_to_cut f =
            let n : taken_by next.end R ≡ none = rw f in
            let q : cut (body_limit size) target [] 0 R ≡ nothing_cut R = cut_R ∙ ap (continued (body_limit size) target [] R) n in
            let d : cut_all size all ≡ c = rest_R ∙ ap (after c.leaves) q ∙ (λ j. record { leaves = append-nil c.leaves j; left = R_left j }) in
            rw d i.along

        -- a leaf
        module _ (f : next.end.cut ≡ true) where
          abbrev leaf : Gauge
          leaf = next.end.leaf

          abbrev l : List Record
          l = take next.end.leaf.count R

          abbrev b : List Record
          b = records_from (span_of w) list store page next.at

          behind_is : drop next.end.leaf.count R ≡ b
          behind_is = the_cursor_stands_behind_the_leaf w list store page g.ready (aim_of size target) p.at next i.leafed

          cut_off : cut (body_limit size) target [] 0 R ≡ with_leaf l (cut (body_limit size) target [] 0 b)
          cut_off =
              let n : taken_by next.end R ≡ some (record { leaf = l; remaining = drop next.end.leaf.count R }) = rw f in
              cut_R ∙ ap (continued (body_limit size) target [] R) n ∙ ap (λ (x : List Record). with_leaf l (cut (body_limit size) target [] 0 x)) behind_is

          rest_off : cut_all size all ≡ after (c.leaves ++ (l ∷ [])) (cut (body_limit size) target [] 0 b)
          rest_off =
              let d : Cut = cut (body_limit size) target [] 0 b in
              rest_R ∙ ap (after c.leaves) cut_off ∙ (λ j. record { leaves = sym (append_assoc c.leaves (l ∷ []) d.leaves) j; left = d.left })

          leaf_sized : LeafSized size l
          leaf_sized =
              let d : Cut = cut (body_limit size) target [] 0 b in
              let a : All (LeafSized size) ((c.leaves ++ (l ∷ [])) ++ d.leaves) = rw (ap (λ (x : Cut). x.leaves) rest_off) at (cut_leaves_fit size g.sized all g.fitting).leaves in
              all_head (all_right_lem c.leaves (l ∷ []) (all_left (c.leaves ++ (l ∷ [])) d.leaves a))

          few : length c.leaves + 1 ≤ pages_asked size (body all)
          few =
              let d : Cut = cut (body_limit size) target [] 0 b in
              let n : length (cut_all size all).leaves ≡ length ((c.leaves ++ (l ∷ [])) ++ d.leaves) = ap (λ (x : Cut). length x.leaves) rest_off in
              omega (arith, n, length-append (c.leaves ++ (l ∷ [])) d.leaves, length-append c.leaves (l ∷ []), cut_leaves_have_pages)

          many : next.end.leaf.count ≤ length R
          many = the_leaf_has_its_records w list store page g.ready (aim_of size target) p.at next i.leafed

          some_record : 0 < next.end.leaf.count
          some_record =
              let n : length l ≡ next.end.leaf.count = length-take-le next.end.leaf.count R many in
              omega (arith, n, has_records l leaf_sized.some_record)

          leaf_there : LeafThere size list store page (span_of w) p leaf next.at (length a) (length t)
          leaf_there = record {
            kept = what_is_ready_is_kept w list store page g.ready;
            from_in = i.along.there;
            behind_in = i.leafed.there;
            fits = record {
              there = many;
              bytes = the_leaf_has_its_bytes w list store page g.ready (aim_of size target) p.at next i.leafed;
              fits = record { sized = g.sized; keys = all_left l (drop next.end.leaf.count R) (rw (take-append-drop next.end.leaf.count R) (left_keyed c.leaves R R_whole)); room = leaf_sized.fits };
            };
            rest = behind_is;
            some_record = some_record;
            rise = left_rises c.leaves R R_whole;
            count_is = i.along.count_is ∙ ap length (sym R_left);
            bytes_is = i.along.bytes_is ∙ ap total (sym R_left);
            page_room_lem = the_area_has_room size w list store page area tickets g c p a t i.along few;
            ticket_room = the_tickets_have_room size w list store page area tickets g c p a t i.along few;
          }

          pub a_leaf_can_be_given : LeafThere size list store page (span_of w) p next.end.leaf next.at (length a) (length t)
          a_leaf_can_be_given = leaf_there

          module _ (r : Progress) (a' t' : List ℕ)
              (m : LeafGiven size list store page (span_of w) p next.end.leaf next.at (cutoff_of w) a t r a' t') where
            given : LeafGiven size list store page (span_of w) p leaf next.at (cutoff_of w) a t r a' t'
            given = m

            along_further : Along size w list store page area tickets (record { leaves = c.leaves ++ (l ∷ []); left = b }) r a' t'
            along_further = one_more_leaf_is_given size w list store page area tickets g c p a t i.along leaf next.at leaf_there r a' t' given

            pub the_next_leaf_can_be_sought : (CursorIn list page (span_of w) r.at) × (0 < target) × (target ≤ body_limit size) × (body_limit size ≤ 32767)
            the_next_leaf_can_be_sought = a_leaf_can_be_sought r.at along_further.there

            pub cutting_goes_on : (next' : code.Taken) → Leafed (aim_of size target) list page (span_of w) r.at next' → Cutting size w list store page area tickets target r a' t' next'
            cutting_goes_on next' l' = record {
              so_far = record { leaves = c.leaves ++ (l ∷ []); left = b };
              along = along_further;
              rest = rest_off;
              leafed = l';
            }
