-- Leaf after leaf: what is in area and tickets once one more leaf is given out. Assumes nothing.
use mathlib.Core.Path.{◌≡◌, refl, sym, ap, ap₂, ◌∙◌}
use mathlib.Core.List.{List, [], ◌∷◌, ◌++◌, map}
use Prim.Native.Nat.{ℕ, ◌+◌, ◌*◌, ◌≤◌}
use native.Mathlib.Omega.{arith}
use native.Mathlib.Nat.{mul-le-mul_right}
use lib.ListN.{length, take, drop, length-append, length-drop}
use lib.Seq.{take_at, drop-append-add, drop-drop}
use Rattle.leaf_node.specs.Limits.{pages_asked}
use Rattle.leaf_node.specs.Record.{Record, body}
use Rattle.leaf_node.specs.Build.{put, build}
use Rattle.leaf_node.specs.Ticket.{packed_with}
use Rattle.leaf_node.specs.Fits.{All, nil, cons, Fits}
use Rattle.leaf_node.proofs.RoundTrips.{a_built_page_is_full_length}
use Rattle.leaf_model.specs.Basics.{joined, nonempty}
use Rattle.leaf_model.specs.Cut.{Cut, nothing_cut}
use Rattle.leaf_model.specs.Work.{leaf_cutoff, next_separator, separator_after, leaves_by}
use Rattle.leaf_model.proofs.Lists.{all_append}
use Rattle.leaf_work.specs.declared.Entry.{Entry}
use Rattle.leaf_work.specs.declared.Work.{Work}
use Rattle.leaf_work.specs.Lent.{cutoff_of, separator_of}
use Rattle.leaf_work.specs.Digest.{tickets_of, overwrite}
use Rattle.leaf_cut.specs.declared.Gauge.{Gauge}
use Rattle.leaf_cut.specs.declared.Cursor.{Cursor}
use Rattle.leaf_cut.specs.Records.{span_of, first_cursor, records_from}
use Rattle.leaf_cut.specs.Steps.{Spread, CursorIn}
use Rattle.leaf_cut.proofs.Walking.{an_entry_has_a_record}
use Rattle.leaf_cut.proofs.Records.{what_is_ready_is_spread, all_records_are_pending}
use Rattle.leaf_give.specs.declared.Progress.{Progress}
use Rattle.leaf_give.specs.Giving.{pending, Gives}
use Rattle.leaf_give.specs.Steps.{taken, behind, LeafThere, LeafGiven, Along, Begun}
use Rattle.leaf_give.proofs.OneLeaf.{both}
use Rattle.leaf_give.proofs.Separating.{followed, one_more_separator, one_more_ticket, one_more_page}

-- ---- buffers

overwrite_more : (xs ys old : List ℕ) (n : ℕ) → n ≡ length xs → put (overwrite xs old) n ys ≡ overwrite (xs ++ ys) old
unfolding put
overwrite_more xs ys old n e =
    let z : List ℕ = drop (length xs) old in
    let t : take (length xs) (xs ++ z) ≡ xs = take_at xs z (length xs) refl in
    let d : drop (length xs + length ys) (xs ++ z) ≡ drop (length (xs ++ ys)) old =
    drop-append-add xs z (length ys) ∙ drop-drop (length ys) (length xs) old ∙ ap (λ (k : ℕ). drop k old) (sym (length-append xs ys)) in
    rw (e, t, d)

length_overwrite : (xs old : List ℕ) → length xs ≤ length old → length (overwrite xs old) ≡ length old
length_overwrite xs old h = length-append xs (drop (length xs) old) ∙ omega (arith, length-drop (length xs) old)

pages_long : (size : ℕ) {ls : List (List Record)} → All (Fits size) ls → length (joined (map (build size) ls)) ≡ length ls * size
pages_long size nil = omega arith
pages_long size (cons {x = l} {xs = ls} f fs) = omega (arith, length-append (build size l) (joined (map (build size) ls)), a_built_page_is_full_length size l f, pages_long size fs)

-- ---- the row of leaves

module _ (size : ℕ) (w : Work) (list : List Entry) (store page area tickets : List ℕ) (g : Gives size w list store page area tickets) where
  spread : Spread list page (span_of w)
  spread = what_is_ready_is_spread w list store page g.ready

  first_in : CursorIn list page (span_of w) first_cursor
  first_in = record {
    entry_in = omega arith;
    skip_in = λ l. an_entry_has_a_record page _ (span_of w) (spread.entries 0 l) spread.rest;
    rest_in = λ e. omega (arith, spread.rest.low_in);
  }

  pub no_leaf_is_given_yet : (p : Progress) → Begun size w list store page p → Along size w list store page area tickets (nothing_cut (pending size w list store page)) p area tickets
  no_leaf_is_given_yet p b = record {
    area_is = refl;
    tickets_are = refl;
    leaves_are = b.leaves_are;
    place_is = b.place_is;
    short = omega (arith, b.place_is);
    there = rw b.at_is first_in;
    left_is = ap (records_from (span_of w) list store page) b.at_is ∙ all_records_are_pending w list store page;
    count_is = b.count_is;
    bytes_is = b.bytes_is;
    separator_is = b.separator_is;
    whole = refl;
    fits = nil;
  }

  module _ (c : Cut) (p : Progress) (a t : List ℕ) (o : Along size w list store page area tickets c p a t) where
    -- room for one more
    module _ (few : length c.leaves + 1 ≤ pages_asked size (body (pending size w list store page))) where
      page_room_lem : length c.leaves * size + size ≤ length area
      page_room_lem = omega (arith, mul-le-mul_right size few, g.area_room)

      pub the_area_has_room : p.leaves * size + size ≤ length a
      the_area_has_room =
          let l : length a ≡ length area = ap length o.area_is ∙ length_overwrite (joined (map (build size) c.leaves)) area (omega (arith, pages_long size o.fits, page_room_lem)) in
          let n : p.leaves * size ≡ length c.leaves * size = ap (λ (k : ℕ). k * size) o.leaves_are in
          omega (arith, l, n, page_room_lem)

      pub the_tickets_have_room : p.place + 65 ≤ length t
      the_tickets_have_room =
          let r : p.place + 65 ≤ length tickets = omega (arith, o.short, o.leaves_are, few, g.ticket_room) in
          let l : length t ≡ length tickets = ap length o.tickets_are ∙ length_overwrite (tickets_of (leaves_by (separator_of w) (cutoff_of w) c)) tickets (omega (arith, r, o.place_is)) in
          omega (arith, l, r)

    -- one more
    module _ (leaf : Gauge) (at : Cursor) (h : LeafThere size list store page (span_of w) p leaf at (length a) (length t)) (r : Progress) (a' t' : List ℕ)
        (m : LeafGiven size list store page (span_of w) p leaf at (cutoff_of w) a t r a' t') where
      abbrev l : List Record
      l = taken size list store page (span_of w) p leaf at

      abbrev b : List Record
      b = behind size list store page (span_of w) p leaf at

      abbrev pub further : Cut
      further = record { leaves = c.leaves ++ (taken size list store page (span_of w) p leaf at ∷ []); left = behind size list store page (span_of w) p leaf at }

      left_parts : c.left ≡ l ++ b
      left_parts = sym o.left_is ∙ both size list store page (span_of w) p leaf at (length a) (length t) h

      separator_was : p.separator ≡ separator_after (separator_of w) c.leaves (l ++ b)
      separator_was = o.separator_is ∙ ap (separator_after (separator_of w) c.leaves) left_parts

      abbrev ticket : List ℕ
      ticket = packed_with p.separator (leaf_cutoff l b (cutoff_of w))

      more_tickets : tickets_of (leaves_by (separator_of w) (cutoff_of w) further) ≡ tickets_of (leaves_by (separator_of w) (cutoff_of w) c) ++ ticket
      more_tickets =
          one_more_ticket l b (cutoff_of w) (nonempty b) (nonempty (l ++ b)) (separator_of w) c.leaves
          ∙ ap₂ (λ (x : List Record) (y : List ℕ). tickets_of (leaves_by (separator_of w) (cutoff_of w) (record { leaves = c.leaves; left = x })) ++ y) (sym left_parts)
          (ap (λ (x : List ℕ). packed_with x (leaf_cutoff l b (cutoff_of w))) (sym separator_was))

      more_pages : joined (map (build size) further.leaves) ≡ joined (map (build size) c.leaves) ++ build size l
      more_pages = one_more_page size c.leaves l

      pub one_more_leaf_is_given : Along size w list store page area tickets further r a' t'
      one_more_leaf_is_given = record {
        area_is =
            m.area_is
            ∙ ap (λ (x : List ℕ). put x (p.leaves * size) (build size l)) o.area_is
            ∙ overwrite_more (joined (map (build size) c.leaves)) (build size l) area (p.leaves * size) (ap (λ (n : ℕ). n * size) o.leaves_are ∙ sym (pages_long size o.fits))
            ∙ ap (λ (x : List ℕ). overwrite x area) (sym more_pages);
        tickets_are =
            m.tickets_are
            ∙ ap (λ (x : List ℕ). put x p.place ticket) o.tickets_are
            ∙ overwrite_more (tickets_of (leaves_by (separator_of w) (cutoff_of w) c)) ticket tickets p.place o.place_is
            ∙ ap (λ (x : List ℕ). overwrite x tickets) (sym more_tickets);
        leaves_are = omega (arith, m.leaves_are, o.leaves_are, length-append c.leaves (l ∷ []));
        place_is = omega (arith, m.place_is, o.place_is, ap length more_tickets, length-append (tickets_of (leaves_by (separator_of w) (cutoff_of w) c)) ticket);
        short = omega (arith, m.short, m.leaves_are, o.short);
        there = rw m.at_is h.behind_in;
        left_is = ap (records_from (span_of w) list store page) m.at_is;
        count_is = m.count_is;
        bytes_is = m.bytes_is;
        separator_is = m.separator_is ∙ ap (λ (x : List ℕ). next_separator x l b) separator_was ∙ sym (one_more_separator l b (separator_of w) c.leaves);
        whole = followed l b c.leaves ∙ ap (λ (x : List Record). joined c.leaves ++ x) (sym left_parts) ∙ o.whole;
        fits = all_append o.fits (cons h.fits.fits nil);
      }
