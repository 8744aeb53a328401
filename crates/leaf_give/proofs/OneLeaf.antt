-- One leaf: its page in the area, its ticket, and what follows it. Assumes nothing.
use mathlib.Core.Path.{◌≡◌, refl, sym, ap, subst, ◌∙◌}
use mathlib.Core.Bool.{true}
use mathlib.Core.Option.{Option}
use mathlib.Core.List.{List, [], ◌∷◌, ◌++◌, append_assoc}
use Prim.Native.Nat.{ℕ, ◌+◌, ◌-◌, ◌*◌, ◌^◌, ◌≤◌, ◌<◌}
use native.Mathlib.Omega.{arith}
use native.Mathlib.Nat.{mul-le-mul_left}
use lib.ListN.{length, take, drop, length-append, length-drop, take-append-drop}
use lib.Seq.{length-take-le, take_at, drop_at, drop-drop}
use borrow.Rule.Slice.PartMut.{put_mid}
use Rattle.bit_ops.specs.Separate.{separate_of, separate_leaves}
use Rattle.leaf_node.specs.Limits.{body_limit}
use Rattle.leaf_node.specs.Record.{Record, total}
use Rattle.leaf_node.specs.Page.{pointer, key_at}
use Rattle.leaf_node.specs.Build.{put, build}
use Rattle.leaf_node.specs.Ticket.{packed_with}
use Rattle.leaf_node.proofs.Lengths.{body_is_pointers_and_values}
use Rattle.leaf_node.proofs.RoundTrips.{a_built_page_is_full_length}
use Rattle.leaf_model.specs.Basics.{nonempty}
use Rattle.leaf_model.specs.Work.{zero_key, last_key, leaf_cutoff, is_rising}
use Rattle.leaf_work.specs.declared.Entry.{Entry}
use Rattle.leaf_work.proofs.Operations.{total_append}
use Rattle.leaf_cut.specs.declared.Gauge.{Gauge}
use Rattle.leaf_cut.specs.declared.Span.{Span}
use Rattle.leaf_cut.specs.declared.Cursor.{Cursor}
use Rattle.leaf_write.specs.Filling.{LeafFits, first_key, key_from}
use Rattle.leaf_write.proofs.Keys.{different_keys_are_separated, the_first_key_is_that_of_the_first_record, the_last_key_of_a_leaf}
use Rattle.leaf_give.specs.declared.Progress.{Progress}
use Rattle.leaf_give.specs.Steps.{progress_of, TicketAsked, between, first_of, TicketGiven, before, taken, behind, LeafThere, LeafGiven}
use Rattle.leaf_give.proofs.Separating.{a_lower_key_is_another, the_next_key_is_above_a_leaf, the_cutoff_of_a_leaf, the_separator_behind_a_leaf}

-- ---- the page

module _ (d : List ℕ) (from size : ℕ) (room : from + size ≤ length d) where
  part_long : length (take (from + size - from) (drop from d)) ≡ size
  part_long =
      let e : from + size - from ≡ size = omega arith in
      rw e (length-take-le size (drop from d) (rw (length-drop from d) (omega arith)))

  module _ (leaf : Gauge) (rs : List Record) (f : LeafFits size leaf rs) where
    pub a_page_is_put : (x : List ℕ) → x ≡ build (length (take (from + size - from) (drop from d))) (take leaf.count rs)
        → put_mid from (from + size - from) d x ≡ put d from (build size (take leaf.count rs))
    unfolding put
    a_page_is_put x q =
        let b : List ℕ = build size (take leaf.count rs) in
        let e : from + size - from ≡ size = omega arith in
        let l : length b ≡ size = a_built_page_is_full_length size (take leaf.count rs) f.fits in
        let y : x ≡ b = q ∙ ap (λ (n : ℕ). build n (take leaf.count rs)) part_long in
        rw (y, e, drop-drop size from d, l) (sym (append_assoc (take from d) b (drop (from + size) d)))

-- ---- page and ticket

-- what was put is there
put_part_lem : (d : List ℕ) (from size : ℕ) (b : List ℕ) → length b ≡ size → from + size ≤ length d → take (from + size - from) (drop from (put d from b)) ≡ b
unfolding put
put_part_lem d from size b l h =
    let e : from + size - from ≡ size = omega arith in
    rw (
      e,
      append_assoc (take from d) b (drop (from + length b) d),
      drop_at (take from d) (b ++ drop (from + length b) d) from (length-take-le from d (omega arith)),
      take_at b (drop (from + length b) d) size l,
    )

module _ (size : ℕ) (list : List Entry) (store page : List ℕ) (s : Span) (p : Progress) (leaf : Gauge) (at : Cursor) (area tickets : ℕ)
    (h : LeafThere size list store page s p leaf at area tickets) where
  -- what the leaf is taken off, the leaf, and what remains
  abbrev all : List Record
  all = before size list store page s p leaf at

  abbrev l : List Record
  l = taken size list store page s p leaf at

  abbrev b : List Record
  b = behind size list store page s p leaf at

  pub both : all ≡ l ++ b
  both = sym (take-append-drop leaf.count all) ∙ ap (λ (x : List Record). l ++ x) h.rest

  many : length l ≡ leaf.count
  many = length-take-le leaf.count all h.fits.there

  sums : total all ≡ total l + total b
  sums = ap total both ∙ total_append l b

  counts : length all ≡ length l + length b
  counts = ap length both ∙ length-append l b

  pub few_bytes_are_taken : leaf.bytes ≤ p.left.bytes
  few_bytes_are_taken = omega (arith, h.fits.bytes, h.bytes_is, sums)

  pub the_records_left : p.left.count - leaf.count ≡ length b
  the_records_left = omega (arith, h.count_is, counts, many)

  pub the_bytes_left : p.left.bytes - leaf.bytes ≡ total b
  the_bytes_left = omega (arith, h.bytes_is, sums, h.fits.bytes)

  pub few_leaves_are_given : p.leaves + 1 ≤ area
  few_leaves_are_given =
      let one : 1 ≤ size = omega (arith, h.fits.fits.sized.least) in
      let m : p.leaves * 1 ≤ p.leaves * size = mul-le-mul_left p.leaves one in
      omega (arith, m, h.page_room_lem)

  pub a_ticket_can_be_given : area < 2 ^ 64 → TicketAsked p leaf tickets
  a_ticket_can_be_given f = record {
    fewer = omega (arith, h.fits.there, h.count_is);
    less = few_bytes_are_taken;
    room = h.ticket_room;
    few = omega (arith, f, few_leaves_are_given);
  }

  page_long : length (build size l) ≡ size
  page_long = a_built_page_is_full_length size l h.fits.fits

  has_record : nonempty l ≡ true
  has_record = some_first l (omega (arith, many, h.some_record))
    where
      some_first : (xs : List Record) → 0 < length xs → nonempty xs ≡ true
      some_first [] m = absurd (omega arith)
      some_first (x ∷ xs) m = refl

  module _ (held built : List ℕ) (long : length held ≡ area) (q : built ≡ put held (p.leaves * size) (build size l)) where
    abbrev part : List ℕ
    part = take (p.leaves * size + size - p.leaves * size) (drop (p.leaves * size) built)

    part_is : part ≡ build size l
    part_is = rw q (put_part_lem held (p.leaves * size) size (build size l) page_long (omega (arith, h.page_room_lem)))

    pub the_last_key_is_there : pointer (leaf.count - 1 + 1) ≤ length (take (p.leaves * size + size - p.leaves * size) (drop (p.leaves * size) built))
    unfolding body_limit
    the_last_key_is_there =
        let e : length part ≡ size = ap length part_is ∙ page_long in
        omega (arith, e, h.fits.fits.room, h.fits.fits.sized.least, body_is_pointers_and_values l, many, h.some_record)

    abbrev last : List ℕ
    last = key_at (take (p.leaves * size + size - p.leaves * size) (drop (p.leaves * size) built)) (leaf.count - 1)

    separated : (r : Record) (rs : List Record) → b ≡ r ∷ rs → separate_leaves last r.key zero_key ≡ separate_of (last_key l) r.key
    separated r rs e =
        let k : last ≡ last_key l =
        ap (λ (x : List ℕ). key_at x (leaf.count - 1)) part_is ∙ ap (λ (m : ℕ). key_at (build size l) (m - 1)) (sym many) ∙ the_last_key_of_a_leaf size l h.fits.fits (omega (arith, many, h.some_record)) in
        let up : is_rising (l ++ (r ∷ rs)) ≡ true = rw (← e, ← both) h.rise in
        ap (λ (x : List ℕ). separate_leaves x r.key zero_key) k
        ∙ different_keys_are_separated (last_key l) r.key (a_lower_key_is_another (last_key l) r.key (the_next_key_is_above_a_leaf l r rs has_record up))

    given : (cutoff : Option (List ℕ)) (lent : List ℕ) (place : ℕ) (separator lent' : List ℕ)
        → TicketGiven (between last (first_key b)) cutoff lent p.place p.separator place separator lent'
        → LeafGiven size list store page s p leaf at cutoff held lent (progress_of p leaf at place separator) built lent'
    given cutoff lent place separator lent' t =
        let o : first_of (between last (first_key b)) cutoff ≡ leaf_cutoff l b cutoff = the_cutoff_of_a_leaf l last cutoff b separated in
        record {
          area_is = q;
          tickets_are = t.tickets_are ∙ ap (λ (x : Option (List ℕ)). put lent p.place (packed_with p.separator x)) o;
          at_is = refl;
          leaves_are = refl;
          place_is = t.place_is ∙ ap (λ (x : Option (List ℕ)). p.place + length (packed_with p.separator x)) o;
          short = t.short;
          separator_is = t.separator_is ∙ the_separator_behind_a_leaf l last p.separator b separated;
          count_is = the_records_left;
          bytes_is = the_bytes_left;
        }

    pub a_leaf_is_given : (cutoff : Option (List ℕ)) (lent : List ℕ) (first : Option (List ℕ)) (r : Progress) (lent' : List ℕ) → first ≡ key_from s list page at
        → r ≡ progress_of p leaf at r.place r.separator
        → TicketGiven (between (key_at (take (p.leaves * size + size - p.leaves * size) (drop (p.leaves * size) built)) (leaf.count - 1)) first) cutoff lent p.place p.separator r.place r.separator lent'
        → LeafGiven size list store page s p leaf at cutoff held lent r built lent'
    a_leaf_is_given cutoff lent first r lent' k e t =
        let f : first ≡ first_key b = k ∙ sym (the_first_key_is_that_of_the_first_record list store page s h.kept at h.behind_in) in
        subst (λ (z : Progress). LeafGiven size list store page s p leaf at cutoff held lent z built lent') (sym e) (given cutoff lent r.place r.separator lent' (rw f at t))
