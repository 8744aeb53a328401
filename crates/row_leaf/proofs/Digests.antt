-- A loaded leaf that is digested: what the digest requires, and that its leaves come behind those of the new row. Assumes nothing.
use mathlib.Core.Path.{◌≡◌, refl, sym, ap, subst, ◌∙◌}
use mathlib.Core.Bool.{Bool, true, false}
use mathlib.Core.Option.{Option}
use mathlib.Core.List.{List, [], ◌∷◌, ◌++◌, map, append-nil}
use Prim.Native.Nat.{ℕ, ◌+◌, ◌-◌, ◌*◌, ◌≤◌, ◌<◌}
use native.Mathlib.Omega.{arith}
use lib.ListN.{length, take, drop, replicate, length-drop, length-append}
use lib.Seq.{take-length, drop-length, drop-drop}
use borrow.Author.Tests.{le-leb}
use Rattle.std.specs.Prelude as std
use Rattle.std.specs.Option.{is_some}
use Rattle.std.specs.Bool.{then_some}
use Rattle.bit_ops.specs.Steps.{zeros}
use Rattle.leaf_node.specs.Limits.{PageSize, merge_below, pages_asked}
use Rattle.leaf_node.specs.Record.{Record, body, total}
use Rattle.leaf_node.specs.Build.{put}
use Rattle.leaf_node.specs.Fits.{All}
use Rattle.leaf_node.proofs.Lengths.{body_is_pointers_and_values}
use Rattle.leaf_model.specs.Basics.{nonempty}
use Rattle.leaf_model.specs.Cut.{Cut}
use Rattle.leaf_model.specs.Work.{Leaf, plan, leaves_by, separator_after}
use Rattle.leaf_model.proofs.Tests.{clash}
use Rattle.leaf_model.proofs.Cutting.{Fitting}
use Rattle.leaf_model.proofs.Plan.{leaves_never_more_than_pages_asked}
use Rattle.leaf_work.specs.declared.Work.{Work}
use Rattle.leaf_work.specs.declared.Entry.{Entry}
use Rattle.leaf_work.specs.Lent.{blank, cutoff_of, separator_of, regarded}
use Rattle.leaf_work.specs.Pending.{pending_of}
use Rattle.leaf_work.specs.Verdict.{lent_verdict, has_pages, digest_verdict}
use Rattle.leaf_work.specs.Digest.{Digested, digest_reply_by, pages_of, tickets_of, ticket_of, digest_done}
use Rattle.leaf_work.proofs.Tests.{and_both}
use Rattle.leaf_work.proofs.Laid.{pending_parts}
use Rattle.leaf_work.proofs.Readiness as readiness
use Rattle.leaf_builder.proofs.Putting.{put_parts}
use Rattle.leaf_open.proofs.Openings.{a_page_has_4096_bytes}
use Rattle.leaf_digest.specs.declared.Given.{Given}
use Rattle.leaf_digest.specs.Reply.{waits_for, given_of}
use Rattle.leaf_digest.specs.Steps.{Leaves}
use Rattle.leaf_claim.proofs.Reached.{Reached, separator_has_32_bytes, cutoff_has_32_bytes}
use Rattle.leaf_claim.proofs.Leaves.{tickets_are_read_back}
use Rattle.digest.specs.Steps.{Ready, outcome_of}
use Rattle.digest.proofs.Calls.{an_accepted_work_is_ready}
use Rattle.row_work.specs.Loaded.{Waits}
use Rattle.row_work.proofs.Holds.{state, the_work_is_reached}
use Rattle.row_work.proofs.Digesting.{a_digest_rests}
use Rattle.row_tickets.specs.Linked.{linked_all, last_linked, separators_read}
use Rattle.row_leaf.specs.declared.RowAt.{RowAt}
use Rattle.row_leaf.specs.Load.{LinkThere, given_by, Between, DigestThere, LeavesGiven}

no_record : (rs : List Record) → nonempty rs ≡ false → rs ≡ []
no_record [] e = refl
no_record (r ∷ rs) e = clash refl e

asked_few : (b : ℕ) → b ≤ 204800 → pages_asked 4096 b ≤ 101
unfolding merge_below
asked_few b h = omega (arith, h)

module _ (at : RowAt) (w : Work) (list : List Entry) (store page area tickets : List ℕ) (h : DigestThere at w list store page area tickets) where
  abbrev q : PageSize 4096
  q = a_page_has_4096_bytes

  abbrev P : List Record
  P = pending_of w list store page

  abbrev own : List ℕ
  own = replicate 6565 0

  abbrev asked : ℕ
  asked = pages_asked 4096 (body P)

  sound : lent_verdict 4096 w list store page ≡ 0
  sound = h.loaded.holds.sound

  same_pending : pending_of w list store (regarded w page) ≡ P
  same_pending = ap (pending_of w list store) h.loaded.whole

  -- ---- room

  reached : Reached 4096 (state 4096 q w list store page h.loaded.holds)
  reached = the_work_is_reached 4096 q w list store page h.loaded.holds

  lengths : (length list ≤ 4096) × (length store ≤ 65536)
  lengths =
      let r = readiness.accepted_things_are_ready 4096 w list store page sound q in
      (r.list_short, r.store_short)

  few : body P ≤ 204800
  few =
      let n : length P ≤ length list = subst (λ (rs : List Record). length rs ≤ length list) same_pending reached.canonical.kept.room_list in
      let m : total P ≤ length store = subst (λ (rs : List Record). total rs ≤ length store) same_pending reached.canonical.kept.room_store in
      omega (arith, n, m, lengths.0, lengths.1, body_is_pointers_and_values P)

  few_pages : asked ≤ 101
  few_pages = asked_few (body P) few

  part : ℕ → List ℕ
  part from = take (length area - from) (drop from area)

  part_is : (from : ℕ) → take (length area - from) (drop from area) ≡ drop from area
  part_is from = ap (λ (n : ℕ). take n (drop from area)) (sym (length-drop from area)) ∙ take-length (drop from area)

  module _ (from : ℕ) (f : from ≡ at.leaves * 4096) where
    pub the_area_begins : from ≤ length area
    the_area_begins = omega (arith, f, h.area_room)

    abbrev rest : List ℕ
    rest = take (length area - from) (drop from area)

    rest_long : length rest ≡ length area - from
    rest_long = ap length (part_is from) ∙ length-drop from area

    has_room : has_pages 4096 P rest own ≡ true
    has_room = and_both (le-leb (asked * 4096) (length rest) (omega (arith, rest_long, f, h.area_room))) (le-leb (asked * 65) 6565 (omega (arith, few_pages)))

    none_earned : digest_verdict 4096 w (pending_of w list store (regarded w page)) rest own (lent_verdict 4096 w list store page) ≡ 0
    unfolding digest_verdict
    none_earned = rw (same_pending, sound, h.loaded.opened, has_room)

    pub it_can_be_digested : (b : List ℕ) → b ≡ replicate 6565 0 → Ready 4096 w list store page rest b
    it_can_be_digested b e =
        subst (Ready 4096 w list store page rest) (sym e)
        (an_accepted_work_is_ready 4096 w list store page rest own (sym none_earned) q h.loaded.holds.entries page (sym h.loaded.whole))

    -- ---- what it gave

    abbrev c : Option (List ℕ)
    c = cutoff_of w

    abbrev p : Cut
    p = plan 4096 c P

    abbrev leaves : List Leaf
    leaves = leaves_by (separator_of w) c p

    fitting : All (Fitting 4096) P
    fitting = subst (All (Fitting 4096)) (sym (pending_parts w list store (regarded w page)) ∙ same_pending) reached.canonical.invariant.fitting

    few_leaves : length p.leaves ≤ asked
    few_leaves = leaves_never_more_than_pages_asked 4096 q c P fitting

    module _ (r : Given) (w' : Work) (list' : List Entry) (store' rest' own' b : List ℕ) (eb : b ≡ replicate 6565 0)
        (m : Leaves (outcome_of 4096 w list store page rest b) (given_of r) w' list' store' rest' own') where
      abbrev d : Digested
      d = digest_done 4096 w list store rest b p

      told : (left : List Record) (r : Given) → given_of r ≡ digest_reply_by left (length p.leaves) w.cutoff → (r.leaves ≡ length p.leaves) × (is_some r.cutoff ≡ nonempty left)
      told left r e = go left r.cutoff e
        where
          go : (left : List Record) (c : std.Option (List ℕ)) → waits_for r.leaves c ≡ digest_reply_by left (length p.leaves) w.cutoff → (r.leaves ≡ length p.leaves) × (is_some c ≡ nonempty left)
          go [] std.None e = (cc, refl)
          go [] (std.Some k) e = cc
          go (x ∷ xs) std.None e = cc
          go (x ∷ xs) (std.Some k) e = (cc, refl)

      so_many : r.leaves ≡ length p.leaves
      so_many = (told p.left r m.reply_is).0

      waits_or_not : is_some r.cutoff ≡ nonempty p.left
      waits_or_not = (told p.left r m.reply_is).1

      own_long : 6565 ≤ length own'
      own_long =
          omega (
            arith,
            ap length m.tickets_are,
            length-append (tickets_of leaves) (drop (length (tickets_of leaves)) b),
            length-drop (length (tickets_of leaves)) b,
            ap length eb,
          )

      pub its_leaves_can_be_linked : length tickets < 18446744073709551616 → LinkThere at r.leaves own' tickets
      its_leaves_can_be_linked t = record {
        ticket_room = omega (arith, so_many, few_leaves, h.ticket_room);
        own_room = omega (arith, so_many, few_leaves, few_pages, own_long);
        leaves_fit = omega (arith, so_many, few_leaves, h.ticket_room, t);
      }

      separators_are : separators_read r.leaves own' ≡ map (λ l. l.separator) leaves
      separators_are =
          ap (λ (n : ℕ). separators_read n own') so_many
          ∙ ap (separators_read (length p.leaves)) m.tickets_are
          ∙ ap (map (λ t. t.separator))
          (tickets_are_read_back c (nonempty p.left) (cutoff_has_32_bytes 4096 _ reached) (separator_of w) p.leaves (drop (length (tickets_of leaves)) b) p.left (separator_has_32_bytes 4096 _ reached))
          ∙ of_tickets leaves
        where
          of_tickets : (ls : List Leaf) → map (λ t. t.separator) (map ticket_of ls) ≡ map (λ l. l.separator) ls
          of_tickets [] = refl
          of_tickets (l ∷ ls) = ap {B = List (List ℕ)} (λ xs. l.separator ∷ xs) (of_tickets ls)

      pages_are : take from area ++ (rest' ++ drop (length area - from) (drop from area)) ≡ put area (at.leaves * 4096) (pages_of 4096 leaves)
      pages_are =
          let A : List ℕ = pages_of 4096 leaves in
          let z : drop (length area - from) (drop from area) ≡ [] = ap (λ (n : ℕ). drop n (drop from area)) (sym (length-drop from area)) ∙ drop-length (drop from area) in
          let u : rest' ≡ A ++ drop (from + length A) area = m.area_is ∙ ap (λ (x : List ℕ). A ++ drop (length A) x) (part_is from) ∙ ap (λ (x : List ℕ). A ++ x) (drop-drop (length A) from area) in
          ap (λ (x : List ℕ). take from area ++ (rest' ++ x)) z
          ∙ ap (λ (x : List ℕ). take from area ++ x) (append-nil rest' ∙ u)
          ∙ ap (λ (n : ℕ). take n area ++ (A ++ drop (n + length A) area)) f
          ∙ sym (put_parts area (at.leaves * 4096) A)

      resting : (nonempty p.left ≡ true → Waits 4096 w' list' store' p.left (separator_after (separator_of w) p.leaves p.left) c)
          × (p.left ≡ [] → (list' ≡ replicate (length list') blank) × (store' ≡ zeros (length store')))
      resting =
          rw (m.work_is, m.list_is, m.store_is) (a_digest_rests 4096 q w list store page rest b h.loaded (rw eb has_room))

      between : Between (then_some (is_some r.cutoff) w') list' store' p.left (separator_after (separator_of w) p.leaves p.left) c
      between = go (is_some r.cutoff) waits_or_not
        where
          go : (b : Bool) → b ≡ nonempty p.left → Between (then_some b w') list' store' p.left (separator_after (separator_of w) p.leaves p.left) c
          go true e = (sym e, resting.0 (sym e))
          go false e = let z = no_record p.left (sym e) in (z, (resting.1 z).0, (resting.1 z).1)

      pub its_leaves_are_given : (after : RowAt) (tickets' : List ℕ) → (after ≡ given_by at r w' own') × (tickets' ≡ linked_all at.leaves at.last (separators_read r.leaves own') tickets)
          → LeavesGiven at (separator_of w) c P at.change at.value area tickets after list' store' (take from area ++ (rest' ++ drop (length area - from) (drop from area))) tickets'
      its_leaves_are_given after tickets' g = rw g.0 (record {
        leaves_are = ap (λ (n : ℕ). at.leaves + n) so_many;
        last_is = ap (last_linked at.leaves at.last) separators_are;
        change_is = refl;
        value_is = refl;
        area_is = pages_are;
        tickets_are = g.1 ∙ ap (λ (ss : List (List ℕ)). linked_all at.leaves at.last ss tickets) separators_are;
        rests = between;
      })
