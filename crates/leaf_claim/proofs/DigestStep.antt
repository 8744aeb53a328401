-- Digest, from a reached state, reaches a state, and its leaves are read back. Assumes nothing.
use mathlib.Core.Path.{◌≡◌, refl, sym, ap, ap₂, ◌∙◌}
use mathlib.Core.Bool.{Bool, true, false}
use mathlib.Core.Option.{Option}
use mathlib.Core.List.{List, [], ◌∷◌, ◌++◌, append-nil, append_assoc}
use Prim.Native.Nat.{ℕ, ◌*◌, ◌≤◌}
use native.Mathlib.Omega.{arith}
use native.Mathlib.Nat.{mul-le-mul_right}
use lib.Dec.{eqb, leb}
use lib.ListN.{length, drop, length-append, length-drop}
use borrow.Author.Tests.{eqb-true, leb-true}
use Rattle.leaf_node.specs.Limits.{PageSize, pages_asked}
use Rattle.leaf_node.specs.Record.{Record, body}
use Rattle.leaf_node.specs.Ticket.{read_tickets}
use Rattle.leaf_node.specs.Fits.{All, nil, cons, Keyed, Fits}
use Rattle.leaf_model.specs.Basics.{joined, nonempty}
use Rattle.leaf_model.specs.Cut.{Cut, cut_all}
use Rattle.leaf_model.specs.Work.{plan, planned, given, digested, work_after, leaves_by}
use Rattle.leaf_model.specs.Work as model
use Rattle.leaf_model.proofs.Tests.{and_left, and_right}
use Rattle.leaf_model.proofs.Lists.{all_left, all_right_lem}
use Rattle.leaf_model.proofs.Plan.{Sized, sized[], sized∷, sized_last, leaves_and_kept_are_the_records, leaves_have_right_sizes, leaves_never_more_than_pages_asked}
use Rattle.leaf_model.proofs.Invariant.{digest_keeps_the_invariant}
use Rattle.leaf_work.specs.declared.Work.{Work}
use Rattle.leaf_work.specs.Tests.{is_set}
use Rattle.leaf_work.specs.Lent.{is_open, cutoff_of, separator_of, regarded}
use Rattle.leaf_work.specs.Pending.{pending_of}
use Rattle.leaf_work.specs.Verdict.{has_pages, digest_verdict}
use Rattle.leaf_work.specs.Digest.{DigestRefused, digest_number, Digested, pages_of, tickets_of, overwrite, digest_reply_by, digest_done, digest_on, digest_of}
use Rattle.leaf_work.proofs.Tests.{passed, first_passed}
use Rattle.leaf_work.proofs.Operations.{puts}
use Rattle.leaf_work.proofs.Laid.{open_turn, pending_parts, sees_work}
use Rattle.leaf_claim.specs.Told.{told_digest}
use Rattle.leaf_claim.specs.Sequence.{State, Given, digest, lent, given_by, answered, next, read_pages, read_leaves, leaves_of}
use Rattle.leaf_claim.proofs.Agreeing.{told_of, kept_for_a_cutoff, digest_is_told}
use Rattle.leaf_claim.proofs.Leaves.{tickets_are_read_back, tickets_take_at_most_65_bytes_a_leaf, pages_take_the_page_size_each, leaves_are_read_back, leaves_append}
use Rattle.leaf_claim.proofs.Digesting.{laid_after_digest, model_sees_the_digest, no_page_is_read_after_a_digest, list_is_as_long, store_is_as_long, kept_after_digest}
use Rattle.leaf_claim.proofs.Reached.{Reached, equal_states_are_reached, regarded_lent, reached_state_earns_no_refusal, pending_keys_have_32_bytes, separator_has_32_bytes, cutoff_has_32_bytes}

-- leaves of right sizes fit into pages
leaves_fit : {size : ℕ} {c : Option (List ℕ)} {left : List Record} {ls : List (List Record)} → PageSize size → Sized size c left ls → All Keyed (joined ls ++ left) → All (Fits size) ls
leaves_fit q sized[] a = nil
leaves_fit q (sized∷ {left = left} {l = l} {ls = ls} z h) a =
    let b : All Keyed (l ++ (joined ls ++ left)) = rw (append_assoc l (joined ls) left) at a in
    cons (record { sized = q; keys = all_left l (joined ls ++ left) b; room = z.fits }) (leaves_fit q h (all_right_lem l (joined ls ++ left) b))
leaves_fit q (sized_last {l = l} e z) a =
    let b : All Keyed (l ++ ([] ++ [])) = rw (append_assoc l [] []) at a in
    cons (record { sized = q; keys = all_left l ([] ++ []) b; room = z }) nil

given_leaves : (size : ℕ) (left : List Record) (n : ℕ) (c A T : List ℕ)
    → leaves_of size (given_by (digest_reply_by left n c) A T) ≡ read_leaves (nonempty left) (read_pages size n A) (read_tickets n T)
given_leaves size [] n c A T = append-nil (read_leaves false (read_pages size n A) (read_tickets n T))
given_leaves size (r ∷ rs) n c A T = append-nil (read_leaves true (read_pages size n A) (read_tickets n T))

digest_number_lem : (left : List Record) (n : ℕ) (c : List ℕ) → digest_number (digest_reply_by left n c) ≡ 0
digest_number_lem [] n c = refl
digest_number_lem (r ∷ rs) n c = refl

module _ (size : ℕ) (q : PageSize size) (s : State) (h : Reached size s) (any area tickets : List ℕ) where
  abbrev w : Work
  w = s.work

  abbrev p : List ℕ
  p = regarded w s.page

  abbrev pending : List Record
  pending = pending_of w s.list s.store p

  abbrev pub cutting : Cut
  cutting = plan size (cutoff_of w) pending

  abbrev after : Digested → State
  after r = record {
    work = r.work;
    list = r.list;
    store = r.store;
    page = s.page;
    told = told_digest r.reply r.tickets s.told;
    given = s.given ++ given_by r.reply r.area r.tickets;
    tally = s.tally;
  }

  abbrev lent_by_state : ℕ → List ℕ → Digested
  lent_by_state n x = digest_on size w s.list s.store area tickets (pending_of w s.list s.store x) n

  pub digest_of_a_reached_state : digest_of size w s.list s.store (lent s any) area tickets ≡ digest_on size w s.list s.store area tickets pending 0
  digest_of_a_reached_state = ap₂ lent_by_state (reached_state_earns_no_refusal size s h any) (regarded_lent size s h any)

  abbrev pub digest_verdict_lem : ℕ
  digest_verdict_lem = digest_verdict size w pending area tickets 0

  abbrev pub digest_done_lem : Digested
  digest_done_lem = digest_done size w s.list s.store area tickets cutting

  refused : eqb digest_verdict_lem 0 ≡ false
      → digest_on size w s.list s.store area tickets pending 0
      ≡ record { reply = DigestRefused digest_verdict_lem; work = w; list = s.list; store = s.store; area = area; tickets = tickets }
  unfolding digest_on
  refused e = rw (e, digest_on)

  taken : eqb digest_verdict_lem 0 ≡ true → digest_on size w s.list s.store area tickets pending 0 ≡ digest_done_lem
  unfolding digest_on
  taken e = rw (e, digest_on)

  pub accepted_digest_is : eqb digest_verdict_lem 0 ≡ true → digest_of size w s.list s.store (lent s any) area tickets ≡ digest_done_lem
  accepted_digest_is e = digest_of_a_reached_state ∙ taken e

  pub digest_answers_its_verdict : answered size s (digest any area tickets) ≡ digest_verdict_lem
  digest_answers_its_verdict = ap (λ r. digest_number r.reply) digest_of_a_reached_state ∙ go (eqb digest_verdict_lem 0) refl
    where
      go : (b : Bool) → eqb digest_verdict_lem 0 ≡ b → digest_number (digest_on size w s.list s.store area tickets pending 0).reply ≡ digest_verdict_lem
      go true e = ap (λ r. digest_number r.reply) (taken e) ∙ digest_number_lem cutting.left (length cutting.leaves) w.cutoff ∙ sym (eqb-true _ _ e)
      go false e = ap (λ r. digest_number r.reply) (refused e)

  refused_digest_changes_nothing : eqb digest_verdict_lem 0 ≡ false → next size s (digest any area tickets) ≡ s
  refused_digest_changes_nothing e =
      ap after (digest_of_a_reached_state ∙ refused e)
      ∙ ap (λ (g : List Given). record { work = w; list = s.list; store = s.store; page = s.page; told = s.told; given = g; tally = s.tally }) (append-nil s.given)

  -- ---- the model's cutting

  abbrev v : model.Work
  v = sees_work w s.list s.store p

  cutting_is : cutting ≡ planned size v
  cutting_is = ap (plan size (cutoff_of w)) (pending_parts w s.list s.store p)

  whole_is : joined cutting.leaves ++ cutting.left ≡ pending
  whole_is = leaves_and_kept_are_the_records size (cutoff_of w) pending

  cut_right : Sized size (cutoff_of w) cutting.left cutting.leaves
  cut_right = leaves_have_right_sizes size q (cutoff_of w) pending (rw (pending_parts w s.list s.store p) h.canonical.invariant.fitting)

  pub cut_leaves_fit : All (Fits size) cutting.leaves
  cut_leaves_fit = leaves_fit q cut_right (rw (whole_is, pending_parts w s.list s.store p) (pending_keys_have_32_bytes size s h))

  -- ---- the leaves, as they are read from area and tickets

  pub digest_leaves_are_read_back : leaves_of size (given_by digest_done_lem.reply digest_done_lem.area digest_done_lem.tickets) ≡ leaves_by (separator_of w) (cutoff_of w) cutting
  digest_leaves_are_read_back =
      given_leaves size cutting.left (length cutting.leaves) w.cutoff digest_done_lem.area digest_done_lem.tickets
      ∙ leaves_are_read_back (cutoff_of w) (nonempty cutting.left) (cutoff_has_32_bytes size s h) size (separator_of w) cutting.leaves cutting.left _ _
      (separator_has_32_bytes size s h) cut_leaves_fit

  -- ---- the state after it

  page_unread : regarded digest_done_lem.work s.page ≡ []
  page_unread = no_page_is_read_after_a_digest size w s.list s.store area tickets cutting s.page

  work_seen : sees_work digest_done_lem.work digest_done_lem.list digest_done_lem.store [] ≡ digested size v
  work_seen = model_sees_the_digest size w s.list s.store area tickets cutting p ∙ ap (work_after v) cutting_is

  leaves_seen : leaves_of size (s.given ++ given_by digest_done_lem.reply digest_done_lem.area digest_done_lem.tickets) ≡ leaves_of size s.given ++ given size v
  leaves_seen =
      leaves_append size s.given _
      ∙ ap (λ x. leaves_of size s.given ++ x) (digest_leaves_are_read_back ∙ ap (leaves_by (separator_of w) (cutoff_of w)) cutting_is)

  pub digest_told_of_the_record : told_digest digest_done_lem.reply digest_done_lem.tickets (told_of w) ≡ told_of digest_done_lem.work
  unfolding plan
  digest_told_of_the_record =
      digest_is_told w cutting.leaves cutting.left digest_done_lem.tickets
      (kept_for_a_cutoff size (is_set w.cut) w.cutoff (cut_all size pending))
      (tickets_are_read_back (cutoff_of w) (nonempty cutting.left) (cutoff_has_32_bytes size s h) (separator_of w) cutting.leaves _ cutting.left (separator_has_32_bytes size s h))

  digest_told : told_digest digest_done_lem.reply digest_done_lem.tickets s.told ≡ told_of digest_done_lem.work
  digest_told = ap (told_digest digest_done_lem.reply digest_done_lem.tickets) h.told ∙ digest_told_of_the_record

  reaches : is_open w ≡ true → Reached size (after digest_done_lem)
  reaches o =
      record {
        canonical = record {
          ops = puts cutting.left;
          laid = rw page_unread (laid_after_digest size w s.list s.store area tickets cutting);
          kept = rw page_unread (kept_after_digest size w s.list s.store area tickets cutting p s.page h.canonical.kept whole_is (separator_has_32_bytes size s h));
          invariant = rw (page_unread, work_seen, leaves_seen) (digest_keeps_the_invariant size v (leaves_of size s.given) s.tally h.canonical.invariant q (rw (open_turn w o)));
        };
        told = digest_told;
      }

  pub digest_is_open : eqb digest_verdict_lem 0 ≡ true → is_open w ≡ true
  unfolding digest_verdict
  digest_is_open e = (passed 8 (is_open w) _ (first_passed 0 _ (eqb-true _ _ e)).1).0

  pub digest_reaches_a_state : Reached size (next size s (digest any area tickets))
  digest_reaches_a_state = go (eqb digest_verdict_lem 0) refl
    where
      go : (b : Bool) → eqb digest_verdict_lem 0 ≡ b → Reached size (next size s (digest any area tickets))
      go true e = equal_states_are_reached size (after digest_done_lem) _ (ap after (accepted_digest_is e)) (reaches (digest_is_open e))
      go false e = equal_states_are_reached size s _ (refused_digest_changes_nothing e) h

  -- ---- lengths

  pub digest_keeps_the_lengths : (length (next size s (digest any area tickets)).list ≡ length s.list) × (length (next size s (digest any area tickets)).store ≡ length s.store)
  digest_keeps_the_lengths = go (eqb digest_verdict_lem 0) refl
    where
      go : (b : Bool) → eqb digest_verdict_lem 0 ≡ b
          → (length (next size s (digest any area tickets)).list ≡ length s.list) × (length (next size s (digest any area tickets)).store ≡ length s.store)
      go true e =
          let n = ap after (accepted_digest_is e) in (
            ap (λ (t : State). length t.list) n ∙ list_is_as_long size w s.list s.store area tickets cutting p s.page h.canonical.kept whole_is (separator_has_32_bytes size s h),
            ap (λ (t : State). length t.store) n ∙ store_is_as_long size w s.list s.store area tickets cutting p s.page h.canonical.kept whole_is (separator_has_32_bytes size s h),
          )
      go false e = let n = refused_digest_changes_nothing e in (ap (λ (t : State). length t.list) n, ap (λ (t : State). length t.store) n)

  overwritten : (new old : List ℕ) → length new ≤ length old → length (overwrite new old) ≡ length old
  overwritten new old f = omega (arith, length-append new (drop (length new) old), length-drop (length new) old)

  module _ (e : eqb digest_verdict_lem 0 ≡ true) where
    abbrev asked : ℕ
    asked = pages_asked size (body pending)

    has_pages_lem : has_pages size pending area tickets ≡ true
    unfolding digest_verdict
    has_pages_lem = (passed 16 (has_pages size pending area tickets) 0 (passed 8 (is_open w) _ (first_passed 0 _ (eqb-true _ _ e)).1).1).0

    few : length cutting.leaves ≤ asked
    few = leaves_never_more_than_pages_asked size q (cutoff_of w) pending (rw (pending_parts w s.list s.store p) h.canonical.invariant.fitting)

    area_is_as_long : length digest_done_lem.area ≡ length area
    area_is_as_long =
        overwritten (pages_of size (leaves_by (separator_of w) (cutoff_of w) cutting)) area (omega (
          arith,
          pages_take_the_page_size_each (cutoff_of w) (nonempty cutting.left) (cutoff_has_32_bytes size s h) size (separator_of w) cutting.left cut_leaves_fit,
          mul-le-mul_right size few,
          leb-true (asked * size) (length area) (and_left (leb (asked * size) (length area)) (leb (asked * 65) (length tickets)) has_pages_lem),
        ))

    tickets_are_as_long : length digest_done_lem.tickets ≡ length tickets
    tickets_are_as_long =
        overwritten (tickets_of (leaves_by (separator_of w) (cutoff_of w) cutting)) tickets (omega (
          arith,
          tickets_take_at_most_65_bytes_a_leaf (cutoff_of w) (nonempty cutting.left) (cutoff_has_32_bytes size s h) (separator_of w) cutting.leaves cutting.left
              (separator_has_32_bytes size s h),
          mul-le-mul_right 65 few,
          leb-true (asked * 65) (length tickets) (and_right (leb (asked * size) (length area)) (leb (asked * 65) (length tickets)) has_pages_lem),
        ))

  pub digest_keeps_area_and_tickets_as_long : (length (digest_of size w s.list s.store (lent s any) area tickets).area ≡ length area)
      × (length (digest_of size w s.list s.store (lent s any) area tickets).tickets ≡ length tickets)
  digest_keeps_area_and_tickets_as_long = go (eqb digest_verdict_lem 0) refl
    where
      go : (b : Bool) → eqb digest_verdict_lem 0 ≡ b
          → (length (digest_of size w s.list s.store (lent s any) area tickets).area ≡ length area)
          × (length (digest_of size w s.list s.store (lent s any) area tickets).tickets ≡ length tickets)
      go true e =
          let n = accepted_digest_is e in
          (ap (λ (r : Digested). length r.area) n ∙ area_is_as_long e, ap (λ (r : Digested). length r.tickets) n ∙ tickets_are_as_long e)
      go false e =
          let n = digest_of_a_reached_state ∙ refused e in
          (ap (λ (r : Digested). length r.area) n, ap (λ (r : Digested). length r.tickets) n)
