-- Demand 3: the claim holds of every sequence of calls, refused ones among them, from any accepted opening; and from any sound work. Assumes nothing.
use mathlib.Core.Path.{◌≡◌, refl, sym, ap, ◌∙◌, subst}
use mathlib.Core.Bool.{Bool, true, false, cond}
use mathlib.Core.Option.{Option}
use mathlib.Core.List.{List, [], ◌∷◌, ◌++◌, append-nil}
use Prim.Native.Nat.{ℕ, ◌≤◌}
use native.Mathlib.Omega.{arith}
use lib.Dec.{eqb}
use lib.ListN.{length}
use borrow.Author.Tests.{eq-eqb}
use Rattle.leaf_node.specs.Limits.{PageSize}
use Rattle.leaf_node.specs.Record.{Record}
use Rattle.leaf_node.specs.Fits.{All, nil, cons}
use Rattle.leaf_model.specs.Cut.{Cut, cut_all}
use Rattle.leaf_model.specs.Work.{Change, zero_key, or_else, plan, finished, turn_after, override_after, floor_after, leaves_by}
use Rattle.leaf_model.proofs.Lists.{all_map}
use Rattle.leaf_model.proofs.AsThePaperSays.{cutting_as_the_paper_says}
use Rattle.leaf_model.proofs.Separators.{linked_leaves_are_right}
use Rattle.leaf_work.specs.declared.Work.{Work}
use Rattle.leaf_work.specs.declared.Entry.{Entry}
use Rattle.leaf_work.specs.Tests.{is_set}
use Rattle.leaf_work.specs.Lent.{cutoff_of, separator_of, reads_base, regarded}
use Rattle.leaf_work.specs.Pending.{listed_of, rest_of, pending_of}
use Rattle.leaf_work.specs.Verdict.{Opening, open_verdict, lent_verdict}
use Rattle.leaf_work.specs.Outcome.{reply_number, open_of, ingest_of, next_base_of, remove_cutoff_of}
use Rattle.leaf_work.specs.Digest.{digest_number, Digested, pages_of, tickets_of, overwrite, digest_reply_by, digest_of}
use Rattle.leaf_work.proofs.Laid.{Keyed, turn_of_number, list_length, store_length, pending_parts}
use Rattle.leaf_work.proofs.PendingRecords.{EntryKeyed}
use Rattle.leaf_work.proofs.Canonical.{sound_work_is_canonical}
use Rattle.leaf_claim.specs.Told.{Told, reads_page}
use Rattle.leaf_claim.specs.Sequence.{State, Call, ingest, digest, next_base, remove_cutoff, Given, lent, given_by, answered, gives, next, nexts, opened, leaves_in, leaves_of, Happened, happens, happenings, course_of}
use Rattle.leaf_claim.specs.Claim.{Formed, FormedOpening, steps_say, Digests, ByTwins, Answered, Claim}
use Rattle.leaf_claim.proofs.Agreeing.{told_of, kept_for_a_cutoff}
use Rattle.leaf_claim.proofs.Reached.{Reached, lent_is, reached_state_earns_no_refusal}
use Rattle.leaf_claim.proofs.IngestStep.{ingest_reaches_a_state, ingest_keeps_the_lengths}
use Rattle.leaf_claim.proofs.DigestStep.{digest_reaches_a_state, digest_keeps_the_lengths, digest_keeps_area_and_tickets_as_long, accepted_digest_is, digest_answers_its_verdict, cutting, digest_verdict_lem, digest_done_lem, digest_told_of_the_record, digest_leaves_are_read_back}
use Rattle.leaf_claim.proofs.Digesting.{override_is, no_base_is_read_after_a_digest}
use Rattle.leaf_claim.proofs.NextBaseStep.{next_base_reaches_a_state}
use Rattle.leaf_claim.proofs.RemovalStep.{removal_reaches_a_state}
use Rattle.leaf_claim.proofs.OpeningStep.{accepted_opening_reaches_a_state}
use Rattle.leaf_claim.proofs.Twins.{twins_answer_the_pending_records}
use Rattle.leaf_claim.proofs.Refusals.{calls_are_refused_as_the_table_says}

-- a digest that isn't refused gives once
given_once : (left : List Record) (n : ℕ) (c area tickets : List ℕ)
    → given_by (digest_reply_by left n c) area tickets ≡ record { reply = digest_reply_by left n c; area = area; tickets = tickets } ∷ []
given_once [] n c area tickets = refl
given_once (r ∷ rs) n c area tickets = refl

-- list and store after a call: as long as before, and long enough for the entries and bytes that are used
pub record RoomKept (s s' : State) : Type 0 where
  pub list_as_long : length s'.list ≡ length s.list
  pub store_as_long : length s'.store ≡ length s.store
  pub entries_fit : s'.work.used ≤ length s'.list
  pub bytes_fit : s'.work.filled ≤ length s'.store

module _ (size : ℕ) (q : PageSize size) where
  -- ---- every state of a sequence is a reached one

  pub call_reaches_a_state : (s : State) (x : Call) → Formed x → Reached size s → Reached size (next size s x)
  call_reaches_a_state s (ingest any k c) f h = ingest_reaches_a_state size s h any k c f
  call_reaches_a_state s (digest any area tickets) f h = digest_reaches_a_state size q s h any area tickets
  call_reaches_a_state s (next_base page sep cut key) f h = next_base_reaches_a_state size q s h page sep cut key f.0 f.1
  call_reaches_a_state s remove_cutoff f h = removal_reaches_a_state size s h

  pub calls_reach_a_state : (xs : List Call) → All Formed xs → (s : State) → Reached size s → Reached size (nexts size s xs)
  calls_reach_a_state [] a s h = h
  calls_reach_a_state (x ∷ xs) (cons f fs) s h = calls_reach_a_state xs fs (next size s x) (call_reaches_a_state s x f h)

  -- ---- the claim holds of a reached state

  module _ (s : State) (h : Reached size s) where
    abbrev pending : List Record
    pending = pending_of s.work s.list s.store (regarded s.work s.page)

    cut_as_written_lem : plan size (cutoff_of s.work) pending ≡ steps_say size (told_of s.work) pending
    unfolding plan
    cut_as_written_lem =
        ap (finished size (cutoff_of s.work))
        (cutting_as_the_paper_says size q pending (rw (pending_parts s.work s.list s.store (regarded s.work s.page)) h.canonical.invariant.fitting))

    -- the cutoff that a merge request names is there
    reply_is : digest_reply_by (plan size (cutoff_of s.work) pending).left (length (plan size (cutoff_of s.work) pending).leaves) s.work.cutoff
        ≡ digest_reply_by (plan size (cutoff_of s.work) pending).left (length (plan size (cutoff_of s.work) pending).leaves) (or_else (cutoff_of s.work) zero_key)
    unfolding plan
    reply_is =
        go (plan size (cutoff_of s.work) pending).left (kept_for_a_cutoff size (is_set s.work.cut) s.work.cutoff (cut_all size pending))
      where
        go : (left : List Record) → ((r : Record) (rs : List Record) → left ≡ r ∷ rs → is_set s.work.cut ≡ true)
            → digest_reply_by left (length (plan size (cutoff_of s.work) pending).leaves) s.work.cutoff
            ≡ digest_reply_by left (length (plan size (cutoff_of s.work) pending).leaves) (or_else (cutoff_of s.work) zero_key)
        go [] f = refl
        go (r ∷ rs) f = rw (f r rs refl)

    digests_by_the_record : (any area tickets : List ℕ) → answered size s (digest any area tickets) ≡ 0
        → Digests size (told_of s.work) pending area tickets (gives size s (digest any area tickets))
    digests_by_the_record any area tickets e =
        let ok : eqb (digest_verdict_lem size q s h any area tickets) 0 ≡ true = eq-eqb _ _ (sym (digest_answers_its_verdict size q s h any area tickets) ∙ e) in
        let done : Digested = digest_done_lem size q s h any area tickets in
        let after = digest_told_of_the_record size q s h any area tickets in
        let g : Given = record { reply = done.reply; area = done.area; tickets = done.tickets } in
        let once : given_by done.reply done.area done.tickets ≡ g ∷ [] = given_once (cutting size q s h any area tickets).left _ _ _ _ in
        rw (accepted_digest_is size q s h any area tickets ok)
        (record {
          given = g;
          once = once;
          leaves = sym (append-nil (leaves_in size g)) ∙ ap (leaves_of size) (sym once) ∙ digest_leaves_are_read_back size q s h any area tickets ∙ ap (leaves_by (separator_of s.work) (cutoff_of s.work)) cut_as_written_lem;
          pages = ap (λ (c : Cut). overwrite (pages_of size (leaves_by (separator_of s.work) (cutoff_of s.work) c)) area) cut_as_written_lem;
          packed = ap (λ (c : Cut). overwrite (tickets_of (leaves_by (separator_of s.work) (cutoff_of s.work) c)) tickets) cut_as_written_lem;
          reply = reply_is ∙ ap (λ (c : Cut). digest_reply_by c.left (length c.leaves) (or_else (cutoff_of s.work) zero_key)) cut_as_written_lem;
          turn = ap (λ (t : Told). t.turn) after ∙ turn_of_number _ ∙ ap (λ (c : Cut). turn_after c.left) cut_as_written_lem;
          override =
              ap (λ (t : Told). t.override) after
              ∙ override_is (separator_of s.work) (plan size (cutoff_of s.work) pending).leaves (plan size (cutoff_of s.work) pending).left
              ∙ ap (λ (c : Cut). override_after (separator_of s.work) c.leaves c.left) cut_as_written_lem;
          floor = ap (λ (t : Told). t.floor) after ∙ ap (λ (c : Cut). floor_after s.work.floor (cutoff_of s.work) c.left) cut_as_written_lem;
        })

    digests_as_document_01_says : (any area tickets : List ℕ) → answered size s (digest any area tickets) ≡ 0
        → Digests size s.told pending area tickets (gives size s (digest any area tickets))
    digests_as_document_01_says any area tickets e =
        subst (λ (t : Told). Digests size t pending area tickets (gives size s (digest any area tickets))) (sym h.told) (digests_by_the_record any area tickets e)

    call_is_answered_as_document_01_says : (x : Call) → Answered size (ByTwins size) (happens size s x)
    call_is_answered_as_document_01_says x = record {
      pending = pending;
      twins = twins_answer_the_pending_records size s h;
      number = calls_are_refused_as_the_table_says size s h q x;
      digests = λ any area tickets e. rw e (digests_as_document_01_says any area tickets);
    }

    claim_holds_of_a_reached_state : (past : List Happened) → All (Answered size (ByTwins size)) past → Claim size (ByTwins size) (record { now = s; past = past })
    claim_holds_of_a_reached_state past answers = record {
      pending = pending;
      twins = twins_answer_the_pending_records size s h;
      tally = rw (pending_parts s.work s.list s.store (regarded s.work s.page)) h.canonical.invariant.tally;
      rising = h.canonical.invariant.rising;
      calls = answers;
      bodies = all_map (λ l g. g.0) h.canonical.invariant.leaves;
      bounds = all_map (λ l g. g.1) h.canonical.invariant.leaves;
      linked = linked_leaves_are_right _ h.canonical.invariant.links;
    }

  calls_are_answered_as_document_01_says : (xs : List Call) → All Formed xs → (s : State) → Reached size s → All (Answered size (ByTwins size)) (happenings size s xs)
  calls_are_answered_as_document_01_says [] a s h = nil
  calls_are_answered_as_document_01_says (x ∷ xs) (cons f fs) s h =
      cons (call_is_answered_as_document_01_says s h x) (calls_are_answered_as_document_01_says xs fs (next size s x) (call_reaches_a_state s x f h))

  claim_holds_from_a_reached_state : (xs : List Call) → All Formed xs → (s : State) → Reached size s → Claim size (ByTwins size) (course_of size s xs)
  claim_holds_from_a_reached_state xs fs s h =
      claim_holds_of_a_reached_state (nexts size s xs) (calls_reach_a_state xs fs s h) (happenings size s xs) (calls_are_answered_as_document_01_says xs fs s h)

  pub claim_holds_of_every_sequence : (every : Bool) (x : Opening) → FormedOpening x → (w : Work) (list : List Entry) (store : List ℕ) → open_verdict size x list store ≡ 0
      → (xs : List Call) → All Formed xs → Claim size (ByTwins size) (course_of size (opened size every x w list store) xs)
  claim_holds_of_every_sequence every x f w list store e xs fs =
      claim_holds_from_a_reached_state xs fs (opened size every x w list store) (accepted_opening_reaches_a_state size q every x f w list store e)

  -- what is lent to the first call earns none of Nos. 1 to 8
  pub accepted_opening_is_sound : (every : Bool) (x : Opening) → FormedOpening x → (w : Work) (list : List Entry) (store any : List ℕ) → open_verdict size x list store ≡ 0
      → lent_verdict size (open_of size every x w list store).work (open_of size every x w list store).list (open_of size every x w list store).store (lent (opened size every x w list store) any) ≡ 0
  accepted_opening_is_sound every x f w list store any e =
      reached_state_earns_no_refusal size (opened size every x w list store) (accepted_opening_reaches_a_state size q every x f w list store e) any

  -- ---- room

  room_after : (s s' : State) → Reached size s' → (length s'.list ≡ length s.list) × (length s'.store ≡ length s.store) → RoomKept s s'
  room_after s s' h l =
      let p = regarded s'.work s'.page in
      record {
        list_as_long = l.0;
        store_as_long = l.1;
        entries_fit = omega (arith, h.canonical.laid.used_is, list_length s'.work s'.list s'.store p h.canonical.ops h.canonical.laid);
        bytes_fit = omega (arith, h.canonical.laid.filled_is, store_length s'.work s'.list s'.store p h.canonical.ops h.canonical.laid);
      }

  room_is_kept : (s : State) (x : Call) → Formed x → Reached size s → RoomKept s (next size s x)
  room_is_kept s (ingest any k c) f h = room_after s _ (call_reaches_a_state s (ingest any k c) f h) (ingest_keeps_the_lengths size s h any k c f)
  room_is_kept s (digest any area tickets) f h = room_after s _ (call_reaches_a_state s (digest any area tickets) f h) (digest_keeps_the_lengths size q s h any area tickets)
  room_is_kept s (next_base page sep cut key) f h = room_after s _ (call_reaches_a_state s (next_base page sep cut key) f h) (refl, refl)
  room_is_kept s remove_cutoff f h = room_after s _ (call_reaches_a_state s remove_cutoff f h) (refl, refl)

  -- ---- any work that is sound as it is lent, of which is told what its record says, with no leaf given out and a tally of what is pending

  module _ (w : Work) (list : List Entry) (store page : List ℕ) (z : lent_verdict size w list store page ≡ 0) (keys : Keyed w) (entries : All EntryKeyed list) where
    abbrev pub lent_state : State
    lent_state = record {
      work = w;
      list = list;
      store = store;
      page = page;
      told = told_of w;
      given = [];
      tally = listed_of w list store (regarded w page) ++ rest_of w store (regarded w page);
    }

    is_reached : Reached size lent_state
    is_reached = record { canonical = sound_work_is_canonical size q w list store page z keys entries; told = refl }

    pub claim_holds_from_any_sound_work : (xs : List Call) → All Formed xs → Claim size (ByTwins size) (course_of size lent_state xs)
    claim_holds_from_any_sound_work xs fs = claim_holds_from_a_reached_state xs fs lent_state is_reached

    -- whatever the calls, what is lent to the next one earns none of Nos. 1 to 8
    pub every_accepted_call_leaves_a_sound_work : (xs : List Call) → All Formed xs → (any : List ℕ)
        → lent_verdict size (nexts size lent_state xs).work (nexts size lent_state xs).list (nexts size lent_state xs).store (lent (nexts size lent_state xs) any) ≡ 0
    every_accepted_call_leaves_a_sound_work xs fs any = reached_state_earns_no_refusal size (nexts size lent_state xs) (calls_reach_a_state xs fs lent_state is_reached) any

    pub entries_and_store_never_lack_room : (x : Call) → Formed x → RoomKept lent_state (next size lent_state x)
    entries_and_store_never_lack_room x f = room_is_kept lent_state x f is_reached

    -- ---- the same of each call by itself

    lent_itself : (s : State) → lent s s.page ≡ s.page
    lent_itself s = go (reads_page s.told)
      where
        go : (b : Bool) → cond b s.page s.page ≡ s.page
        go true = refl
        go false = refl

    sound_after : (x : Call) → Formed x → (any : List ℕ)
        → lent_verdict size (next size lent_state x).work (next size lent_state x).list (next size lent_state x).store (lent (next size lent_state x) any) ≡ 0
    sound_after x f any = reached_state_earns_no_refusal size (next size lent_state x) (call_reaches_a_state lent_state x f is_reached) any

    pub ingest_leaves_sound_work : (k : List ℕ) (c : Option Change) → length k ≡ 32
        → lent_verdict size (ingest_of size w list store page k c).work (ingest_of size w list store page k c).list (ingest_of size w list store page k c).store page ≡ 0
    ingest_leaves_sound_work k c f =
        let after : State = next size lent_state (ingest page k c) in
        ap (λ (x : List ℕ). let r = ingest_of size w list store x k c in lent_verdict size r.work r.list r.store page) (sym (lent_itself lent_state))
        ∙ ap (lent_verdict size after.work after.list after.store) (sym (lent_itself after))
        ∙ sound_after (ingest page k c) f page

    pub removal_leaves_sound_work : lent_verdict size (remove_cutoff_of size w list store).work list store page ≡ 0
    removal_leaves_sound_work =
        ap (lent_verdict size (remove_cutoff_of size w list store).work list store) (sym (lent_itself (next size lent_state remove_cutoff))) ∙ sound_after remove_cutoff tt page

    -- with the new page
    pub accepted_next_base_leaves_sound_work : (new sep : List ℕ) (cut : Bool) (key : List ℕ) → length sep ≡ 32 → length key ≡ 32
        → reply_number (next_base_of size w list store new sep cut key).reply ≡ 0 → lent_verdict size (next_base_of size w list store new sep cut key).work list store new ≡ 0
    accepted_next_base_leaves_sound_work new sep cut key l m e =
        let after : State = next size lent_state (next_base new sep cut key) in
        let t : after.page ≡ new = ap (λ (b : Bool). cond b new page) (eq-eqb _ _ e) in
        ap (lent_verdict size after.work list store) (sym (ap (lent after) (sym t) ∙ lent_itself after ∙ t)) ∙ sound_after (next_base new sep cut key) (l, m) new

    -- no page is read after it, so any may be lent
    pub accepted_digest_leaves_sound_work : (area tickets any : List ℕ) → digest_number (digest_of size w list store page area tickets).reply ≡ 0
        → lent_verdict size (digest_of size w list store page area tickets).work (digest_of size w list store page area tickets).list
        (digest_of size w list store page area tickets).store any
        ≡ 0
    accepted_digest_leaves_sound_work area tickets any e =
        let same : digest_of size w list store (lent lent_state page) area tickets ≡ digest_of size w list store page area tickets =
        ap (λ (x : List ℕ). digest_of size w list store x area tickets) (lent_itself lent_state) in
        let e' : answered size lent_state (digest page area tickets) ≡ 0 = ap (λ r. digest_number r.reply) same ∙ e in
        let ok : eqb (digest_verdict_lem size q lent_state is_reached page area tickets) 0 ≡ true =
        eq-eqb _ _ (sym (digest_answers_its_verdict size q lent_state is_reached page area tickets) ∙ e') in
        let after : State = next size lent_state (digest page area tickets) in
        let unread : reads_base after.work ≡ false =
        ap (λ (r : Digested). reads_base r.work) (accepted_digest_is size q lent_state is_reached page area tickets ok)
        ∙ no_base_is_read_after_a_digest size w list store area tickets (cutting size q lent_state is_reached page area tickets) in
        let any-is-lent : lent after any ≡ any =
        lent_is size after (call_reaches_a_state lent_state (digest page area tickets) tt is_reached) any ∙ ap (λ (b : Bool). cond b after.page any) unread in
        ap (λ (r : Digested). lent_verdict size r.work r.list r.store any) (sym same)
        ∙ ap (lent_verdict size after.work after.list after.store) (sym any-is-lent)
        ∙ sound_after (digest page area tickets) tt any

    pub digest_keeps_the_lengths_of_area_and_tickets : (area tickets : List ℕ)
        → (length (digest_of size w list store page area tickets).area ≡ length area) × (length (digest_of size w list store page area tickets).tickets ≡ length tickets)
    digest_keeps_the_lengths_of_area_and_tickets area tickets =
        subst (λ (x : List ℕ). (length (digest_of size w list store x area tickets).area ≡ length area) × (length (digest_of size w list store x area tickets).tickets ≡ length tickets))
        (lent_itself lent_state)
        (digest_keeps_area_and_tickets_as_long size q lent_state is_reached page area tickets)
