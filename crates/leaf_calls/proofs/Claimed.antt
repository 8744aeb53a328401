-- Demand 3 holds of every sequence of the exported calls: each answers and leaves what the claim's sequence has, since its contract says so, and so
-- do the two calls by which the pending records are read. Assumes nothing.
use mathlib.Core.Path.{◌≡◌, refl, sym, ap, ◌∙◌, subst}
use mathlib.Core.Bool.{Bool, true, false}
use mathlib.Core.List.{List, [], ◌∷◌, ◌++◌}
use Prim.Native.Nat.{ℕ, suc}
use lib.Dec.{eqb}
use lib.ListN.{length}
use borrow.Author.Tests.{ne_eqb, eqb-true, eqb-false}
use Rattle.leaf_node.specs.Record.{Record}
use Rattle.leaf_node.specs.Fits.{All, nil, cons}
use Rattle.leaf_model.specs.Cut.{Cut}
use Rattle.leaf_model.specs.Work.{plan}
use Rattle.leaf_model.proofs.Lists.{all_append, all_map}
use Rattle.leaf_work.specs.declared.Work.{Work}
use Rattle.leaf_work.specs.declared.Entry.{Entry}
use Rattle.leaf_work.specs.Lent.{regarded, cutoff_of}
use Rattle.leaf_work.specs.Pending.{part_at, held, pending_of}
use Rattle.leaf_work.specs.Verdict.{Opening, open_verdict, lent_verdict, digest_verdict}
use Rattle.leaf_work.specs.Outcome.{reply_number, open_of, IngestReply, IngestRefused, Quiet, Reported, ingest_number, ingest_of, Found, part_by, twin_of, part_of}
use Rattle.leaf_work.specs.Digest.{DigestReply, DigestRefused, Finished, Merge, digest_number, digest_reply_by, digest_on, digest_of}
use Rattle.leaf_pending.specs.declared.TwinPlace.{TwinPlace}
use Rattle.leaf_pending.specs.Reply.{twin_out}
use Rattle.leaf_take.specs.declared.LeafReport.{LeafReport}
use Rattle.leaf_take.specs.Reply.{report_out}
use Rattle.leaf_digest.specs.declared.LeafGave.{LeafGave}
use Rattle.leaf_digest.specs.Reply.{gave_out}
use Rattle.leaf_open.proofs.Openings.{a_page_has_4096_bytes}
use Rattle.leaf_claim.specs.Sequence.{Call, ingest, digest, next_base, remove_cutoff, State, Happened, Course, lent, answered, gives, next, nexts, opened, happens, happenings, course_of}
use Rattle.leaf_claim.specs.Sequence as claim
use Rattle.leaf_claim.specs.Claim.{FormedOpening, Formed, ByTwins, Answered, Claim}
use Rattle.leaf_claim.proofs.Claimed.{claim_holds_of_every_sequence}
use Rattle.leaf_calls.specs.Run.{gave_in, goes_on, Run, Answers, stop, more, ByCalls}
use Rattle.leaf_calls.specs.Run as run

-- ---- the numbers of the replies

report_number : (x : IngestReply) → (report_out x).refusal ≡ ingest_number x
report_number (IngestRefused n) = refl
report_number Quiet = refl
report_number (Reported a n) = refl

-- a digest is refused by a number that isn't 0, so that its reply can be read from its numbers
pub data Numbered : DigestReply → Type 0 where
  refused : (n : ℕ) → (n ≡ 0 → ⊥) → Numbered (DigestRefused n)
  finished : (n : ℕ) → Numbered (Finished n)
  merging : (n : ℕ) (c : List ℕ) → Numbered (Merge n c)

gave_number : (x : DigestReply) → (gave_out x).refusal ≡ digest_number x
gave_number (DigestRefused n) = refl
gave_number (Finished n) = refl
gave_number (Merge n c) = refl

gave_back : (x : DigestReply) → Numbered x → gave_in (gave_out x) ≡ x
gave_back x (refused n h) = rw (gave_in, ne_eqb n 0 h)
gave_back x (finished n) = refl
gave_back x (merging n c) = refl

replies_numbered : (rs : List Record) (leaves : ℕ) (cutoff : List ℕ) → Numbered (digest_reply_by rs leaves cutoff)
replies_numbered [] leaves cutoff = finished leaves
replies_numbered (r ∷ rs) leaves cutoff = merging leaves cutoff

digests_numbered : (w : Work) (list : List Entry) (store page area tickets : List ℕ) → Numbered (digest_of 4096 w list store page area tickets).reply
unfolding digest_on
digests_numbered w list store page area tickets = go (eqb verdict 0) refl
  where
    verdict : ℕ
    verdict = digest_verdict 4096 w (pending_of w list store (regarded w page)) area tickets (lent_verdict 4096 w list store page)

    p : Cut
    p = plan 4096 (cutoff_of w) (pending_of w list store (regarded w page))

    go : (b : Bool) → eqb verdict 0 ≡ b → Numbered (digest_of 4096 w list store page area tickets).reply
    go true e = rw (digest_on, e) (replies_numbered p.left (length p.leaves) w.cutoff)
    go false e = rw (digest_on, e) (refused verdict (eqb-false verdict 0 e))

-- ---- a course that is reached is one of the claim's

-- the claim's sequence goes on with a call
abbrev goes : Course → Call → Course
goes c x = goes_on c x (answered 4096 c.now x) (gives 4096 c.now x) (next 4096 c.now x)

nexts_more : (s : State) (xs : List Call) (x : Call) → nexts 4096 s (xs ++ (x ∷ [])) ≡ next 4096 (nexts 4096 s xs) x
nexts_more s [] x = refl
nexts_more s (y ∷ ys) x = nexts_more (next 4096 s y) ys x

happenings_more : (s : State) (xs : List Call) (x : Call) → happenings 4096 s (xs ++ (x ∷ [])) ≡ happenings 4096 s xs ++ (happens 4096 (nexts 4096 s xs) x ∷ [])
happenings_more s [] x = refl
happenings_more s (y ∷ ys) x = ap {B = List Happened} (λ z. happens 4096 s y ∷ z) (happenings_more (next 4096 s y) ys x)

course_more : (s : State) (xs : List Call) (x : Call) → course_of 4096 s (xs ++ (x ∷ [])) ≡ goes (course_of 4096 s xs) x
course_more s xs x = λ j. record { now = nexts_more s xs x j; past = happenings_more s xs x j }

record Reached (c : Course) : Type 0 where
  every : Bool
  opening : Opening
  formed : FormedOpening opening
  work : Work
  list : List Entry
  store : List ℕ
  accepted : open_verdict 4096 opening list store ≡ 0
  calls : List Call
  calls_formed : All Formed calls
  course_is : course_of 4096 (opened 4096 every opening work list store) calls ≡ c

one_more : {c d : Course} → Reached c → (x : Call) → Formed x → goes c x ≡ d → Reached d
one_more h x f e = record {
  every = h.every;
  opening = h.opening;
  formed = h.formed;
  work = h.work;
  list = h.list;
  store = h.store;
  accepted = h.accepted;
  calls = h.calls ++ (x ∷ []);
  calls_formed = all_append h.calls_formed (cons f nil);
  course_is = course_more (opened 4096 h.every h.opening h.work h.list h.store) h.calls x ∙ ap (λ (y : Course). goes y x) h.course_is ∙ e;
}

number_of_an_opening : (every : Bool) (x : Opening) (w : Work) (list : List Entry) (store : List ℕ) → reply_number (open_of 4096 every x w list store).reply ≡ open_verdict 4096 x list store
unfolding open_of
number_of_an_opening every x w list store = go (eqb (open_verdict 4096 x list store) 0) refl
  where
    go : (b : Bool) → eqb (open_verdict 4096 x list store) 0 ≡ b → reply_number (open_of 4096 every x w list store).reply ≡ open_verdict 4096 x list store
    go true e = rw (open_of, e) (sym (eqb-true (open_verdict 4096 x list store) 0 e))
    go false e = rw (open_of, e)

reached : {c : Course} → Run c → Reached c
reached (run.opened every x f w w' list list' store store' r o z) = record {
  every = every;
  opening = x;
  formed = f;
  work = w;
  list = list;
  store = store;
  accepted = sym (number_of_an_opening every x w list store) ∙ sym o.0 ∙ z;
  calls = [];
  calls_formed = nil;
  course_is = rw (o.1, o.2, o.3);
}
reached (run.ingested {c} h any key x l r w' list' store' o) =
    let s : State = c.now in
    let n : r.refusal ≡ answered 4096 s (ingest any key x) = ap (λ (y : LeafReport). y.refusal) o.0 ∙ report_number (ingest_of 4096 s.work s.list s.store (lent s any) key x).reply in
    one_more (reached h) (ingest any key x) l (rw (o.1, o.2, o.3, n))
reached (run.digested {c} h any area tickets r w' list' store' area' tickets' o) =
    let s : State = c.now in
    let n : r.refusal ≡ answered 4096 s (digest any area tickets) = ap (λ (y : LeafGave). y.refusal) o.0 ∙ gave_number (digest_of 4096 s.work s.list s.store (lent s any) area tickets).reply in
    let g : gave_in r ≡ (digest_of 4096 s.work s.list s.store (lent s any) area tickets).reply =
    ap gave_in o.0 ∙ gave_back _ (digests_numbered s.work s.list s.store (lent s any) area tickets) in
    one_more (reached h) (digest any area tickets) tt (rw (g, n, o.1, o.2, o.3, o.4, o.5))
reached (run.based {c} h page separator cut cutoff l m r w' o) = one_more (reached h) (next_base page separator cut cutoff) (l, m) (rw (o.1, o.0))
reached (run.uncut {c} h r w' o) = one_more (reached h) remove_cutoff tt (rw (o.1, o.0))

-- ---- the pending records, by the reply struct and the part's bytes

module _ (w : Work) (list : List Entry) (store page : List ℕ) (twin : ℕ → TwinPlace) (part : ℕ → List ℕ)
    (twin-says : (i : ℕ) → twin i ≡ twin_out (twin_of 4096 w list store page i)) (part_Says : (i : ℕ) → part i ≡ part_of 4096 w list store page i) where
  answers_by_calls : (i : ℕ) (rs : List Record) → claim.Answers (twin_of 4096 w list store page) store page i rs → Answers twin part i rs
  unfolding twin_out held
  answers_by_calls i rs (claim.stop e) = stop (ap (λ (y : TwinPlace). y.refusal) (twin-says i ∙ ap twin_out e))
  answers_by_calls i rs (claim.more {x = x} {rs = after} e h) =
      let t : twin i ≡ twin_out (Found x) = twin-says i ∙ ap twin_out e in
      let v : part i ≡ part_at store page x = part_Says i ∙ ap (part_by store page) e in
      let r : ◌≡◌ {A = Record} (record { key = (twin i).key; value = part i; flag = (twin i).flag }) (held store page x) =
      λ j. record { key = (t j).key; value = v j; flag = (t j).flag } in
      subst (λ (y : Record). Answers twin part i (y ∷ after)) r (more (ap (λ (y : TwinPlace). y.refusal) t) (answers_by_calls (suc i) after h))

pub twins_are_read_by_the_calls : (w : Work) (list : List Entry) (store page : List ℕ) (rs : List Record) → ByTwins 4096 w list store page rs → ByCalls w list store page rs
twins_are_read_by_the_calls w list store page rs h = λ twin part t p. answers_by_calls w list store page twin part t p 0 rs h

answered_by_calls : (x : Happened) → Answered 4096 (ByTwins 4096) x → Answered 4096 ByCalls x
answered_by_calls x a = record {
  pending = a.pending;
  twins = λ any. twins_are_read_by_the_calls x.before.work x.before.list x.before.store (lent x.before any) a.pending (a.twins any);
  number = a.number;
  digests = a.digests;
}

claim_by_calls : {c : Course} → Claim 4096 (ByTwins 4096) c → Claim 4096 ByCalls c
claim_by_calls {c} h = record {
  pending = h.pending;
  twins = λ any. twins_are_read_by_the_calls c.now.work c.now.list c.now.store (lent c.now any) h.pending (h.twins any);
  tally = h.tally;
  rising = h.rising;
  calls = all_map answered_by_calls h.calls;
  bodies = h.bodies;
  bounds = h.bounds;
  linked = h.linked;
}

-- the claim, of every sequence of the exported calls from an accepted opening, refused ones included
pub the_claim_holds_of_the_exported_calls : {c : Course} → Run c → Claim 4096 ByCalls c
the_claim_holds_of_the_exported_calls h =
    let r = reached h in
    claim_by_calls (subst (Claim 4096 (ByTwins 4096)) r.course_is
    (claim_holds_of_every_sequence 4096 a_page_has_4096_bytes r.every r.opening r.formed r.work r.list r.store r.accepted r.calls r.calls_formed))
