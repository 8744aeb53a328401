-- Document 02, M-100: every definition but that of the report reads a work in one mode as it reads it in the other. Assumes nothing.
use mathlib.Core.Path.{◌≡◌, refl, sym, ap, ap₂, ◌∙◌, subst}
use mathlib.Core.Bool.{Bool, true, false, cond}
use mathlib.Core.Option.{Option}
use mathlib.Core.List.{List, [], ◌∷◌, ◌++◌, map}
use Prim.Native.Nat.{ℕ}
use lib.Dec.{eqb}
use lib.ListN.{length}
use borrow.Author.Tests.{le-leb}
use Rattle.leaf_node.specs.Limits.{PageSize}
use Rattle.leaf_node.specs.Record.{Record}
use Rattle.leaf_node.specs.Page.{start, length_at}
use Rattle.leaf_node.specs.Fits.{All, cons}
use Rattle.leaf_model.specs.Work.{Change}
use Rattle.leaf_work.specs.declared.Work.{Work}
use Rattle.leaf_work.specs.declared.Entry.{Entry}
use Rattle.leaf_work.specs.Tests.{is_set, bit, key_if}
use Rattle.leaf_work.specs.Lent.{regarded, in_mode}
use Rattle.leaf_work.specs.Pending.{listed_of, pending_of}
use Rattle.leaf_work.specs.Sound.{is_flag, past_all, sound}
use Rattle.leaf_work.specs.TakingUp.{reports, stop, drops}
use Rattle.leaf_work.specs.Verdict.{Opening, with_base_lem, with_none, open_verdict, lent_verdict, ingest_verdict, digest_verdict, next_base_verdict, remove_verdict}
use Rattle.leaf_work.specs.Outcome.{reply_number, Quiet, Reported, report_by, ingest_number, Ingested, ingest_on, ingest_of, Changed, changed_by, next_base_work, next_base_of, remove_work, remove_cutoff_of, twin_of}
use Rattle.leaf_work.specs.Digest.{DigestRefused, digest_number, Digested, digest_on, digest_of}
use Rattle.leaf_claim.specs.Told.{told_ingest, told_digest, told_next_base, told_removal}
use Rattle.leaf_claim.specs.Sequence.{State, Given, Call, ingest, digest, next_base, remove_cutoff, lent, fed, given_by, answered, gives, next, nexts, opened, happenings, course_of}
use Rattle.leaf_claim.specs.Claim.{Formed, FormedOpening}
use Rattle.leaf_claim.specs.Modes.{DifferInMode}
use Rattle.leaf_claim.proofs.Reached.{Reached}
use Rattle.leaf_claim.proofs.OpeningStep.{opened_state, accepted_opening_is, accepted_opening_reaches_a_state}
use Rattle.leaf_claim.proofs.Claimed.{call_reaches_a_state, calls_reach_a_state}

past_alike : (m : ℕ) (w : Work) (xs : List Record) → past_all (in_mode m w) xs ≡ past_all w xs
past_alike m w [] = refl
past_alike m w (r ∷ []) = refl
past_alike m w (r ∷ q ∷ rs) = past_alike m w (q ∷ rs)

-- ---- one call, of a work in mode m

module _ (size m : ℕ) (flag : is_flag m ≡ true) (w : Work) (list : List Entry) (store : List ℕ) (known : is_flag w.mode ≡ true) where
  abbrev w' : Work
  w' = in_mode m w

  sound_alike : (page : List ℕ) → sound size w' list store page ≡ sound size w list store page
  unfolding sound
  sound_alike page = rw (flag, known, past_alike m w (listed_of w list store page))

  lent_alike : (page : List ℕ) → lent_verdict size w' list store page ≡ lent_verdict size w list store page
  unfolding lent_verdict
  lent_alike page = rw (sound_alike (regarded w page))

  twin_alike : (page : List ℕ) (i : ℕ) → twin_of size w' list store page i ≡ twin_of size w list store page i
  twin_alike page i = rw (lent_alike page)

  -- ---- ingest

  module _ (page k : List ℕ) (c : Option Change) where
    abbrev verdict : ℕ
    verdict = ingest_verdict size w list store (regarded w page) k c (lent_verdict size w list store page)

    ingest_verdict_alike : ingest_verdict size w' list store (regarded w page) k c (lent_verdict size w' list store page) ≡ verdict
    unfolding ingest_verdict stop drops
    ingest_verdict_alike = rw (lent_alike page)

    record IngestAlike (r r' : Ingested) : Type 0 where
      work : r'.work ≡ in_mode m r.work
      list_alike : r'.list ≡ r.list
      store_alike : r'.store ≡ r.store
      number : ingest_number r'.reply ≡ ingest_number r.reply

    number_of_a_report : (a b : Bool) (o l : ℕ) → ingest_number (elim a [ true ↦ Reported o l | false ↦ Quiet ]) ≡ ingest_number (elim b [ true ↦ Reported o l | false ↦ Quiet ])
    number_of_a_report true true o l = refl
    number_of_a_report true false o l = refl
    number_of_a_report false true o l = refl
    number_of_a_report false false o l = refl

    abbrev p : List ℕ
    p = regarded w page

    reports_have_no_number : ingest_number (report_by (is_set m) w.low p (stop w p k) (drops w p k)) ≡ ingest_number (report_by (is_set w.mode) w.low p (stop w p k) (drops w p k))
    reports_have_no_number =
        number_of_a_report (reports (is_set m) w.low p (stop w p k) (drops w p k)) (reports (is_set w.mode) w.low p (stop w p k) (drops w p k)) (start p (stop w p k))
        (length_at p (stop w p k))

    ingest_alike : IngestAlike (ingest_of size w list store page k c) (ingest_of size w' list store page k c)
    unfolding ingest_on stop drops
    ingest_alike = go (eqb verdict 0) refl
      where
        go : (b : Bool) → eqb verdict 0 ≡ b → IngestAlike (ingest_of size w list store page k c) (ingest_of size w' list store page k c)
        go true e = rw (ingest_verdict_alike, e, ingest_on) (record { work = refl; list_alike = refl; store_alike = refl; number = reports_have_no_number })
        go false e = rw (ingest_verdict_alike, e, ingest_on) (record { work = refl; list_alike = refl; store_alike = refl; number = ingest_verdict_alike })

  -- ---- digest

  module _ (page area tickets : List ℕ) where
    abbrev digested : Digested
    digested = digest_of size w list store page area tickets

    digest_verdict_alike : (pending : List Record) (lent : ℕ) → digest_verdict size w' pending area tickets lent ≡ digest_verdict size w pending area tickets lent
    unfolding digest_verdict
    digest_verdict_alike pending lent = refl

    digest_alike : digest_of size w' list store page area tickets
        ≡ record { reply = digested.reply; work = in_mode m digested.work; list = digested.list; store = digested.store; area = digested.area; tickets = digested.tickets }
    unfolding digest_on
    digest_alike = rw (lent_alike page) (go (eqb verdict 0) refl)
      where
        pending : List Record
        pending = pending_of w list store (regarded w page)

        lent_by : ℕ
        lent_by = lent_verdict size w list store page

        verdict : ℕ
        verdict = digest_verdict size w pending area tickets lent_by

        on : Work → Digested
        on x = digest_on size x list store area tickets pending lent_by

        go : (b : Bool) → eqb verdict 0 ≡ b
            → on w'
            ≡ record { reply = (on w).reply; work = in_mode m (on w).work; list = (on w).list; store = (on w).store; area = (on w).area; tickets = (on w).tickets }
        go true e = rw (digest_on, digest_verdict_alike pending lent_by, e)
        go false e =
            rw (digest_on, digest_verdict_alike pending lent_by, e)
            (ap (λ (n : ℕ). record { reply = DigestRefused n; work = w'; list = list; store = store; area = area; tickets = tickets }) (digest_verdict_alike pending lent_by))

  -- ---- next base, cutoff removal

  changed_alike : (v : ℕ) (after : Work) → changed_by v w' (in_mode m after) ≡ record { reply = (changed_by v w after).reply; work = in_mode m (changed_by v w after).work }
  changed_alike v after = go (eqb v 0) refl
    where
      go : (b : Bool) → eqb v 0 ≡ b → changed_by v w' (in_mode m after) ≡ record { reply = (changed_by v w after).reply; work = in_mode m (changed_by v w after).work }
      go true e = rw (changed_by, e)
      go false e = rw (changed_by, e)

  next_base_alike : (page sep : List ℕ) (cut : Bool) (key : List ℕ)
      → next_base_of size w' list store page sep cut key
      ≡ record { reply = (next_base_of size w list store page sep cut key).reply; work = in_mode m (next_base_of size w list store page sep cut key).work }
  unfolding next_base_of next_base_verdict
  next_base_alike page sep cut key = rw (sound_alike []) (changed_alike (next_base_verdict size w list store page sep (key_if cut key)) (next_base_work w sep cut key))

  removal_alike : remove_cutoff_of size w' list store ≡ record { reply = (remove_cutoff_of size w list store).reply; work = in_mode m (remove_cutoff_of size w list store).work }
  unfolding remove_cutoff_of remove_verdict
  removal_alike = rw (sound_alike []) (changed_alike (remove_verdict size w list store) (remove_work w))

-- ---- a step of a sequence

abbrev mode_state : ℕ → State → State
mode_state m s = record {
  work = in_mode m s.work;
  list = s.list;
  store = s.store;
  page = s.page;
  told = s.told;
  given = s.given;
  tally = s.tally;
}

module _ (size : ℕ) (q : PageSize size) (m : ℕ) (flag : is_flag m ≡ true) where
  module _ (s : State) (h : Reached size s) where
    known : is_flag s.work.mode ≡ true
    known = le-leb _ _ h.canonical.kept.flags.mode

    answered_alike : (x : Call) → answered size (mode_state m s) x ≡ answered size s x
    answered_alike (ingest any k c) = (ingest_alike size m flag s.work s.list s.store known (lent s any) k c).number
    answered_alike (digest any area tickets) = ap (λ (r : Digested). digest_number r.reply) (digest_alike size m flag s.work s.list s.store known (lent s any) area tickets)
    answered_alike (next_base page sep cut key) = ap (λ (r : Changed). reply_number r.reply) (next_base_alike size m flag s.work s.list s.store known page sep cut key)
    answered_alike remove_cutoff = ap (λ (r : Changed). reply_number r.reply) (removal_alike size m flag s.work s.list s.store known)

    gives_alike : (x : Call) → gives size (mode_state m s) x ≡ gives size s x
    gives_alike (ingest any k c) = refl
    gives_alike (digest any area tickets) =
        ap (λ (r : Digested). given_by r.reply r.area r.tickets) (digest_alike size m flag s.work s.list s.store known (lent s any) area tickets)
    gives_alike (next_base page sep cut key) = refl
    gives_alike remove_cutoff = refl

    next_alike : (x : Call) → next size (mode_state m s) x ≡ mode_state m (next size s x)
    next_alike (ingest any k c) =
        let a = ingest_alike size m flag s.work s.list s.store known (lent s any) k c in
        λ j. record {
          work = a.work j;
          list = a.list_alike j;
          store = a.store_alike j;
          page = s.page;
          told = cond (eqb (a.number j) 0) (told_ingest k s.told) s.told;
          given = s.given;
          tally = fed (ingest any k c) (eqb (a.number j) 0) s.tally;
        }
    next_alike (digest any area tickets) =
        ap (λ (r : Digested). record {
          work = r.work;
          list = r.list;
          store = r.store;
          page = s.page;
          told = told_digest r.reply r.tickets s.told;
          given = s.given ++ given_by r.reply r.area r.tickets;
          tally = s.tally;
        })
        (digest_alike size m flag s.work s.list s.store known (lent s any) area tickets)
    next_alike (next_base page sep cut key) =
        ap (λ (r : Changed). record {
          work = r.work;
          list = s.list;
          store = s.store;
          page = cond (eqb (reply_number r.reply) 0) page s.page;
          told = cond (eqb (reply_number r.reply) 0) (told_next_base sep (key_if cut key) s.told) s.told;
          given = s.given;
          tally = fed (next_base page sep cut key) (eqb (reply_number r.reply) 0) s.tally;
        })
        (next_base_alike size m flag s.work s.list s.store known page sep cut key)
    next_alike remove_cutoff =
        ap (λ (r : Changed). record {
          work = r.work;
          list = s.list;
          store = s.store;
          page = s.page;
          told = cond (eqb (reply_number r.reply) 0) (told_removal s.told) s.told;
          given = s.given;
          tally = s.tally;
        })
        (removal_alike size m flag s.work s.list s.store known)

  -- ---- a whole sequence

  record CourseAlike (s s' : State) (xs : List Call) : Type 0 where
    last : nexts size s' xs ≡ mode_state m (nexts size s xs)
    answers : map (λ x. x.answer) (happenings size s' xs) ≡ map (λ x. x.answer) (happenings size s xs)
    gave : map (λ x. x.gave) (happenings size s' xs) ≡ map (λ x. x.gave) (happenings size s xs)

  course_alike : (xs : List Call) → All Formed xs → (s : State) → Reached size s → CourseAlike s (mode_state m s) xs
  course_alike [] a s h = record { last = refl; answers = refl; gave = refl }
  course_alike (x ∷ xs) (cons f fs) s h =
      let n = next_alike s h x in
      let rest : CourseAlike (next size s x) (next size (mode_state m s) x) xs =
      subst (λ (z : State). CourseAlike (next size s x) z xs) (sym n) (course_alike xs fs (next size s x) (call_reaches_a_state size q s x f h)) in
      record {
        last = rest.last;
        answers = ap₂ {B = List ℕ} (λ y ys. y ∷ ys) (answered_alike s h x) rest.answers;
        gave = ap₂ {B = List (List Given)} (λ y ys. y ∷ ys) (gives_alike s h x) rest.gave;
      }

opening_alike : (a b : Bool) (x : Opening) (n e : ℕ) → opened_state b x n e ≡ mode_state (bit b) (opened_state a x n e)
opening_alike a b (with_base_lem page sep cut key) n e = refl
opening_alike a b (with_none cut) n e = refl

bit_is_a_flag : (b : Bool) → is_flag (bit b) ≡ true
bit_is_a_flag true = refl
bit_is_a_flag false = refl

-- "Leaves are equal in both modes, shown for both together": a and b are any two modes
pub modes_differ_in_reports_alone : (size : ℕ) → PageSize size → (a b : Bool) (x : Opening) → FormedOpening x → (w : Work) (list : List Entry) (store : List ℕ)
    → open_verdict size x list store ≡ 0 → (xs : List Call) → All Formed xs
    → DifferInMode size (bit b) (course_of size (opened size a x w list store) xs) (course_of size (opened size b x w list store) xs)
modes_differ_in_reports_alone size q a b x f w list store e xs fs =
    let flag = bit_is_a_flag b in
    let begun : opened size b x w list store ≡ mode_state (bit b) (opened size a x w list store) =
    accepted_opening_is size b x w list store e
    ∙ opening_alike a b x (length list) (length store)
    ∙ ap (mode_state (bit b)) (sym (accepted_opening_is size a x w list store e)) in
    let s : State = opened size a x w list store in
    let h : Reached size s = accepted_opening_reaches_a_state size q a x f w list store e in
    let c : CourseAlike size q (bit b) flag s (opened size b x w list store) xs =
    subst (λ (z : State). CourseAlike size q (bit b) flag s z xs) (sym begun) (course_alike size q (bit b) flag xs fs s h) in
    let last : State = nexts size s xs in
    let known : is_flag last.work.mode ≡ true = le-leb _ _ (calls_reach_a_state size q xs fs s h).canonical.kept.flags.mode in
    record {
      states = record {
        work = ap (λ (z : State). z.work) c.last;
        list = ap (λ (z : State). z.list) c.last;
        store = ap (λ (z : State). z.store) c.last;
        page = ap (λ (z : State). z.page) c.last;
        told = ap (λ (z : State). z.told) c.last;
        given = ap (λ (z : State). z.given) c.last;
        tally = ap (λ (z : State). z.tally) c.last;
      };
      answers = c.answers;
      gave = c.gave;
      twins = λ any i. ap (λ (z : State). twin_of size z.work z.list z.store (lent z any) i) c.last
          ∙ twin_alike size (bit b) flag last.work last.list last.store known (lent last any) i;
    }
