-- Document 02, M-100: where every dropped flagged record is reported, an accepted ingest reports exactly the pending flagged record of its key, and
-- the place that it names holds that record's value. Assumes nothing.
use mathlib.Core.Path.{◌≡◌, refl, sym, ap, ◌∙◌}
use mathlib.Core.Bool.{Bool, true, false, cond}
use mathlib.Core.Option.{Option}
use mathlib.Core.List.{List, [], ◌∷◌, ◌++◌}
use Prim.Native.Nat.{ℕ, suc, ◌+◌, ◌-◌, ◌≤◌, ◌<◌}
use native.Mathlib.Omega.{arith}
use lib.Dec.{ltb}
use lib.ListN.{take, drop}
use borrow.Author.Tests.{ne_eqb, eqb-true, eqb-false, ltb-true}
use Rattle.bit_ops.specs.Key.{num, lt_key, eq_key}
use Rattle.leaf_node.specs.Limits.{PageSize}
use Rattle.leaf_node.specs.Record.{Record}
use Rattle.leaf_node.specs.Page.{count, key_at, flag_at, start, length_at, value_at, record_at, run, records_between}
use Rattle.leaf_node.specs.Fits.{All, nil, cons, Rising, rise[], rise∷}
use Rattle.leaf_node.proofs.Lengths.{run_append}
use Rattle.leaf_model.specs.Work.{Change, records_below, records_above}
use Rattle.leaf_model.specs.Claim.{Lt}
use Rattle.leaf_model.proofs.Tests.{and_left, and_right}
use Rattle.leaf_model.proofs.Lists.{all_map}
use Rattle.leaf_model.proofs.Keys.{lt_of_test, le_of_test, rising_right}
use Rattle.leaf_model.proofs.Ingesting.{Low, High}
use Rattle.leaf_work.specs.declared.Work.{Work}
use Rattle.leaf_work.specs.declared.Entry.{Entry}
use Rattle.leaf_work.specs.Tests.{is_set}
use Rattle.leaf_work.specs.Lent.{reads_base, regarded}
use Rattle.leaf_work.specs.Pending.{listed_of, rest_of, pending_of}
use Rattle.leaf_work.specs.TakingUp.{stop, drops, taken_up, rest_after}
use Rattle.leaf_work.specs.Verdict.{Opening, open_verdict}
use Rattle.leaf_work.specs.Outcome.{report_by, ingest_of}
use Rattle.leaf_work.proofs.Laid.{an_ignored_page_has_no_records, rest_is, pending_parts, sees_work}
use Rattle.leaf_work.proofs.Searching.{matches, equal_either_way, stop_is, drops_is, Split, the_search_splits_the_rest}
use Rattle.leaf_work.proofs.Soundness.{listed_keys_are_past}
use Rattle.leaf_claim.specs.Sequence.{State, Call, ingest, lent, answered, nexts, opened, leaves_of}
use Rattle.leaf_claim.specs.Claim.{Formed, FormedOpening}
use Rattle.leaf_claim.specs.Modes.{dropped, Reports, nothing_dropped, plain_dropped, flagged_dropped, ReportsRight}
use Rattle.leaf_claim.proofs.Reached.{Reached, lent_is, pending_rises}
use Rattle.leaf_claim.proofs.OpeningStep.{accepted_opening_reaches_a_state}
use Rattle.leaf_claim.proofs.Twins.{twins_answer_the_pending_records}
use Rattle.leaf_claim.proofs.Claimed.{calls_reach_a_state}
use Rattle.leaf_claim.proofs.Modes.{modes_differ_in_reports_alone}
use Rattle.leaf_claim.proofs.IngestStep.{accepted_ingest_replies, accepted_ingest_is_let_in}

-- ---- records of other keys aren't dropped

module _ (k : List ℕ) where
  dropped_behind_low : {xs : List Record} (ys : List Record) → All (Low k) xs → dropped k (xs ++ ys) ≡ dropped k ys
  unfolding eq_key
  dropped_behind_low ys nil = refl
  dropped_behind_low ys (cons {x = x} h hs) = rw (ne_eqb (num k) (num x.key) (λ e. omega arith), dropped) (dropped_behind_low ys hs)

  none_of_the_high : {xs : List Record} → All (High k) xs → dropped k xs ≡ []
  unfolding eq_key
  none_of_the_high nil = refl
  none_of_the_high (cons {x = x} h hs) = rw (ne_eqb (num k) (num x.key) (λ e. omega arith), dropped) (none_of_the_high hs)

  below_are_low : (xs : List Record) → All (Low k) (records_below k xs)
  below_are_low [] = nil
  below_are_low (x ∷ xs) = go (lt_key x.key k) refl (below_are_low xs)
    where
      go : (b : Bool) → lt_key x.key k ≡ b → All (Low k) (records_below k xs) → All (Low k) (elim b [ true ↦ x ∷ records_below k xs | false ↦ [] ])
      go true e h = cons (lt_of_test x.key k e) h
      go false e h = nil

  above_are_high : {xs : List Record} → Rising xs → All (High k) (records_above k xs)
  unfolding eq_key
  above_are_high rise[] = nil
  above_are_high (rise∷ {x = x} {xs = xs} a h) = go (lt_key x.key k) (eq_key k x.key) refl refl (above_are_high h)
    where
      go : (b c : Bool) → lt_key x.key k ≡ b → eq_key k x.key ≡ c → All (High k) (records_above k xs)
          → All (High k) (elim b [ true ↦ records_above k xs | false ↦ elim c [ true ↦ xs | false ↦ x ∷ xs ] ])
      go true c e f g = g
      go false true e f g = let z : num k ≡ num x.key = eqb-true _ _ f in all_map (λ y l. omega arith) a
      go false false e f g =
          let l = le_of_test k x.key e in
          let z : num k ≡ num x.key → ⊥ = eqb-false _ _ f in
          let u : Lt k x.key = omega arith in
          cons u (all_map (λ y v. omega arith) a)

-- ---- the base's rest: what is taken up, the dropped one, what is left

module _ (w : Work) (p k : List ℕ) (low : w.low ≤ count p) (rising : Rising (records_between p w.low (count p))) where
  split : Split w p k
  split = the_search_splits_the_rest w p k low

  abbrev i : ℕ
  i = stop w p k

  rest_parts : records_between p w.low (count p) ≡ taken_up w p k ++ records_between p i (count p)
  unfolding records_between
  rest_parts =
      let a : count p - w.low ≡ i - w.low + (count p - i) = omega (arith, split.from, split.to, split.upto) in
      let b : w.low + (i - w.low) ≡ i = omega (arith, split.from) in
      rw a (run_append (i - w.low) (count p - i) w.low (record_at p) ∙ rw b)

  left_high : All (High k) (rest_after w p k)
  left_high = rw split.above (above_are_high k rising)

  dropped_of_the_rest : dropped k (records_between p w.low (count p)) ≡ dropped k (records_between p i (count p))
  dropped_of_the_rest =
      let taken-low : All (Low k) (taken_up w p k) = rw split.below (below_are_low k (records_between p w.low (count p))) in
      ap (dropped k) rest_parts ∙ dropped_behind_low k (records_between p i (count p)) taken-low

  none_dropped : drops w p k ≡ false → dropped k (records_between p w.low (count p)) ≡ []
  none_dropped e =
      let a : records_between p i (count p) ≡ rest_after w p k = rw e (ap (λ (j : ℕ). records_between p j (count p)) (omega arith)) in
      dropped_of_the_rest ∙ ap (dropped k) a ∙ none_of_the_high k left_high

  module _ (e : drops w p k ≡ true) where
    matching : (i < count p) × (eq_key k (key_at p i) ≡ true)
    matching =
        let m : matches k p i ≡ true = ap (matches k p) (stop_is w p k) ∙ sym (drops_is w p k) ∙ e in
        (ltb-true _ _ (and_left (ltb i (count p)) _ m), equal_either_way k (key_at p i) ∙ and_right (ltb i (count p)) _ m)

    first_of_the_rest : records_between p i (count p) ≡ record_at p i ∷ rest_after w p k
    unfolding records_between run
    first_of_the_rest =
        let a : count p - i ≡ suc (count p - (i + 1)) = omega (arith, matching.0) in
        let b : suc i ≡ i + 1 = omega arith in
        rw (e, a) (ap {B = List Record} (λ z. record_at p i ∷ z) (ap (λ (j : ℕ). run (count p - (i + 1)) j (record_at p)) b))

    one_dropped : dropped k (records_between p w.low (count p)) ≡ record_at p i ∷ []
    unfolding record_at
    one_dropped =
        dropped_of_the_rest
        ∙ ap (dropped k) first_of_the_rest
        ∙ rw (matching.1, dropped) (ap {B = List Record} (λ z. record_at p i ∷ z) (none_of_the_high k left_high))

  -- the reply that the report's definition gives is right
  report_is_right : (page : List ℕ) → (drops w p k ≡ true → page ≡ p) → Reports page (dropped k (records_between p w.low (count p))) (report_by true w.low p i (drops w p k))
  unfolding record_at value_at
  report_is_right page lent-page = go (drops w p k) (flag_at p i) refl refl
    where
      go : (d f : Bool) → drops w p k ≡ d → flag_at p i ≡ f → Reports page (dropped k (records_between p w.low (count p))) (report_by true w.low p i (drops w p k))
      go false f e g = rw (none_dropped e, e, report_by) nothing_dropped
      go true false e g = rw (one_dropped e, e, g, report_by) (plain_dropped refl)
      go true true e g = rw (one_dropped e, e, g, report_by) (flagged_dropped refl (ap (λ (z : List ℕ). take (length_at p i) (drop (start p i) z)) (lent-page e)))

-- ---- an accepted ingest of a sequence

module _ (size : ℕ) (s : State) (h : Reached size s) (every : is_set s.work.mode ≡ true) (any k : List ℕ) (c : Option Change) (e : answered size s (ingest any k c) ≡ 0) where
  abbrev w : Work
  w = s.work

  abbrev p : List ℕ
  p = regarded w s.page

  abbrev pending : List Record
  pending = pending_of w s.list s.store p

  listed_low : All (Low k) (listed_of w s.list s.store p)
  listed_low =
      all_map (λ r f. f k (accepted_ingest_is_let_in size s h any k c e))
      (listed_keys_are_past size (sees_work w s.list s.store p) (leaves_of size s.given) s.tally h.canonical.invariant)

  rest : rest_of w s.store p ≡ records_between p w.low (count p)
  rest = rest_is w s.list s.store p h.canonical.ops h.canonical.laid

  rest_rises : Rising (records_between p w.low (count p))
  rest_rises = rw (← rest) (rising_right (listed_of w s.list s.store p) (rest_of w s.store p) (pending_rises size s h))

  dropped_is : dropped k pending ≡ dropped k (records_between p w.low (count p))
  dropped_is = ap (dropped k) (pending_parts w s.list s.store p) ∙ dropped_behind_low k (rest_of w s.store p) listed_low ∙ ap (dropped k) rest

  -- a record is dropped only of a page that is read
  page_is_lent : drops w p k ≡ true → lent s any ≡ p
  page_is_lent d = lent_is size s h any ∙ go (reads_base w) refl
    where
      some_record : 0 < count p
      some_record = omega (arith, (matching w p k h.canonical.laid.low_in rest_rises d).0)

      go : (b : Bool) → reads_base w ≡ b → cond (reads_base w) s.page any ≡ cond (reads_base w) s.page []
      go true f = rw f
      go false f = let z : count p ≡ 0 = ap (λ (b : Bool). count (cond b s.page [])) f ∙ an_ignored_page_has_no_records in absurd (omega (arith, some_record))

  reported_right : Reports (lent s any) (dropped k pending) (ingest_of size w s.list s.store (lent s any) k c).reply
  reported_right =
      rw (dropped_is, accepted_ingest_replies size s h any k c e, every) (report_is_right w p k h.canonical.laid.low_in rest_rises (lent s any) page_is_lent)

-- M-100, of every sequence from an accepted opening in the new mode: "every dropped flagged record is reported [..] and nothing else is"
pub every_dropped_flagged_record_is_reported : (size : ℕ) → PageSize size → (x : Opening) → FormedOpening x → (w : Work) (list : List Entry) (store : List ℕ)
    → open_verdict size x list store ≡ 0 → (xs : List Call) → All Formed xs → (any k : List ℕ) (c : Option Change)
    → answered size (nexts size (opened size true x w list store) xs) (ingest any k c) ≡ 0 → ReportsRight size (nexts size (opened size true x w list store) xs) any k c
every_dropped_flagged_record_is_reported size q x f w list store e xs fs any k c a =
    let s : State = nexts size (opened size true x w list store) xs in
    let h : Reached size s = calls_reach_a_state size q xs fs (opened size true x w list store) (accepted_opening_reaches_a_state size q true x f w list store e) in
    let mode : s.work.mode ≡ 1 = ap (λ (z : Work). z.mode) (modes_differ_in_reports_alone size q true true x f w list store e xs fs).states.work in
    let every : is_set s.work.mode ≡ true = ap is_set mode in
    record {
      pending = pending_of s.work s.list s.store (regarded s.work s.page);
      twins = twins_answer_the_pending_records size s h any;
      report = reported_right size s h every any k c a;
    }
