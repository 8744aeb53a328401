-- Ingest, from a reached state, reaches a state. Assumes nothing.
use mathlib.Core.Path.{◌≡◌, refl, sym, ap, ap₂, ◌∙◌}
use mathlib.Core.Bool.{Bool, true, false, cond}
use mathlib.Core.Option.{Option}
use mathlib.Core.List.{List, ◌++◌}
use Prim.Native.Nat.{ℕ, ◌+◌, ◌≤◌}
use lib.Dec.{eqb}
use lib.ListN.{length}
use borrow.Author.Tests.{eqb-true, leb-true, eq-eqb}
use Rattle.leaf_node.specs.Record.{total}
use Rattle.leaf_node.specs.Page.{start, length_at}
use Rattle.leaf_node.specs.Fits.{Rising}
use Rattle.leaf_model.specs.Work.{Change, Ingest, below_cutoff, change_fits, allowed}
use Rattle.leaf_model.specs.Tally.{changed}
use Rattle.leaf_model.proofs.Keys.{rising_right}
use Rattle.leaf_model.proofs.Invariant.{ingest_keeps_the_invariant}
use Rattle.leaf_work.specs.declared.Work.{Work}
use Rattle.leaf_work.specs.Tests.{is_set}
use Rattle.leaf_work.specs.Lent.{is_open, cutoff_of, regarded}
use Rattle.leaf_work.specs.Pending.{listed_of, rest_of}
use Rattle.leaf_work.specs.Sound.{lets_in}
use Rattle.leaf_work.specs.TakingUp.{reports, stop, drops, count_after, bytes_after, rest_after}
use Rattle.leaf_work.specs.Verdict.{ingest_verdict}
use Rattle.leaf_work.specs.Outcome.{IngestRefused, Quiet, Reported, ingest_number, Ingested, report_of, ingest_work, ingest_done, ingest_on, ingest_of}
use Rattle.leaf_work.proofs.Tests.{and_both, passed, first_passed}
use Rattle.leaf_work.proofs.Laid.{open_turn, sees_work}
use Rattle.leaf_claim.specs.Told.{told_ingest}
use Rattle.leaf_claim.specs.Sequence.{State, ingest, lent, answered, next, leaves_of}
use Rattle.leaf_claim.proofs.Ingesting.{new, laid_after_ingest, model_sees_the_ingest, list_is_as_long, store_is_as_long, kept_after_ingest}
use Rattle.leaf_claim.proofs.Reached.{Reached, equal_states_are_reached, regarded_lent, reached_state_earns_no_refusal, pending_rises}

report_number : (b : Bool) (at n : ℕ) → ingest_number (elim b [ true ↦ Reported at n | false ↦ Quiet ]) ≡ 0
report_number true at n = refl
report_number false at n = refl

module _ (size : ℕ) (s : State) (h : Reached size s) (any k : List ℕ) (c : Option Change) where
  abbrev w : Work
  w = s.work

  abbrev p : List ℕ
  p = regarded w s.page

  pub ingest_of_a_reached_state : ingest_of size w s.list s.store (lent s any) k c ≡ ingest_on size w s.list s.store p k c 0
  ingest_of_a_reached_state = ap₂ (λ (x : List ℕ) (y : ℕ). ingest_on size w s.list s.store x k c y) (regarded_lent size s h any) (reached_state_earns_no_refusal size s h any)

  abbrev verdict : ℕ
  verdict = ingest_verdict size w s.list s.store p k c 0

  -- the state after a reply
  abbrev after : Ingested → State
  after r = record {
    work = r.work;
    list = r.list;
    store = r.store;
    page = s.page;
    told = cond (eqb (ingest_number r.reply) 0) (told_ingest k s.told) s.told;
    given = s.given;
    tally = cond (eqb (ingest_number r.reply) 0) (changed k c s.tally) s.tally;
  }

  refused : eqb verdict 0 ≡ false → ingest_on size w s.list s.store p k c 0 ≡ record { reply = IngestRefused verdict; work = w; list = s.list; store = s.store }
  unfolding ingest_on
  refused e = rw (e, ingest_on)

  taken : eqb verdict 0 ≡ true → ingest_on size w s.list s.store p k c 0 ≡ ingest_done size w s.list s.store p k c
  unfolding ingest_on
  taken e = rw (e, ingest_on)

  report_is_no_refusal : ingest_number (report_of size w s.list s.store p k c) ≡ 0
  report_is_no_refusal = report_number (reports (is_set w.mode) w.low p (stop w p k) (drops w p k)) (start p (stop w p k)) (length_at p (stop w p k))

  pub ingest_answers_its_verdict : answered size s (ingest any k c) ≡ verdict
  ingest_answers_its_verdict = ap (λ r. ingest_number r.reply) ingest_of_a_reached_state ∙ go (eqb verdict 0) refl
    where
      go : (b : Bool) → eqb verdict 0 ≡ b → ingest_number (ingest_on size w s.list s.store p k c 0).reply ≡ verdict
      go true e = ap (λ r. ingest_number r.reply) (taken e) ∙ report_is_no_refusal ∙ sym (eqb-true _ _ e)
      go false e = ap (λ r. ingest_number r.reply) (refused e)

  refused_ingest_changes_nothing : eqb verdict 0 ≡ false → next size s (ingest any k c) ≡ s
  refused_ingest_changes_nothing e =
      ap after (ingest_of_a_reached_state ∙ refused e)
      ∙ ap (λ (b : Bool). record {
        work = w;
        list = s.list;
        store = s.store;
        page = s.page;
        told = cond b (told_ingest k s.told) s.told;
        given = s.given;
        tally = cond b (changed k c s.tally) s.tally;
      })
      e

  abbrev ingested_state : State
  ingested_state = record {
    work = ingest_work size w s.list s.store p k c;
    list = (ingest_done size w s.list s.store p k c).list;
    store = (ingest_done size w s.list s.store p k c).store;
    page = s.page;
    told = told_ingest k s.told;
    given = s.given;
    tally = changed k c s.tally;
  }

  accepted_ingest_is : eqb verdict 0 ≡ true → next size s (ingest any k c) ≡ ingested_state
  accepted_ingest_is e =
      let d = ingest_done size w s.list s.store p k c in
      let n : eqb (ingest_number d.reply) 0 ≡ true = eq-eqb _ _ report_is_no_refusal in
      ap after (ingest_of_a_reached_state ∙ taken e)
      ∙ ap (λ (b : Bool). record {
        work = d.work;
        list = d.list;
        store = d.store;
        page = s.page;
        told = cond b (told_ingest k s.told) s.told;
        given = s.given;
        tally = cond b (changed k c s.tally) s.tally;
      })
      n

  record Passed : Type 0 where
    turn : is_open w ≡ true
    fitting : change_fits size c ≡ true
    let_in : lets_in w k ≡ true
    below : below_cutoff (cutoff_of w) k ≡ true
    room_list : count_after w p k c + length (rest_after w p k) ≤ length s.list
    room_store : bytes_after w p k c + total (rest_after w p k) ≤ length s.store

  passes : eqb verdict 0 ≡ true → Passed
  unfolding ingest_verdict
  passes e =
      let a₀ = first_passed 0 _ (eqb-true _ _ e) in
      let a₁ = passed 8 (is_open w) _ a₀.1 in
      let a₂ = passed 11 (change_fits size c) _ a₁.1 in
      let a₃ = passed 12 (lets_in w k) _ a₂.1 in
      let a₄ = passed 13 (below_cutoff (cutoff_of w) k) _ a₃.1 in
      let a₅ = passed 14 _ _ a₄.1 in
      let a₆ = passed 15 _ _ a₅.1 in
      record { turn = a₁.0; fitting = a₂.0; let_in = a₃.0; below = a₄.0; room_list = leb-true _ _ a₅.0; room_store = leb-true _ _ a₆.0 }

  accepted : answered size s (ingest any k c) ≡ 0 → eqb verdict 0 ≡ true
  accepted e = eq-eqb _ _ (sym ingest_answers_its_verdict ∙ e)

  pub accepted_ingest_replies : answered size s (ingest any k c) ≡ 0
      → (ingest_of size w s.list s.store (lent s any) k c).reply ≡ report_of size w s.list s.store p k c
  accepted_ingest_replies e = ap (λ (r : Ingested). r.reply) (ingest_of_a_reached_state ∙ taken (accepted e))

  pub accepted_ingest_is_let_in : answered size s (ingest any k c) ≡ 0 → lets_in w k ≡ true
  accepted_ingest_is_let_in e = (passes (accepted e)).let_in

  allows : length k ≡ 32 → Passed → allowed size (sees_work w s.list s.store p) (Ingest k c) ≡ true
  allows long a = rw (open_turn w a.turn) (and_both a.let_in (and_both a.below (and_both a.fitting (eq-eqb (length k) 32 long))))

  rest_rises : Rising (rest_of w s.store p)
  rest_rises = rising_right (listed_of w s.list s.store p) (rest_of w s.store p) (pending_rises size s h)

  reaches : length k ≡ 32 → Passed → Reached size ingested_state
  reaches long a =
      record {
        canonical = record {
          ops = h.canonical.ops ++ new size w s.list s.store p k c h.canonical.ops h.canonical.laid;
          laid = laid_after_ingest size w s.list s.store p k c h.canonical.ops h.canonical.laid;
          kept = kept_after_ingest size w s.list s.store p k c h.canonical.ops h.canonical.laid s.page h.canonical.kept rest_rises long a.below a.room_list a.room_store;
          invariant = rw (model_sees_the_ingest size w s.list s.store p k c h.canonical.ops h.canonical.laid (open_turn w a.turn))
              (ingest_keeps_the_invariant size (sees_work w s.list s.store p) (leaves_of size s.given) s.tally h.canonical.invariant k c (allows long a));
        };
        told = ap (told_ingest k) h.told;
      }

  pub ingest_reaches_a_state : length k ≡ 32 → Reached size (next size s (ingest any k c))
  ingest_reaches_a_state long = go (eqb verdict 0) refl
    where
      go : (b : Bool) → eqb verdict 0 ≡ b → Reached size (next size s (ingest any k c))
      go true e = equal_states_are_reached size ingested_state _ (accepted_ingest_is e) (reaches long (passes e))
      go false e = equal_states_are_reached size s _ (refused_ingest_changes_nothing e) h

  pub ingest_keeps_the_lengths : length k ≡ 32
      → (length (next size s (ingest any k c)).list ≡ length s.list) × (length (next size s (ingest any k c)).store ≡ length s.store)
  ingest_keeps_the_lengths long = go (eqb verdict 0) refl
    where
      go : (b : Bool) → eqb verdict 0 ≡ b
          → (length (next size s (ingest any k c)).list ≡ length s.list) × (length (next size s (ingest any k c)).store ≡ length s.store)
      go true e =
          let n = accepted_ingest_is e in
          let a = passes e in (
            ap (λ (t : State). length t.list) n
                ∙ list_is_as_long size w s.list s.store p k c h.canonical.ops h.canonical.laid s.page h.canonical.kept rest_rises long a.below a.room_list a.room_store,
            ap (λ (t : State). length t.store) n
                ∙ store_is_as_long size w s.list s.store p k c h.canonical.ops h.canonical.laid s.page h.canonical.kept rest_rises long a.below a.room_list a.room_store,
          )
      go false e = let n = refused_ingest_changes_nothing e in (ap (λ (t : State). length t.list) n, ap (λ (t : State). length t.store) n)
