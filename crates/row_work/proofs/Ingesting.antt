-- An ingest into a loaded leaf: room alone can refuse it, and what it leaves is loaded again, its change made. Assumes nothing.
use mathlib.Core.Path.{◌≡◌, refl, sym, ap, subst, ◌∙◌}
use mathlib.Core.Bool.{Bool, true, false, not, cond}
use mathlib.Core.Option.{Option, none, some}
use mathlib.Core.List.{List, ◌∷◌}
use Prim.Native.Nat.{ℕ, ◌≤◌}
use lib.Dec.{eqb}
use lib.ListN.{length}
use borrow.Author.Tests.{eq-eqb, eqb-false, le-leb}
use Rattle.bit_ops.specs.Key.{lt_key}
use Rattle.leaf_node.specs.Limits.{PageSize, value_limit}
use Rattle.leaf_node.specs.Record.{Record}
use Rattle.leaf_node.specs.Fits.{All, nil, cons}
use Rattle.leaf_model.specs.Work.{Change, change_fits, above_last}
use Rattle.leaf_model.specs.Tally.{changed}
use Rattle.leaf_model.specs.Claim.{Lt}
use Rattle.leaf_model.proofs.Tests.{and_left}
use Rattle.leaf_model.proofs.Lists.{all_head, all_tail}
use Rattle.leaf_model.proofs.Keys.{test_of_lt}
use Rattle.leaf_work.specs.declared.Work.{Work}
use Rattle.leaf_work.specs.declared.Entry.{Entry}
use Rattle.leaf_work.specs.Lent.{is_open, cutoff_of, last_of, separator_of, regarded}
use Rattle.leaf_work.specs.Pending.{pending_of}
use Rattle.leaf_work.specs.Sound.{lets_in}
use Rattle.leaf_work.specs.Verdict.{ingest_verdict}
use Rattle.leaf_work.specs.Outcome.{ingest_number, Ingested, IngestRefused, ingest_done, ingest_on, ingest_of}
use Rattle.leaf_work.proofs.Tests.{and_both}
use Rattle.leaf_work.proofs.Laid.{pending_parts}
use Rattle.leaf_claim.specs.Sequence.{State, ingest, lent, next}
use Rattle.leaf_claim.specs.Claim.{table_says}
use Rattle.leaf_claim.proofs.Agreeing.{told_of, open_as_told}
use Rattle.leaf_claim.proofs.Reached.{Reached}
use Rattle.leaf_claim.proofs.IngestStep.{ingest_of_a_reached_state, ingest_reaches_a_state, ingest_keeps_the_lengths}
use Rattle.leaf_claim.proofs.Refusals.{calls_are_refused_as_the_table_says}
use Rattle.row_turns.specs.Changes.{Edit, RisingEdits, edits∷}
use Rattle.row_turns.specs.Turns.{room_verdict}
use Rattle.row_work.specs.Loaded.{Holding, Loaded, Stays}
use Rattle.row_work.proofs.Holds.{state, the_work_is_reached, a_reached_work_holds}

rising_head : {e : Edit} {es : List Edit} → RisingEdits (e ∷ es) → All (λ x. Lt e.key x.key) es
rising_head (edits∷ a r) = a

rising_tail : {e : Edit} {es : List Edit} → RisingEdits (e ∷ es) → RisingEdits es
rising_tail (edits∷ a r) = r

fits : (size : ℕ) (c : Option Change) → ((d : Change) → c ≡ some d → length d.value ≤ value_limit size) → change_fits size c ≡ true
fits size none f = refl
fits size (some d) f = le-leb (length d.value) (value_limit size) (f d refl)

module _ (size : ℕ) (q : PageSize size) (w : Work) (list : List Entry) (store page : List ℕ) (e : Edit) (es : List Edit) (h : Loaded size w list store page (e ∷ es)) where
  abbrev k : List ℕ
  k = e.key

  abbrev c : Option Change
  c = e.change

  abbrev P : List Record
  P = pending_of w list store page

  abbrev pub o : Ingested
  o = ingest_on size w list store page k c 0

  abbrev s : State
  s = state size q w list store page h.holds

  reached : Reached size s
  reached = the_work_is_reached size q w list store page h.holds

  ingest_is : ingest_of size w list store (lent s page) k c ≡ o
  ingest_is = ingest_of_a_reached_state size s reached page k c ∙ ap (λ (x : List ℕ). ingest_on size w list store x k c 0) h.whole

  -- Nos. 15 and 16 alone
  pub the_room_decides : ingest_number o.reply ≡ room_verdict (length list) (length store) (changed k c P)
  the_room_decides =
      ap (λ (r : Ingested). ingest_number r.reply) (sym ingest_is)
      ∙ calls_are_refused_as_the_table_says size s reached q (ingest page k c)
      ∙ ap (λ (x : List ℕ). table_says size (told_of w) (pending_of w list store x) (length list) (length store) (ingest page k c)) h.whole
      ∙ rw (open_as_told w reached.canonical.kept.known_turn_lem, h.opened, fits size c (all_head h.edits.fitting), all_head h.lets, all_head h.below)

  pub an_ingest_keeps_the_lengths : (length o.list ≡ length list) × (length o.store ≡ length store)
  an_ingest_keeps_the_lengths =
      let l = ingest_keeps_the_lengths size s reached page k c (all_head h.edits.keyed) in
      (ap (λ (r : Ingested). length r.list) (sym ingest_is) ∙ l.0, ap (λ (r : Ingested). length r.store) (sym ingest_is) ∙ l.1)

  module _ (z : ingest_number o.reply ≡ 0) where
    done : o ≡ ingest_done size w list store page k c
    unfolding ingest_on
    done = go (eqb (ingest_verdict size w list store page k c 0) 0) refl
      where
        go : (b : Bool) → eqb (ingest_verdict size w list store page k c 0) 0 ≡ b → o ≡ ingest_done size w list store page k c
        go true f = rw (f, ingest_on)
        go false f =
            let r : o ≡ record { reply = IngestRefused (ingest_verdict size w list store page k c 0); work = w; list = list; store = store } = rw (f, ingest_on) in
            absurd (eqb-false (ingest_verdict size w list store page k c 0) 0 f (ap (λ (x : Ingested). ingest_number x.reply) (sym r) ∙ z))

    abbrev s' : State
    s' = next size s (ingest page k c)

    reached' : Reached size s'
    reached' = ingest_reaches_a_state size s reached page k c (all_head h.edits.keyed)

    holds' : Holding size o.work o.list o.store page
    holds' = subst (λ (r : Ingested). Holding size r.work r.list r.store page) ingest_is (a_reached_work_holds size s' reached')

    opened' : is_open o.work ≡ true
    opened' = ap (λ (r : Ingested). is_open r.work) done ∙ h.opened

    whole' : regarded o.work page ≡ page
    whole' = ap (λ (r : Ingested). regarded r.work page) done ∙ h.whole

    cutoff' : cutoff_of o.work ≡ cutoff_of w
    cutoff' = ap (λ (r : Ingested). cutoff_of r.work) done

    lets' : (x : Edit) → lets_in w x.key ≡ true → Lt k x.key → lets_in o.work x.key ≡ true
    lets' x l f =
        ap (λ (r : Ingested). lets_in r.work x.key) done
        ∙ and_both (and_left (not (lt_key x.key w.floor)) (above_last (last_of w) x.key) l) (test_of_lt k x.key f)

    pub an_ingest_goes_on : Loaded size o.work o.list o.store page es
    an_ingest_goes_on = record {
      holds = holds';
      opened = opened';
      whole = whole';
      edits = record { rising = rising_tail h.edits.rising; fitting = all_tail h.edits.fitting; keyed = all_tail h.edits.keyed };
      lets = both (all_tail h.lets) (rising_head h.edits.rising);
      below = rw cutoff' (all_tail h.below);
    }
      where
        both : {xs : List Edit} → All (λ x. lets_in w x.key ≡ true) xs → All (λ x. Lt k x.key) xs → All (λ x. lets_in o.work x.key ≡ true) xs
        both nil nil = nil
        both (cons {x} l a) (cons f b) = cons (lets' x l f) (both a b)

    tally' : pending_of s'.work s'.list s'.store (regarded s'.work page) ≡ changed k c P
    tally' =
        pending_parts s'.work s'.list s'.store (regarded s'.work page)
        ∙ reached'.canonical.invariant.tally
        ∙ ap (λ (r : Ingested). cond (eqb (ingest_number r.reply) 0) (changed k c s.tally) s.tally) ingest_is
        ∙ rw (eq-eqb (ingest_number o.reply) 0 z) (ap (changed k c) (sym (pending_parts w list store (regarded w page)) ∙ ap (pending_of w list store) h.whole))

    pub an_ingest_makes_its_change : Stays w o.work o.list o.store page (changed k c P)
    an_ingest_makes_its_change = record {
      separator = ap (λ (r : Ingested). separator_of r.work) done;
      cutoff = cutoff';
      pending_is =
          sym (ap (pending_of o.work o.list o.store) whole')
          ∙ ap (λ (r : Ingested). pending_of r.work r.list r.store (regarded r.work page)) (sym ingest_is)
          ∙ tally';
    }
