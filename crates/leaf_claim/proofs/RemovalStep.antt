-- Cutoff removal, from a reached state, reaches a state. Assumes nothing.
use mathlib.Core.Path.{◌≡◌, refl, sym, ap, ◌∙◌}
use mathlib.Core.Bool.{Bool, true, false, not, false≢true, cond}
use mathlib.Core.Option.{none}
use mathlib.Core.List.{List, [], ◌++◌, append-nil}
use Prim.Native.Nat.{ℕ, ◌-◌, ◌≤◌}
use native.Mathlib.Omega.{arith}
use lib.Dec.{eqb}
use lib.ListN.{length}
use borrow.Author.Tests.{eqb-true}
use Rattle.leaf_node.specs.Page.{count, run, record_at, records_between}
use Rattle.leaf_node.specs.Fits.{nil}
use Rattle.leaf_model.specs.Work.{Open, without_cutoff}
use Rattle.leaf_model.specs.Work as model
use Rattle.leaf_model.proofs.Bases.{cutoff_removal_keeps_the_invariant}
use Rattle.leaf_work.specs.declared.Work.{Work}
use Rattle.leaf_work.specs.Lent.{room_right, is_open, is_waiting, override_of, last_of, regarded}
use Rattle.leaf_work.specs.Pending.{rest_of, pending_of}
use Rattle.leaf_work.specs.Sound.{sound}
use Rattle.leaf_work.specs.Verdict.{remove_verdict}
use Rattle.leaf_work.specs.Outcome.{Refused, Accepted, reply_number, Changed, remove_work, remove_cutoff_of}
use Rattle.leaf_work.proofs.Tests.{passed}
use Rattle.leaf_work.proofs.Operations.{records_of_ops, no_chunks}
use Rattle.leaf_work.proofs.Laid.{Laid, waiting_turn, waiting_is_not_open, ignored, an_ignored_page_has_no_records, rest_is, pending_is, sees_work}
use Rattle.leaf_claim.specs.Told.{told_removal}
use Rattle.leaf_claim.specs.Sequence.{State, remove_cutoff, answered, next, leaves_of}
use Rattle.leaf_claim.proofs.Agreeing.{removal_is_told}
use Rattle.leaf_claim.proofs.Reached.{Reached, equal_states_are_reached}
use Rattle.leaf_claim.proofs.NextBaseStep.{refused_change, accepted_change, SameListed, laid_with_another_base, listed_with_another_base}

module _ (size : ℕ) (s : State) (h : Reached size s) where
  abbrev w : Work
  w = s.work

  abbrev p : List ℕ
  p = regarded w s.page

  abbrev w' : Work
  w' = remove_work w

  abbrev verdict : ℕ
  verdict = remove_verdict size w s.list s.store

  abbrev moved : Work → Bool → State
  moved x b = record { work = x; list = s.list; store = s.store; page = s.page; told = cond b (told_removal s.told) s.told; given = s.given; tally = s.tally }

  abbrev after : Changed → State
  after r = moved r.work (eqb (reply_number r.reply) 0)

  refused : eqb verdict 0 ≡ false → remove_cutoff_of size w s.list s.store ≡ record { reply = Refused verdict; work = w }
  unfolding remove_cutoff_of
  refused e = refused_change verdict w w' e

  taken : eqb verdict 0 ≡ true → remove_cutoff_of size w s.list s.store ≡ record { reply = Accepted; work = w' }
  unfolding remove_cutoff_of
  taken e = accepted_change verdict w w' e

  pub removal_answers_its_verdict : answered size s remove_cutoff ≡ verdict
  removal_answers_its_verdict = go (eqb verdict 0) refl
    where
      go : (b : Bool) → eqb verdict 0 ≡ b → answered size s remove_cutoff ≡ verdict
      go true e = ap (λ (r : Changed). reply_number r.reply) (taken e) ∙ sym (eqb-true _ _ e)
      go false e = ap (λ (r : Changed). reply_number r.reply) (refused e)

  abbrev open_state : State
  open_state = moved w' true

  waits : eqb verdict 0 ≡ true → is_waiting w ≡ true
  unfolding remove_verdict
  waits e =
      let a₁ = passed 6 (room_right size (length s.list) (length s.store)) _ (eqb-true _ _ e) in
      let a₂ = passed 8 (not (is_open w)) _ a₁.1 in
      let a₃ = passed 7 (sound size w s.list s.store []) _ a₂.1 in
      (passed 8 (is_waiting w) 0 a₃.1).0

  module _ (a : is_waiting w ≡ true) where
    none_now : p ≡ []
    none_now = ignored w s.page (waiting_is_not_open w a)

    same : SameListed w w'
    same = record { used = refl; filled = refl; count = refl; bytes = refl; over = refl; low = refl }

    laid_open : Laid w' s.list s.store [] h.canonical.ops
    laid_open = laid_with_another_base w w' s.list s.store p h.canonical.ops [] h.canonical.laid none_now same

    abbrev v : model.Work
    v = sees_work w s.list s.store p

    rest_none : rest_of w' s.store [] ≡ []
    unfolding records_between run
    rest_none = rest_is w' s.list s.store [] h.canonical.ops laid_open ∙ rw an_ignored_page_has_no_records

    pending_open : pending_of w' s.list s.store [] ≡ records_of_ops [] h.canonical.ops
    unfolding records_between run
    pending_open = pending_is w' s.list s.store [] h.canonical.ops laid_open ∙ rw an_ignored_page_has_no_records (append-nil (records_of_ops [] h.canonical.ops))

    pending_was : pending_of w s.list s.store p ≡ records_of_ops [] h.canonical.ops
    unfolding records_between run
    pending_was =
        let n : w.low ≤ 0 = (let z : count p ≡ 0 = ap count none_now ∙ an_ignored_page_has_no_records in omega (arith, h.canonical.laid.low_in)) in
        pending_is w s.list s.store p h.canonical.ops h.canonical.laid ∙ rw (no_chunks p [] h.canonical.laid.chunks n, none_now, an_ignored_page_has_no_records) (emptied n)
      where
        emptied : w.low ≤ 0 → records_of_ops [] h.canonical.ops ++ run (0 - w.low) w.low (record_at []) ≡ records_of_ops [] h.canonical.ops
        emptied n = let z : 0 - w.low ≡ 0 = omega arith in rw z (append-nil (records_of_ops [] h.canonical.ops))

    removal_seen : sees_work w' s.list s.store [] ≡ without_cutoff v
    removal_seen = λ j. record {
      turn = Open;
      listed = listed_with_another_base w w' s.list s.store p h.canonical.ops [] h.canonical.laid none_now same j;
      rest = rest_none j;
      override = override_of w;
      latest = w.latest;
      cutoff = none;
      floor = w.floor;
      last = last_of w;
    }

    reaches : Reached size open_state
    reaches =
        record {
          canonical = record {
            ops = h.canonical.ops;
            laid = laid_open;
            kept = record {
              right_room = h.canonical.kept.right_room;
              room_list = rw (pending_open, ← pending_was) h.canonical.kept.room_list;
              room_store = rw (pending_open, ← pending_was) h.canonical.kept.room_store;
              base_right = λ e. absurd (false≢true e);
              rest_above_lem = rw rest_none nil;
              last_below_lem = λ e. refl;
              cut_based = λ e. absurd (false≢true e);
              base_floor = λ e. absurd (false≢true e);
              no_cut = λ e. refl;
              no_over = h.canonical.kept.no_over;
              no_last = h.canonical.kept.no_last;
              known_turn_lem = refl;
              flags = record { mode = h.canonical.kept.flags.mode; based = omega arith; cut = omega arith; over = h.canonical.kept.flags.over; taken = h.canonical.kept.flags.taken };
              keyed = record {
                latest = h.canonical.kept.keyed.latest;
                cutoff = refl;
                overriding = h.canonical.kept.keyed.overriding;
                floor = h.canonical.kept.keyed.floor;
                last = h.canonical.kept.keyed.last;
              };
            };
            invariant = rw removal_seen (cutoff_removal_keeps_the_invariant size v (leaves_of size s.given) s.tally h.canonical.invariant (rw (waiting_turn w a)));
          };
          told = ap told_removal h.told ∙ removal_is_told w;
        }

  pub removal_reaches_a_state : Reached size (next size s remove_cutoff)
  removal_reaches_a_state = go (eqb verdict 0) refl
    where
      go : (b : Bool) → eqb verdict 0 ≡ b → Reached size (next size s remove_cutoff)
      go true e = equal_states_are_reached size open_state _ (ap after (taken e)) (reaches (waits e))
      go false e = equal_states_are_reached size s _ (ap after (refused e) ∙ ap (moved w) e) h
