-- Demand 3 over records: the claim holds of every sequence of calls, refused ones among them, from any accepted opening. Assumes nothing.
use mathlib.Core.Path.{◌≡◌, refl}
use mathlib.Core.Bool.{Bool, true, false, ◌&&◌}
use mathlib.Core.Option.{Option}
use mathlib.Core.List.{List, [], ◌∷◌, append-nil}
use Prim.Native.Nat.{ℕ}
use Rattle.leaf_node.specs.Limits.{PageSize}
use Rattle.leaf_model.specs.Work.{Base, Call, Ingest, Digest, NextBase, RemoveCutoff, allowed}
use Rattle.leaf_model.specs.Tally.{Run, Try, taken, step, steps, opened, good_opening}
use Rattle.leaf_model.specs.Claim.{RecordsClaim}
use Rattle.leaf_model.proofs.Tests.{and_right}
use Rattle.leaf_model.proofs.Lists.{all_map}
use Rattle.leaf_model.proofs.Separators.{linked_leaves_are_right}
use Rattle.leaf_model.proofs.Invariant.{Invariant, ingest_keeps_the_invariant, digest_keeps_the_invariant}
use Rattle.leaf_model.proofs.Bases.{next_base_keeps_the_invariant, cutoff_removal_keeps_the_invariant, opening_has_the_invariant}

module _ (size : ℕ) where
  abbrev pub RunInvariant : Run → Type 0
  RunInvariant s = Invariant size s.work s.leaves s.tally

  pub claim_follows_from_the_invariant : (s : Run) → RunInvariant s → RecordsClaim size s
  claim_follows_from_the_invariant s h =
      record {
        tally = h.tally;
        rising = h.rising;
        bodies = all_map (λ l g. g.0) h.leaves;
        bounds = all_map (λ l g. g.1) h.leaves;
        linked = linked_leaves_are_right _ h.links;
      }

  module _ (p : PageSize size) where
    accepted_call_keeps_the_invariant : (s : Run) (c : Call) → RunInvariant s → allowed size s.work c ≡ true → RunInvariant (taken size s c)
    accepted_call_keeps_the_invariant s (Ingest k c) h ok = rw append-nil (ingest_keeps_the_invariant size s.work s.leaves s.tally h k c ok)
    accepted_call_keeps_the_invariant s Digest h ok = digest_keeps_the_invariant size s.work s.leaves s.tally h p ok
    accepted_call_keeps_the_invariant s (NextBase b) h ok = rw append-nil (next_base_keeps_the_invariant size s.work s.leaves s.tally h b ok)
    accepted_call_keeps_the_invariant s RemoveCutoff h ok = rw append-nil (cutoff_removal_keeps_the_invariant size s.work s.leaves s.tally h ok)

    step_keeps_the_invariant : (s : Run) (c : Try) → RunInvariant s → RunInvariant (step size s c)
    step_keeps_the_invariant s c h = test (c.passes && allowed size s.work c.call) refl
      where
        test : (b : Bool) → (c.passes && allowed size s.work c.call) ≡ b → RunInvariant (step size s c)
        test true e = rw (e, step) (accepted_call_keeps_the_invariant s c.call h (and_right c.passes _ e))
        test false e = rw (e, step) h

    steps_keep_the_invariant : (cs : List Try) (s : Run) → RunInvariant s → RunInvariant (steps size s cs)
    steps_keep_the_invariant [] s h = h
    steps_keep_the_invariant (c ∷ cs) s h = steps_keep_the_invariant cs (step size s c) (step_keeps_the_invariant s c h)

    pub records_claim_holds_of_every_sequence : (o : Option Base) → good_opening size o ≡ true → (cs : List Try) → RecordsClaim size (steps size (opened o) cs)
    records_claim_holds_of_every_sequence o ok cs = claim_follows_from_the_invariant _ (steps_keep_the_invariant cs (opened o) (opening_has_the_invariant size o ok))
