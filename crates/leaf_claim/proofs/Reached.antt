-- What holds of each state that a sequence reaches; what such a state hands on earns none of Nos. 1 to 8. Assumes nothing.
use mathlib.Core.Path.{◌≡◌, refl, ap, ◌∙◌}
use mathlib.Core.Bool.{Bool, true, false, cond}
use mathlib.Core.List.{List, [], ◌++◌}
use Prim.Native.Nat.{ℕ}
use lib.ListN.{length}
use borrow.Author.Tests.{eqb-true}
use Rattle.leaf_node.specs.Fits.{All, Keyed, Rising}
use Rattle.leaf_model.specs.Work.{or_else}
use Rattle.leaf_model.specs.Claim.{records_of}
use Rattle.leaf_model.proofs.Lists.{all_right_lem, all_map}
use Rattle.leaf_model.proofs.Keys.{rising_right}
use Rattle.leaf_work.specs.declared.Work.{Work}
use Rattle.leaf_work.specs.Tests.{is_set, key_if}
use Rattle.leaf_work.specs.Lent.{cutoff_of, separator_of, reads_base, regarded}
use Rattle.leaf_work.specs.Pending.{listed_of, rest_of}
use Rattle.leaf_work.specs.Verdict.{keys_verdict, lent_verdict}
use Rattle.leaf_work.proofs.Tests.{key_is_there}
use Rattle.leaf_work.proofs.Canonical.{Canonical, canonical_work_earns_no_refusal}
use Rattle.leaf_claim.specs.Told.{reads_page}
use Rattle.leaf_claim.specs.Sequence.{State, lent, leaves_of}
use Rattle.leaf_claim.proofs.Leaves.{Long}
use Rattle.leaf_claim.proofs.Agreeing.{told_of, page_read_as_told}

pub record Reached (size : ℕ) (s : State) : Type 0 where
  pub canonical : Canonical size s.work s.list s.store s.page (leaves_of size s.given) s.tally
  pub told : s.told ≡ told_of s.work

pub equal_states_are_reached : (size : ℕ) (s s' : State) → s' ≡ s → Reached size s → Reached size s'
equal_states_are_reached size s s' e h = rw e h

module _ (size : ℕ) (s : State) (h : Reached size s) where
  abbrev w : Work
  w = s.work

  -- the page is lent where the work reads it
  pub lent_is : (any : List ℕ) → lent s any ≡ cond (reads_base w) s.page any
  lent_is any = ap (λ (b : Bool). cond b s.page any) (ap reads_page h.told ∙ page_read_as_told w h.canonical.kept.known_turn_lem)

  pub regarded_lent : (any : List ℕ) → regarded w (lent s any) ≡ regarded w s.page
  regarded_lent any = ap (regarded w) (lent_is any) ∙ go (reads_base w)
    where
      go : (b : Bool) → cond b (cond b s.page any) [] ≡ cond b s.page []
      go true = refl
      go false = refl

  page_lent_lem : (b : Bool) (any : List ℕ) → cond b (keys_verdict size (cond b s.page any) w.latest (cutoff_of w)) 0 ≡ cond b (keys_verdict size s.page w.latest (cutoff_of w)) 0
  page_lent_lem true any = refl
  page_lent_lem false any = refl

  pub reached_state_earns_no_refusal : (any : List ℕ) → lent_verdict size w s.list s.store (lent s any) ≡ 0
  unfolding lent_verdict
  reached_state_earns_no_refusal any =
      rw (lent_is any, page_lent_lem (reads_base w) any, ← lent_is any, regarded_lent any)
      (canonical_work_earns_no_refusal size w s.list s.store s.page (leaves_of size s.given) s.tally h.canonical)

  -- the pending records
  pub pending_rises : Rising (listed_of w s.list s.store (regarded w s.page) ++ rest_of w s.store (regarded w s.page))
  pending_rises = rising_right (records_of (leaves_of size s.given)) _ (rw h.canonical.invariant.tally h.canonical.invariant.rising)

  pub pending_keys_have_32_bytes : All Keyed (listed_of w s.list s.store (regarded w s.page) ++ rest_of w s.store (regarded w s.page))
  pending_keys_have_32_bytes =
      all_map (λ r e. eqb-true (length r.key) 32 e) (all_right_lem (records_of (leaves_of size s.given)) _ (rw h.canonical.invariant.tally h.canonical.invariant.key_lengths))

  pub separator_has_32_bytes : length (separator_of w) ≡ 32
  separator_has_32_bytes = go (is_set w.over) w.overriding w.latest h.canonical.kept.keyed.overriding h.canonical.kept.keyed.latest
    where
      go : (b : Bool) (o l : List ℕ) → length o ≡ 32 → length l ≡ 32 → length (or_else (key_if b o) l) ≡ 32
      go true o l p q = p
      go false o l p q = q

  pub cutoff_has_32_bytes : Long (cutoff_of w)
  cutoff_has_32_bytes k e = rw (← (key_is_there (is_set w.cut) w.cutoff k e).1) h.canonical.kept.keyed.cutoff
