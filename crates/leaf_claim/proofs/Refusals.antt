-- From a reached state calls are accepted and refused as the table says. Assumes nothing.
use mathlib.Core.Path.{◌≡◌, refl, sym, ap, ◌∙◌}
use mathlib.Core.Bool.{Bool, true, false, not}
use mathlib.Core.Option.{Option}
use mathlib.Core.List.{List, [], ◌++◌, append-nil}
use Prim.Native.Nat.{ℕ, ◌+◌, ◌-◌}
use native.Mathlib.Omega.{arith}
use lib.ListN.{length, length-append}
use borrow.Author.Tests.{not-true}
use Rattle.leaf_node.specs.Limits.{PageSize}
use Rattle.leaf_node.specs.Record.{Record, total}
use Rattle.leaf_node.specs.Page.{count, run, records_between, records}
use Rattle.leaf_node.specs.Fits.{All}
use Rattle.leaf_model.specs.Work.{Turn, Open, Waiting, Done, Change, inserted, below_cutoff, change_fits, records_below, records_above}
use Rattle.leaf_model.proofs.Lists.{all_map}
use Rattle.leaf_model.proofs.Ingesting.{Low, tally_changes_as_the_work_does}
use Rattle.leaf_model.specs.Tally.{changed}
use Rattle.leaf_work.specs.declared.Work.{Work}
use Rattle.leaf_work.specs.Tests.{is_set, key_if}
use Rattle.leaf_work.specs.Lent.{turn_number, is_open, is_waiting, cutoff_of, regarded}
use Rattle.leaf_work.specs.Pending.{listed_of, rest_of, pending_of}
use Rattle.leaf_work.specs.Sound.{lets_in, sound}
use Rattle.leaf_work.specs.TakingUp.{count_after, bytes_after, rest_after}
use Rattle.leaf_work.specs.Verdict.{unless, first, base_verdict, ingest_verdict, digest_verdict, next_base_verdict, remove_verdict}
use Rattle.leaf_work.proofs.Operations.{records_of_ops, total_append}
use Rattle.leaf_work.proofs.Laid.{turn_of, ignored, an_ignored_page_has_no_records, listed_is, rest_is, pending_is, pending_parts, sees_work}
use Rattle.leaf_work.proofs.Soundness.{listed_keys_are_past}
use Rattle.leaf_work.proofs.Canonical.{canonical_work_is_sound}
use Rattle.leaf_claim.specs.Sequence.{State, Call, ingest, digest, next_base, remove_cutoff, answered, leaves_of}
use Rattle.leaf_claim.specs.Told.{Told}
use Rattle.leaf_claim.specs.Claim.{table_says}
use Rattle.leaf_claim.proofs.Agreeing.{told_of, open_as_told, waiting_as_told, closed_as_told, cutoff_as_told}
use Rattle.leaf_claim.proofs.Ingesting.{count_after_ingest, bytes_after_ingest}
use Rattle.leaf_claim.proofs.Reached.{Reached, pending_rises}
use Rattle.leaf_claim.proofs.IngestStep.{ingest_answers_its_verdict}
use Rattle.leaf_claim.proofs.DigestStep.{digest_answers_its_verdict}
use Rattle.leaf_claim.proofs.NextBaseStep.{next_base_answers_its_verdict}
use Rattle.leaf_claim.proofs.RemovalStep.{removal_answers_its_verdict}

-- a row, and later rows that are the same where its test holds
row : (n : ℕ) (b : Bool) (v v' : ℕ) → (b ≡ true → v ≡ v') → unless n b v ≡ unless n b v'
row n true v v' f = f refl
row n false v v' f = refl

module _ (size : ℕ) (s : State) (h : Reached size s) where
  abbrev w : Work
  w = s.work

  abbrev p : List ℕ
  p = regarded w s.page

  abbrev pending : List Record
  pending = pending_of w s.list s.store p

  -- what the table says by what is told
  abbrev says : Told → Call → ℕ
  says t = table_says size t pending (length s.list) (length s.store)

  known : w.turn ≡ turn_number (turn_of w.turn)
  known = h.canonical.kept.known_turn_lem

  -- ---- ingest

  module _ (any k : List ℕ) (c : Option Change) where
    changed_is : lets_in w k ≡ true
        → changed k c pending
        ≡ records_of_ops p h.canonical.ops
        ++ ((records_below k (records_between p w.low (count p)) ++ inserted k c) ++ records_above k (records_between p w.low (count p)))
    changed_is a =
        let low : All (Low k) (listed_of w s.list s.store p) =
        all_map (λ r f. f k a) (listed_keys_are_past size (sees_work w s.list s.store p) (leaves_of size s.given) s.tally h.canonical.invariant) in
        ap (changed k c) (pending_parts w s.list s.store p)
        ∙ tally_changes_as_the_work_does k (listed_of w s.list s.store p) (rest_of w s.store p) c low (pending_rises size s h)
        ∙ rw (listed_is w s.list s.store p h.canonical.ops h.canonical.laid, rest_is w s.list s.store p h.canonical.ops h.canonical.laid)

    ingest_as_the_table_says : answered size s (ingest any k c) ≡ says (told_of w) (ingest any k c)
    unfolding ingest_verdict
    ingest_as_the_table_says =
        ingest_answers_its_verdict size s h any k c
        ∙ rw (open_as_told w known)
        (row 9 (is_open w) _ _ (λ o. row 12 (change_fits size c) _ _ (λ l. row 13 (lets_in w k) _ _ (λ a. row 14 (below_cutoff (cutoff_of w) k) _ _ (λ u.
        let d = changed_is a in
        let n : count_after w p k c + length (rest_after w p k) ≡ length (changed k c pending) =
        count_after_ingest size w s.list s.store p k c h.canonical.ops h.canonical.laid ∙ ap length (sym d) in
        let m : bytes_after w p k c + total (rest_after w p k) ≡ total (changed k c pending) =
        bytes_after_ingest size w s.list s.store p k c h.canonical.ops h.canonical.laid ∙ ap total (sym d) in
        rw (n, m))))))

  -- ---- digest

  digest_as_the_table_says : PageSize size → (any area tickets : List ℕ) → answered size s (digest any area tickets) ≡ says (told_of w) (digest any area tickets)
  unfolding digest_verdict
  digest_as_the_table_says q any area tickets = digest_answers_its_verdict size q s h any area tickets ∙ rw (open_as_told w known)

  -- ---- next base, cutoff removal

  sound_closed : is_open w ≡ false → sound size w s.list s.store [] ≡ true
  sound_closed e = rw (ignored w s.page e) at (canonical_work_is_sound size w s.list s.store s.page (leaves_of size s.given) s.tally h.canonical)

  pending_closed : is_open w ≡ false → pending ≡ records_of_ops p h.canonical.ops
  unfolding records_between run
  pending_closed e =
      let z : count p - w.low ≡ 0 = (let y : count p ≡ 0 = ap count (ignored w s.page e) ∙ an_ignored_page_has_no_records in omega arith) in
      pending_is w s.list s.store p h.canonical.ops h.canonical.laid ∙ rw z (append-nil (records_of_ops p h.canonical.ops))

  next_base_as_the_table_says : PageSize size → (page sep : List ℕ) (cut : Bool) (key : List ℕ)
      → answered size s (next_base page sep cut key) ≡ says (told_of w) (next_base page sep cut key)
  unfolding next_base_verdict
  next_base_as_the_table_says q page sep cut key =
      next_base_answers_its_verdict size q s h page sep cut key
      ∙ ap (first (base_verdict size page sep (key_if cut key)))
      (rw (h.canonical.kept.right_room, closed_as_told w known, cutoff_as_told (is_set w.cut) w.cutoff) (row 9 (not (is_open w)) _ _ (λ o.
      let e = not-true (is_open w) o in
      let l = h.canonical.laid in
      let n : w.count + length (records page) ≡ length (pending ++ records page) =
      rw (pending_closed e) (omega (arith, l.count_is, length-append (records_of_ops p h.canonical.ops) (records page))) in
      let m : w.bytes + total (records page) ≡ total (pending ++ records page) =
      rw (pending_closed e) (omega (arith, l.bytes_is, total_append (records_of_ops p h.canonical.ops) (records page))) in
      rw (sound_closed e, n, m) (row 9 (is_set w.cut) _ _ (λ c. rw c)))))

  removal_as_the_table_says : answered size s remove_cutoff ≡ says (told_of w) remove_cutoff
  unfolding remove_verdict
  removal_as_the_table_says = removal_answers_its_verdict size s h ∙ rw (h.canonical.kept.right_room, waiting_as_told w known) (go (turn_of w.turn) h.canonical.kept.known_turn_lem)
    where
      go : (t : Turn) → w.turn ≡ turn_number t
          → unless 9 (not (is_open w)) (unless 8 (sound size w s.list s.store []) (unless 9 (is_waiting w) 0)) ≡ unless 9 (is_waiting w) 0
      go Open e = rw e
      go Waiting e = rw (sound_closed (rw e), e)
      go Done e = rw (sound_closed (rw e), e)

  by_the_record : PageSize size → (x : Call) → answered size s x ≡ says (told_of w) x
  by_the_record q (ingest any k c) = ingest_as_the_table_says any k c
  by_the_record q (digest any area tickets) = digest_as_the_table_says q any area tickets
  by_the_record q (next_base page sep cut key) = next_base_as_the_table_says q page sep cut key
  by_the_record q remove_cutoff = removal_as_the_table_says

  pub calls_are_refused_as_the_table_says : PageSize size → (x : Call) → answered size s x ≡ says s.told x
  calls_are_refused_as_the_table_says q x = by_the_record q x ∙ ap (λ (t : Told). says t x) (sym h.told)
