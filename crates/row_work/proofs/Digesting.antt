-- A loaded leaf that is digested: list and store are zeros after it, or what is kept waits for the leaf at the cutoff. Assumes nothing.
use mathlib.Core.Path.{◌≡◌, refl, sym, ap, subst, ◌∙◌}
use mathlib.Core.Bool.{Bool, true, false, cond}
use mathlib.Core.Option.{some}
use mathlib.Core.List.{List, [], ◌∷◌, ◌++◌, append-nil}
use Prim.Native.Nat.{ℕ, ◌-◌}
use native.Mathlib.Omega.{arith}
use lib.ListN.{length, replicate, length-replicate}
use borrow.Author.Tests.{eq-eqb}
use Rattle.bit_ops.specs.Steps.{zeros}
use Rattle.leaf_node.specs.Limits.{PageSize}
use Rattle.leaf_node.specs.Record.{Record, total, values}
use Rattle.leaf_node.specs.Page.{run, records_between}
use Rattle.leaf_model.specs.Basics.{nonempty}
use Rattle.leaf_model.specs.Cut.{Cut}
use Rattle.leaf_model.specs.Work.{plan, separator_after}
use Rattle.leaf_model.proofs.Tests.{clash}
use Rattle.leaf_work.specs.declared.Work.{Work}
use Rattle.leaf_work.specs.declared.Entry.{Entry}
use Rattle.leaf_work.specs.Lent.{blank, is_waiting, cutoff_of, override_of, separator_of, reads_base, regarded}
use Rattle.leaf_work.specs.Pending.{pending_of}
use Rattle.leaf_work.specs.Verdict.{has_pages, digest_verdict}
use Rattle.leaf_work.specs.Digest.{Digested, inserts_of, digest_done, digest_of}
use Rattle.leaf_work.proofs.Operations.{puts, puts_records}
use Rattle.leaf_work.proofs.Laid.{an_ignored_page_has_no_records, pending_is}
use Rattle.leaf_claim.specs.Sequence.{State, digest, lent, next}
use Rattle.leaf_claim.proofs.Reached.{Reached, lent_is}
use Rattle.leaf_claim.proofs.Digesting.{laid_after_digest, no_base_is_read_after_a_digest}
use Rattle.leaf_claim.proofs.DigestStep.{accepted_digest_is, digest_reaches_a_state}
use Rattle.row_work.specs.Loaded.{Holding, Loaded, Waits}
use Rattle.row_work.proofs.Holds.{state, the_work_is_reached, a_reached_work_holds_any}

module _ (size : ℕ) (q : PageSize size) (w : Work) (list : List Entry) (store page area tickets : List ℕ) (h : Loaded size w list store page [])
    (room : has_pages size (pending_of w list store page) area tickets ≡ true) where
  abbrev P : List Record
  P = pending_of w list store page

  abbrev pub p : Cut
  p = plan size (cutoff_of w) P

  abbrev pub done : Digested
  done = digest_done size w list store area tickets p

  abbrev s : State
  s = state size q w list store page h.holds

  reached : Reached size s
  reached = the_work_is_reached size q w list store page h.holds

  same_pending : pending_of w list store (regarded w page) ≡ P
  same_pending = ap (pending_of w list store) h.whole

  accepted : digest_verdict size w (pending_of w list store (regarded w page)) area tickets 0 ≡ 0
  unfolding digest_verdict
  accepted = ap (λ (rs : List Record). digest_verdict size w rs area tickets 0) same_pending ∙ rw (h.opened, room)

  digest_is : digest_of size w list store (lent s page) area tickets ≡ done
  digest_is =
      accepted_digest_is size q s reached page area tickets (eq-eqb _ _ accepted)
      ∙ ap (λ (rs : List Record). digest_done size w list store area tickets (plan size (cutoff_of w) rs)) same_pending

  abbrev after : State
  after = next size s (digest page area tickets)

  reached' : Reached size after
  reached' = digest_reaches_a_state size q s reached page area tickets

  unread : reads_base after.work ≡ false
  unread = ap (λ (r : Digested). reads_base r.work) digest_is ∙ no_base_is_read_after_a_digest size w list store area tickets p

  nothing_is_lent : lent after [] ≡ []
  nothing_is_lent = lent_is size after reached' [] ∙ ap (λ (b : Bool). cond b after.page []) unread

  holds : Holding size done.work done.list done.store []
  holds =
      subst (λ (r : Digested). Holding size r.work r.list r.store []) digest_is
      (subst (Holding size after.work after.list after.store) nothing_is_lent (a_reached_work_holds_any size after reached' []))

  pending_kept : pending_of done.work done.list done.store [] ≡ p.left
  unfolding records_between run
  pending_kept =
      pending_is done.work done.list done.store [] (puts p.left) (laid_after_digest size w list store area tickets p)
      ∙ rw (puts_records [] p.left, an_ignored_page_has_no_records) (append-nil p.left)

  waits : nonempty p.left ≡ true → Waits size done.work done.list done.store p.left (separator_after (separator_of w) p.leaves p.left) (cutoff_of w)
  waits n = record { holds = holds; waiting = is_waiting_lem p.left n; override = override_is p.left n; cutoff = refl; pending_is = pending_kept }
    where
      is_waiting_lem : (left : List Record) → nonempty left ≡ true → is_waiting (digest_done size w list store area tickets (record { leaves = p.leaves; left = left })).work ≡ true
      is_waiting_lem [] e = clash e refl
      is_waiting_lem (r ∷ rs) e = refl

      override_is : (left : List Record) → nonempty left ≡ true
          → override_of (digest_done size w list store area tickets (record { leaves = p.leaves; left = left })).work ≡ some (separator_after (separator_of w) p.leaves left)
      override_is [] e = clash e refl
      override_is (r ∷ rs) e = refl

  clear : p.left ≡ [] → (done.list ≡ replicate (length done.list) blank) × (done.store ≡ zeros (length done.store))
  unfolding total values
  clear e =
      let n : length list - 0 ≡ length list = omega arith in
      let m : length store - 0 ≡ length store = omega arith in
      let l : done.list ≡ replicate (length list) blank = ap (λ (left : List Record). inserts_of 0 left ++ replicate (length list - length left) blank) e ∙ ap (λ (x : ℕ). replicate x blank) n in
      let b : done.store ≡ zeros (length store) = ap (λ (left : List Record). values left ++ zeros (length store - total left)) e ∙ ap zeros m in
      (l ∙ ap (λ (n : ℕ). replicate n blank) (sym (ap length l ∙ length-replicate (length list) blank)), b ∙ ap zeros (sym (ap length b ∙ length-replicate {A = ℕ} (length store) 0)))

  -- what it leaves waits for a merge; where it leaves nothing, list and store are zeros
  pub a_digest_rests : (nonempty p.left ≡ true → Waits size done.work done.list done.store p.left (separator_after (separator_of w) p.leaves p.left) (cutoff_of w))
      × (p.left ≡ [] → (done.list ≡ replicate (length done.list) blank) × (done.store ≡ zeros (length done.store)))
  a_digest_rests = (waits, clear)
