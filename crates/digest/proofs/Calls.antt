-- The call: what an accepted digest may rely on, and what a digest leaves, accepted or refused. Assumes nothing.
use mathlib.Core.Path.{◌≡◌, refl, sym, ap, ◌∙◌}
use mathlib.Core.Bool.{true, false}
use mathlib.Core.List.{List}
use Prim.Native.Nat.{ℕ}
use lib.Dec.{eqb}
use lib.ListN.{length, drop, take, replicate, length-drop, take-append-drop}
use borrow.Author.Tests.{eq-eqb, ne_eqb}
use Rattle.refusal.specs.declared.Refusal.{Refusal}
use Rattle.refusal.specs.Numbers.{number}
use Rattle.refusal.proofs.Refused.{refused}
use Rattle.leaf_node.specs.Limits.{PageSize}
use Rattle.leaf_node.specs.Fits.{All}
use Rattle.leaf_model.proofs.Lists.{all_left}
use Rattle.leaf_work.specs.declared.Work.{Work}
use Rattle.leaf_work.specs.declared.Entry.{Entry}
use Rattle.leaf_work.specs.Lent.{blank, regarded}
use Rattle.leaf_work.specs.Pending.{pending_of}
use Rattle.leaf_work.specs.Verdict.{lent_verdict, digest_verdict}
use Rattle.leaf_work.specs.Digest.{DigestReply, DigestRefused, digest_on, digest_of}
use Rattle.leaf_work.proofs.PendingRecords.{EntryKeyed}
use Rattle.leaf_work.proofs.Readiness as readiness
use Rattle.leaf_digest.specs.Steps.{Leaves}
use Rattle.leaf_digest.proofs.Calls.{lent_earns_nothing, an_accepted_work_can_be_digested}
use Rattle.digest.specs.Steps.{Ready, outcome_of}

module _ (size : ℕ) (w : Work) (list : List Entry) (store page area tickets : List ℕ) where
  abbrev number_of : ℕ
  number_of = digest_verdict size w (pending_of w list store (regarded w page)) area tickets (lent_verdict size w list store page)

  -- ---- accepted

  module _ (none : 0 ≡ number_of) (q : PageSize size) (keyed : All (λ e. length e.key ≡ 32) list) (p : List ℕ) (e : p ≡ regarded w page) where
    used_keyed : All EntryKeyed (take w.used list)
    used_keyed = all_left (take w.used list) (drop w.used list) (rw (take-append-drop w.used list) keyed)

    pub an_accepted_work_is_ready : Ready size w list store p area tickets
    an_accepted_work_is_ready = record {
      digests = an_accepted_work_can_be_digested size w list store page area tickets (sym none) q used_keyed p e;
      unused = readiness.blanks size w list store page (lent_earns_nothing size w list store page area tickets (sym none)) ∙ ap (λ (i : ℕ). replicate i blank) (length-drop w.used list);
    }

    taken : outcome_of size w list store p area tickets ≡ digest_of size w list store page area tickets
    unfolding digest_on
    taken = let f : eqb number_of 0 ≡ true = eq-eqb number_of 0 (sym none) in rw (e, digest_on, f)

    pub an_accepted_digest_leaves_its_outcome : (reply : DigestReply) (w' : Work) (list' : List Entry) (store' area' tickets' : List ℕ)
        → Leaves (outcome_of size w list store p area tickets) reply w' list' store' area' tickets' → Leaves (digest_of size w list store page area tickets) reply w' list' store' area' tickets'
    an_accepted_digest_leaves_its_outcome reply w' list' store' area' tickets' h = rw (sym taken) h

  -- ---- refused

  pub a_refused_digest_changes_nothing : (r : Refusal) → number r ≡ number_of → Leaves (digest_of size w list store page area tickets) (DigestRefused (number r)) w list store area tickets
  unfolding digest_on
  a_refused_digest_changes_nothing r e =
      let f : eqb number_of 0 ≡ false = rw (← e) (ne_eqb (number r) 0 (refused r)) in
      rw (f, digest_on, e) (record { reply_is = refl; work_is = refl; list_is = refl; store_is = refl; area_is = refl; tickets_are = refl })
