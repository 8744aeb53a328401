-- A digest of what earns no refusal: what its parts require, and that they make the outcome. Assumes nothing.
use mathlib.Core.Path.{◌≡◌, sym, ◌∙◌}
use mathlib.Core.Logic.{inl, inr}
use mathlib.Core.List.{List}
use Prim.Native.Nat.{ℕ, ◌+◌, ◌≤◌, ◌<◌}
use native.Mathlib.Omega.{arith}
use native.Mathlib.Decide.{dec_lt}
use lib.ListN.{length}
use borrow.Author.Tests.{eq-eqb, ne_eqb}
use Rattle.leaf_work.specs.declared.Work.{Work}
use Rattle.leaf_work.specs.declared.Entry.{Entry}
use Rattle.leaf_work.specs.Digest.{DigestReply, Finished, Merge}
use Rattle.leaf_give.specs.declared.Progress.{Progress}
use Rattle.leaf_give.specs.Giving.{pending, GivenOut}
use Rattle.leaf_merge.specs.Keeping.{RoomToKeep, KeptAs}
use Rattle.leaf_digest.specs.Steps.{digest_work_by, Digests, Leaves}
use Rattle.leaf_digest.proofs.Digesting.{nothing_left_is_done, what_is_left_waits_for_a_merge}
use Rattle.digest_keep.specs.Lifting.{room_by}
use Rattle.digest.specs.Steps.{reply_by, Ready, outcome_of}

-- ---- the reply, by how many records are left

pub nothing_is_left : (w : Work) (p : Progress) → p.left.count ≡ 0 → Finished p.leaves ≡ reply_by w p
unfolding reply_by
nothing_is_left w p z = rw (eq-eqb p.left.count 0 z)

pub something_is_left : (w : Work) (p : Progress) → (p.left.count ≡ 0 → ⊥) → Merge p.leaves w.cutoff ≡ reply_by w p
unfolding reply_by
something_is_left w p h = rw (ne_eqb p.left.count 0 h)

-- ---- list, store, area and tickets

module _ (size : ℕ) (w : Work) (list : List Entry) (store page area tickets : List ℕ) (req : Ready size w list store page area tickets) where
  d : Digests size w list store page area tickets
  d = req.digests

  module _ (p : Progress) (area' tickets' : List ℕ) (g : GivenOut size w list store page area tickets p area' tickets') where
    abbrev room : ℕ
    room = room_by w.used p.left.count (length list)

    bounds : (room ≤ length list) × (room ≤ w.used + p.left.count) × (room < length list → room ≡ w.used + p.left.count)
    bounds = (omega arith, omega arith, λ h. omega (arith, h))

    used_room : w.used ≤ room
    used_room = omega (arith, d.gives.ready.used_in)

    enough : RoomToKeep room (length (pending size w list store page)) w.used p.left.count
    enough = elim (dec_lt room (length list)) [
      | yes h ↦ inr (omega (arith, bounds.2 h))
      | no h ↦ elim d.room [ inl a ↦ inl (omega (arith, h, a)) | inr a ↦ inr (omega (arith, h, a, g.count_is)) ]
    ]

    module _ (list' : List Entry) (store' : List ℕ) (k : KeptAs w list store page p.at list' store') (reply : DigestReply) (r : reply ≡ reply_by w p) (next : Work) (e : next ≡ digest_work_by w p.left p.separator) where
      pub the_outcome_is_made : Leaves (outcome_of size w list store page area tickets) reply next list' store' area' tickets'
      the_outcome_is_made = elim (dec_lt 0 p.left.count) [
        | yes h ↦
            let n : p.left.count ≡ 0 → ⊥ = λ z. absurd (omega (arith, h, z)) in
            rw (r ∙ sym (something_is_left w p n)) (what_is_left_waits_for_a_merge size w list store page area tickets d p area' tickets' g list' store' k next e n)
        | no h ↦
            let z : p.left.count ≡ 0 = omega (arith, h) in
            rw (r ∙ sym (nothing_is_left w p z)) (nothing_left_is_done size w list store page area tickets d p area' tickets' g list' store' k next e z)
      ]
