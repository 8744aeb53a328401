-- Document 02, M-100: two sequences that differ in their mode alone, and what an ingest reports where every dropped flagged record is reported.
use Rattle.std.specs.Prelude.{◌≡◌, true, false, List, [], ◌∷◌, map, ℕ, take, drop}
use Rattle.std.proofs.Math.Option.{Option}
use Rattle.bit_ops.specs.Key.{eq_key}
use Rattle.leaf_node.specs.Record.{Record}
use Rattle.leaf_model.specs.Work.{Change}
use Rattle.leaf_work.specs.Lent.{in_mode}
use Rattle.leaf_work.specs.Outcome.{IngestReply, Quiet, Reported, ingest_of, twin_of}
use Rattle.leaf_claim.specs.Sequence.{State, Course, lent}
use Rattle.leaf_claim.specs.Claim.{ByTwins}

-- ---- "Leaves are equal in both modes, shown for both together."

-- the second state is the first one in mode m
pub record InMode (m : ℕ) (s s' : State) : Type 0 where
  pub work : s'.work ≡ in_mode m s.work
  pub list : s'.list ≡ s.list
  pub store : s'.store ≡ s.store
  pub page : s'.page ≡ s.page
  pub told : s'.told ≡ s.told
  pub given : s'.given ≡ s.given
  pub tally : s'.tally ≡ s.tally

-- of whole sequences: the calls were answered by the same numbers and gave the same leaves and tickets, and the twin call answers the same of what
-- they leave
pub record DifferInMode (size m : ℕ) (c c' : Course) : Type 0 where
  pub states : InMode m c.now c'.now
  pub answers : map (λ x. x.answer) c'.past ≡ map (λ x. x.answer) c.past
  pub gave : map (λ x. x.gave) c'.past ≡ map (λ x. x.gave) c.past
  pub twins : (any : List ℕ) (i : ℕ) → twin_of size c'.now.work c'.now.list c'.now.store (lent c'.now any) i
      ≡ twin_of size c.now.work c.now.list c.now.store (lent c.now any) i

-- ---- "every dropped flagged record is reported, whether or not anything was taken up before it, and nothing else is"

-- the pending records that an ingest of k drops: those of that key
abbrev pub dropped : List ℕ → List Record → List Record
dropped k [] = []
dropped k (x ∷ xs) = elim (eq_key k x.key) [ true ↦ x ∷ dropped k xs | false ↦ dropped k xs ]

-- what is due of the reply, by the records that are dropped; `page` is the page that the call was lent
pub data Reports (page : List ℕ) : List Record → IngestReply → Type 0 where
  nothing_dropped : Reports page [] Quiet
  plain_dropped : {r : Record} → r.flag ≡ false → Reports page (r ∷ []) Quiet
  flagged_dropped : {r : Record} {offset len : ℕ} → r.flag ≡ true → take len (drop offset page) ≡ r.value → Reports page (r ∷ []) (Reported offset len)

-- an ingest that was accepted in a state: its pending records, and its reply
pub record ReportsRight (size : ℕ) (s : State) (any k : List ℕ) (c : Option Change) : Type 0 where
  pub pending : List Record
  pub twins : ByTwins size s.work s.list s.store (lent s any) pending
  pub report : Reports (lent s any) (dropped k pending) (ingest_of size s.work s.list s.store (lent s any) k c).reply
