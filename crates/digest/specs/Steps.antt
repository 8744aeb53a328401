-- The steps of a digest: what they require, and what they make.
use Rattle.std.specs.Prelude.{◌≡◌, cond, List, ℕ, ◌-◌, length, drop, replicate}
use Rattle.leaf_model.specs.Work.{plan}
use Rattle.leaf_work.specs.declared.Work.{Work}
use Rattle.leaf_work.specs.declared.Entry.{Entry}
use Rattle.leaf_work.specs.Tests.{is_zero}
use Rattle.leaf_work.specs.Lent.{blank, cutoff_of}
use Rattle.leaf_work.specs.Pending.{pending_of}
use Rattle.leaf_work.specs.Digest.{DigestReply, Finished, Merge, Digested, digest_done}
use Rattle.leaf_give.specs.declared.Progress.{Progress}
use Rattle.leaf_digest.specs.Steps.{Digests}

-- "how many leaves it gave, and done, or the cutoff for which it waits": by how many records are left
unfoldable pub reply_by : Work → Progress → DigestReply
reply_by w p = cond (is_zero p.left.count) (Finished p.leaves) (Merge p.leaves w.cutoff)

-- a work whose lent things earn no refusal and whose leaves have room; "unused entries .. are zero"
pub record Ready (size : ℕ) (w : Work) (list : List Entry) (store page area tickets : List ℕ) : Type 0 where
  pub digests : Digests size w list store page area tickets
  pub unused : drop w.used list ≡ replicate (length list - w.used) blank

-- the outcome of one that earns none, with the page as the work regards it
abbrev pub outcome_of : ℕ → Work → List Entry → List ℕ → List ℕ → List ℕ → List ℕ → Digested
outcome_of size w list store page area tickets = digest_done size w list store area tickets (plan size (cutoff_of w) (pending_of w list store page))
