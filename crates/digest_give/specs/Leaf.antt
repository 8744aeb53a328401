-- leaf_give's definitions of one leaf, of one that was taken off what is pending.
use Rattle.std.specs.Prelude.{List, ℕ}
use Rattle.leaf_work.specs.Lent.{cutoff_of}
use Rattle.leaf_cut.specs.declared.Taken.{Taken}
use Rattle.leaf_cut.specs.Records.{span_of}
use Rattle.leaf_give.specs.declared.Progress.{Progress}
use Rattle.leaf_give.specs.Steps.{LeafThere, LeafGiven}
use Rattle.digest_leaf.specs.declared.Pending.{Pending}

abbrev pub TakenThere : ℕ → Pending → Progress → Taken → ℕ → ℕ → Type 0
TakenThere size q p t area tickets = LeafThere size q.list.now q.store.now q.node.page.now (span_of q.work.now) p t.end.leaf t.at area tickets

abbrev pub TakenGiven : ℕ → Pending → Progress → Taken → List ℕ → List ℕ → Progress → List ℕ → List ℕ → Type 0
TakenGiven size q p t area tickets r area' tickets' =
    LeafGiven size q.list.now q.store.now q.node.page.now (span_of q.work.now) p t.end.leaf t.at (cutoff_of q.work.now) area tickets r area' tickets'
