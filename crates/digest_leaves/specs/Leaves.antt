-- What cutting leaves off what is pending and giving them requires, and what it leaves: leaf_give's definitions, of a `Pending`.
use Rattle.std.specs.Prelude.{◌≡◌, Some, Bool, not, ◌&&◌, List, ℕ, eqb, ltb}
use Rattle.leaf_node.specs.Limits.{merge_below}
use Rattle.leaf_node.specs.Record.{body}
use Rattle.leaf_model.specs.Cut.{Cut, target_of, cut_all}
use Rattle.leaf_work.specs.declared.Work.{Work}
use Rattle.leaf_work.specs.Tests.{is_set}
use Rattle.leaf_cut.specs.Sizes.{body_of}
use Rattle.leaf_give.specs.declared.Progress.{Progress}
use Rattle.leaf_give.specs.Giving.{pending, Gives, GivenOut}
use Rattle.leaf_give.specs.Steps.{Along, Begun}
use Rattle.digest_leaf.specs.declared.Pending.{Pending}

-- what is left is the last leaf
abbrev pub is_last : ℕ → Work → Progress → Bool
is_last size w p = not (eqb p.left.count 0) && not (is_set w.cut && ltb (body_of p.left) (merge_below size))

abbrev pub LeavesAsked : ℕ → Pending → List ℕ → List ℕ → Type 0
LeavesAsked size q area tickets = Gives size q.work.now q.list.now q.store.now q.node.page.now area tickets

abbrev pub LeavesGiven : ℕ → Pending → List ℕ → List ℕ → Progress → List ℕ → List ℕ → Type 0
LeavesGiven size q area tickets p area' tickets' = GivenOut size q.work.now q.list.now q.store.now q.node.page.now area tickets p area' tickets'

-- the leaves that are cut off all that is pending
abbrev pub cut_on : ℕ → Pending → Cut
cut_on size q = cut_all size (pending size q.work.now q.list.now q.store.now q.node.page.now)

-- they have been given out
abbrev pub AllCut : ℕ → Pending → List ℕ → List ℕ → Progress → List ℕ → List ℕ → Type 0
AllCut size q area tickets p area' tickets' = Along size q.work.now q.list.now q.store.now q.node.page.now area tickets (cut_on size q) p area' tickets'

pub record CutAsked (size : ℕ) (q : Pending) (area tickets : List ℕ) (start : Progress) (target : ℕ) : Type 0 where
  pub gives : LeavesAsked size q area tickets
  pub target_is : target_of size (body (pending size q.work.now q.list.now q.store.now q.node.page.now)) ≡ Some target
  pub begun : Begun size q.work.now q.list.now q.store.now q.node.page.now start
