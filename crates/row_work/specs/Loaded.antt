-- Document 02, M-101: the work that a row's turns go over. It is opened inside the call, so that what is lent to its steps is never checked again: what each step requires holds of what
-- the step before it left. `page` is the page of the leaf that is loaded, none where a row has no leaf.
use Rattle.std.specs.Prelude.{◌≡◌, true, List, [], ℕ, length}
use Rattle.std.proofs.Math.Option.{Option, some}
use Rattle.leaf_node.specs.Record.{Record}
use Rattle.leaf_node.specs.Fits.{All}
use Rattle.leaf_model.specs.Work.{below_cutoff}
use Rattle.leaf_work.specs.declared.Work.{Work}
use Rattle.leaf_work.specs.declared.Entry.{Entry}
use Rattle.leaf_work.specs.Lent.{is_open, is_waiting, cutoff_of, override_of, separator_of, regarded}
use Rattle.leaf_work.specs.Pending.{pending_of}
use Rattle.leaf_work.specs.Sound.{lets_in}
use Rattle.leaf_work.specs.Verdict.{lent_verdict}
use Rattle.row_turns.specs.Changes.{Edit, EditsRight}

-- the keys of a work record have 32 bytes
pub record KeysLong (w : Work) : Type 0 where
  pub latest : length w.latest ≡ 32
  pub cutoff : length w.cutoff ≡ 32
  pub overriding : length w.overriding ≡ 32
  pub floor : length w.floor ≡ 32
  pub last : length w.last ≡ 32

-- a work that earns none of Nos. 1 to 8 with what it is lent, all keys of 32 bytes
pub record Holding (size : ℕ) (w : Work) (list : List Entry) (store page : List ℕ) : Type 0 where
  pub sound : lent_verdict size w list store page ≡ 0
  pub keys : KeysLong w
  pub entries : All (λ e. length e.key ≡ 32) list

-- a leaf is loaded, and the changes es are still to come
pub record Loaded (size : ℕ) (w : Work) (list : List Entry) (store page : List ℕ) (es : List Edit) : Type 0 where
  pub holds : Holding size w list store page
  pub opened : is_open w ≡ true
  pub whole : regarded w page ≡ page
  pub edits : EditsRight size es
  pub lets : All (λ e. lets_in w e.key ≡ true) es
  pub below : All (λ e. below_cutoff (cutoff_of w) e.key ≡ true) es

-- a step on a loaded leaf keeps where its leaf begins and ends, and has these records pending
pub record Stays (w w' : Work) (list' : List Entry) (store' page : List ℕ) (pending : List Record) : Type 0 where
  pub separator : separator_of w' ≡ separator_of w
  pub cutoff : cutoff_of w' ≡ cutoff_of w
  pub pending_is : pending_of w' list' store' page ≡ pending

-- ---- between two leaves

-- records wait for a merge: their leaf begins at s, and the leaf asked for is that at c
pub record Waits (size : ℕ) (w : Work) (list : List Entry) (store : List ℕ) (kept : List Record) (s : List ℕ) (c : Option (List ℕ)) : Type 0 where
  pub holds : Holding size w list store []
  pub waiting : is_waiting w ≡ true
  pub override : override_of w ≡ some s
  pub cutoff : cutoff_of w ≡ c
  pub pending_is : pending_of w list store [] ≡ kept
