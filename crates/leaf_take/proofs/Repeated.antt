-- What the code leaves takes the next ingest: what `take_in` requires holds again after it. Assumes nothing.
use mathlib.Core.Option.{Option}
use mathlib.Core.List.{List}
use Prim.Native.Nat.{ℕ}
use Rattle.std.specs.Prelude as std
use Rattle.refusal.specs.declared.Refusal.{Refusal}
use Rattle.leaf_node.specs.declared.Cell.{Cell}
use Rattle.leaf_model.specs.Work.{Change}
use Rattle.leaf_work.specs.declared.Work.{Work}
use Rattle.leaf_work.specs.declared.Entry.{Entry}
use Rattle.leaf_work.specs.Outcome as outcome
use Rattle.leaf_work.specs.Ready.{Ready}
use Rattle.leaf_ingest.proofs.Repeated.{an_ingest_leaves_what_the_next_one_requires}
use Rattle.leaf_take.specs.Reply.{Leaves}

module _ (size : ℕ) (w : Work) (list : List Entry) (store page k : List ℕ) (c : Option Change) (ready : Ready w list store page) where
  pub what_the_code_leaves_takes_the_next_ingest : (r : std.Result (std.Option Cell) Refusal) (w' : Work) (list' : List Entry) (store' : List ℕ)
      → Leaves (outcome.ingest_on size w list store page k c 0) r w' list' store' → Ready w' list' store' page
  what_the_code_leaves_takes_the_next_ingest r w' list' store' s = rw (s.work_is, s.list_is, s.store_is) (an_ingest_leaves_what_the_next_one_requires size w list store page k c ready)
