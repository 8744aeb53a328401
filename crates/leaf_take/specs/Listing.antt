-- What the functions that list an ingest's entries require and do, as plain facts.
use Rattle.std.proofs.Math.Option.{Option}
use Rattle.std.specs.Prelude.{◌≡◌, List, ℕ, ◌+◌, ◌-◌, ◌≤◌, length}
use Rattle.leaf_node.specs.Build.{put}
use Rattle.leaf_model.specs.Work.{Change}
use Rattle.leaf_work.specs.declared.Work.{Work}
use Rattle.leaf_work.specs.declared.Entry.{Entry}
use Rattle.leaf_work.specs.TakingUp.{value_of}
use Rattle.leaf_ingest.specs.declared.Kept.{Kept}
use Rattle.leaf_ingest.specs.Steps.{added_by}

-- new entries stand from `at` on, and the next unused one behind them
pub record PutAt (list : List Entry) (at : ℕ) (new : List Entry) (next : ℕ) (list' : List Entry) : Type 0 where
  pub next_is : next ≡ at + length new
  pub list_is : list' ≡ put list at new

-- a list of so many entries has room for what a key takes up and for its change, and the value ends where a store may end
pub record HasRoom (w : Work) (z : Kept) (c : Option Change) (entries : ℕ) : Type 0 where
  pub from : w.low ≤ z.stop
  pub list_room : w.used + (z.stop - w.low) + added_by c ≤ entries
  pub value_early : w.filled + length (value_of c) ≤ 65536
