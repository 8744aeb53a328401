-- Ingests: what they require of all that earns no refusal, and that what they write is what the definitions say. Assumes nothing.
use mathlib.Core.Path.{◌≡◌, sym, ◌∙◌}
use mathlib.Core.Bool.{true}
use mathlib.Core.Option.{Option}
use mathlib.Core.List.{List}
use Prim.Native.Nat.{ℕ, ◌+◌, ◌≤◌}
use lib.ListN.{length}
use borrow.Author.Tests.{leb-true}
use Rattle.leaf_node.specs.Limits.{PageSize}
use Rattle.leaf_node.specs.Record.{total}
use Rattle.leaf_model.specs.Work.{Change, below_cutoff, change_fits, inserted}
use Rattle.leaf_work.specs.declared.Work.{Work}
use Rattle.leaf_work.specs.declared.Entry.{Entry}
use Rattle.leaf_work.specs.Lent.{cutoff_of, is_open, regarded}
use Rattle.leaf_work.specs.Tests.{is_set}
use Rattle.leaf_work.specs.Sound.{lets_in}
use Rattle.leaf_work.specs.TakingUp.{value_of, entries_with, stop, rest_after, new_entries, count_after, bytes_after}
use Rattle.leaf_work.specs.Verdict.{lent_verdict, ingest_verdict}
use Rattle.leaf_work.specs.Outcome as outcome
use Rattle.leaf_work.specs.Ready.{Ready}
use Rattle.leaf_work.proofs.Tests.{passed}
use Rattle.leaf_work.proofs.Readiness as readiness
use Rattle.leaf_ingest.specs.declared.Kept.{Kept}
use Rattle.leaf_ingest.specs.Steps.{Taken, ingest_work_by}
use Rattle.leaf_ingest.proofs.Numbers.{range_length, range_total}

-- ---- what is required

pub accepted_things_take_an_ingest : (size : ℕ) (w : Work) (list : List Entry) (store page : List ℕ) (v : ℕ) → v ≡ lent_verdict size w list store page → v ≡ 0 → PageSize size
    → (p : List ℕ) → p ≡ regarded w page → Ready w list store p
accepted_things_take_an_ingest size w list store page v e z q p r = rw r (readiness.accepted_things_are_ready size w list store page (sym e ∙ z) q)

-- the rows that an accepted ingest passed
pub record Passed (size : ℕ) (w : Work) (list : List Entry) (store page k : List ℕ) (c : Option Change) : Type 0 where
  pub turn : is_open w ≡ true
  pub fitting : change_fits size c ≡ true
  pub let_in : lets_in w k ≡ true
  pub below : below_cutoff (cutoff_of w) k ≡ true
  pub list_room : count_after w page k c + length (rest_after w page k) ≤ length list
  pub store_room : bytes_after w page k c + total (rest_after w page k) ≤ length store

pub passed_rows : (size : ℕ) (w : Work) (list : List Entry) (store page k : List ℕ) (c : Option Change) → ingest_verdict size w list store page k c 0 ≡ 0 → Passed size w list store page k c
unfolding ingest_verdict
passed_rows size w list store page k c e =
    let a₁ = passed 8 (is_open w) _ e in
    let a₂ = passed 11 (change_fits size c) _ a₁.1 in
    let a₃ = passed 12 (lets_in w k) _ a₂.1 in
    let a₄ = passed 13 (below_cutoff (cutoff_of w) k) _ a₃.1 in
    let a₅ = passed 14 _ _ a₄.1 in
    let a₆ = passed 15 _ _ a₅.1 in
    record { turn = a₁.0; fitting = a₂.0; let_in = a₃.0; below = a₄.0; list_room = leb-true _ _ a₅.0; store_room = leb-true _ _ a₆.0 }

-- ---- what is written is what the definitions say, by what the key takes up

module _ (w : Work) (page k : List ℕ) (kept : Kept) (g : Taken w page k kept) where
  pub entries_are : (c : Option Change) → entries_with w k kept.stop kept.taken c ≡ new_entries w page k c
  entries_are c = rw (g.stop_is, g.taken_is)

  module _ (size : ℕ) (list : List Entry) (store : List ℕ) (c : Option Change) where
    pub report_is : outcome.report_by (is_set w.mode) w.low page kept.stop kept.dropped ≡ outcome.report_of size w list store page k c
    report_is = rw (g.stop_is, g.dropped_is)

    pub work_is : ingest_work_by w k kept (w.used + length (entries_with w k kept.stop kept.taken c)) (length (inserted k c)) (length (value_of c)) ≡ outcome.ingest_work size w list store page k c
    work_is = rw (entries_are c, g.low_is, g.stop_is, g.taken_is, range_length page w.low (stop w page k), range_total page w.low (stop w page k))
