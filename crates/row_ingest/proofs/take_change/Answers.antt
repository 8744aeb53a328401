-- `row_ingest::take_change` meets its contract.
-- Assumes nothing.
use Rattle.std.proofs.Common.{ℕ, refl, ap, ◌+◌}
use Rattle.refusal.proofs.Refused.{passed_on}
use Rattle.row_ingest.proofs.Changes.{a_change_is_taken, a_change_is_refused}
use Rattle.row_ingest.proofs.take_change.Goals as goal

pub returns-in_err-take_in : goal.returns-in_err-take_in
returns-in_err-take_in c =
    let t = c.args.t in
    let to = ap (λ (n : ℕ). t.value + n) c.value_len.ensures.0 in
    rw (passed_on _ _ c.from_residual.ensures) (a_change_is_refused t _ _ _ _ _ _ _ _ c.key_of-own.ensures to c.change_at-taken.ensures _ _ _ _ c.in_err-take_in.ensures _ refl)

pub returns : goal.returns
returns c =
    let t = c.args.t in
    let to = ap (λ (n : ℕ). t.value + n) c.value_len.ensures.0 in
    a_change_is_taken t _ _ _ _ _ _ _ _ c.key_of-own.ensures to c.change_at-taken.ensures _ _ _ _ c.in_ok-take_in.ensures refl
