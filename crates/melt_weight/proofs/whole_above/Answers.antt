-- `melt_weight::whole_above` meets its contract.
-- Assumes nothing.
use Rattle.std.proofs.Common.{ℕ, ◌+◌, ◌^◌, ap, ◌∙◌, le_trans, le_of_eq, arith, lit≤, le→leb}
use lib.Ieee.{in_float}
use Rattle.melt_weight.proofs.Whole.{can_be_truncated, whole_few, stays, rises}
use Rattle.melt_weight.proofs.whole_above.Goals as goal

pub truncating_f64_to_u64-whole-requires : goal.truncating_f64_to_u64-whole-requires
truncating_f64_to_u64-whole-requires c = let p = can_be_truncated c.args.x c.requires.0 c.requires.1 in record { lower_bound = p.0; upper_bound = p.1 }

pub int_to_float-back : goal.int_to_float-back
unfolding in_float
int_to_float-back c =
    let x = c.args.x in
    le→leb c.truncating_f64_to_u64-whole.result (2 ^ 53)
    (le_trans (le_of_eq c.truncating_f64_to_u64-whole.ensures) (le_trans (whole_few x c.requires.0 c.requires.1) (lit≤ tt)))

pub returns-then-x-back : goal.returns-then-x-back
returns-then-x-back c =
    let x = c.args.x in
    let e = c.truncating_f64_to_u64-whole.ensures in
    e ∙ stays x c.requires.0 c.requires.1 (rw (← e) c.if-x-back.true)

pub overflow_add-result : goal.overflow_add-result
overflow_add-result c =
    let x = c.args.x in
    record { fits = omega (arith, c.truncating_f64_to_u64-whole.ensures, whole_few x c.requires.0 c.requires.1) }

pub returns : goal.returns
returns c =
    let x = c.args.x in
    let e = c.truncating_f64_to_u64-whole.ensures in
    ap (λ (n : ℕ). n + 1) e ∙ rises x c.requires.0 c.requires.1 (rw (← e) c.if-x-back.false)
