-- `melt_weight::melt` meets its contract.
-- Assumes nothing.
use Rattle.std.proofs.Common.{◌^◌, false, pos, refl, le_trans, arith, lit≤, le→leb}
use lib.Ieee.{in_float, binary64, mul, of_int, fin}
use lib.Ieee.Positive.{between}
use Rattle.melt_weight.specs.Sheet.{sheet_of}
use Rattle.melt_weight.proofs.Whole.{one, product_at_least_one, product_at_most, nothing_melts, nothing_is_whole}
use Rattle.melt_weight.proofs.melt.Goals as goal

pub int_to_float-wax : goal.int_to_float-wax
unfolding in_float
int_to_float-wax c = le→leb c.args.total (2 ^ 53) (le_trans c.requires.0 (lit≤ tt))

pub returns-then-total-eq0 : goal.returns-then-total-eq0
unfolding sheet_of
returns-then-total-eq0 c =
    let x = c.args.factor in
    let e = c.if-total-eq0.true in
    rw (← nothing_is_whole (mul binary64 (of_int binary64 (pos c.args.total)) x) (rw e (nothing_melts x (between one x (fin false 1 (pos 5)) tt tt c.requires.1.least c.requires.1.most)))) refl

pub whole_above-requires : goal.whole_above-requires
whole_above-requires c =
    (product_at_least_one c.args.total c.args.factor c.requires.0 c.requires.1.least c.requires.1.most (omega (arith, c.if-total-eq0.false)), product_at_most c.args.total c.args.factor c.requires.0 c.requires.1.least c.requires.1.most (omega (arith, c.if-total-eq0.false)))

pub returns : goal.returns
unfolding sheet_of
returns c = rw c.whole_above.ensures refl
