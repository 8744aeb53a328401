-- `leaf_pass::zero_bytes` meets its contract: the words before word i are zeros.
-- Assumes nothing.
use Rattle.std.proofs.Common.{rules, length, ◌/◌}
use native.Mathlib.Omega.{arith}
use Rattle.leaf_pass.proofs.Zeros.{eight_zeros_more, the_last_decide}
use Rattle.leaf_pass.proofs.zero_bytes.Goals as goal

pub loop-i-preserved : goal.loop-i-preserved
loop-i-preserved c = search (eight_zeros_more, rules)

pub returns : goal.returns
returns c = the_last_decide c.args.bytes.now c.loop-i.i (length c.args.bytes.now / 8) c.all_zeros.result c.loop-i.invariant (omega arith) c.all_zeros.ensures
