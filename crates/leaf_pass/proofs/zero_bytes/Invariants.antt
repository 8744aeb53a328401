-- `leaf_pass::zero_bytes` meets its contract: the words before word i are zeros.
-- Assumes nothing.
use mathlib.Core.Path.{◌≡◌}
use Prim.Native.Nat.{◌*◌}
use lib.ListN.{drop}
use Rattle.leaf_work.specs.Tests.{every, is_zero}
use Rattle.leaf_pass.proofs.zero_bytes.Given as goal

abbrev pub invariant-loop-i : goal.invariant-loop-i
invariant-loop-i l = every is_zero l.bytes ≡ every is_zero (drop (8 * l.i) l.bytes)
