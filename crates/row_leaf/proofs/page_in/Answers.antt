-- `row_leaf::page_in` meets its contract.
-- Assumes nothing.
use Rattle.std.proofs.Common.{◌≡◌, ◌+◌, ◌-◌, arith}
use Rattle.row_leaf.proofs.page_in.Goals as goal

pub returns : goal.returns
returns c =
    let n : c.in-Some.from + 4096 - c.in-Some.from ≡ 4096 = omega arith in
    rw (n, c.in-Some.is)
