-- `leaf_check::Tested::rest_right` meets its contract.
-- Assumes nothing.
use Rattle.std.proofs.Common.{rules}
use Rattle.leaf_check.proofs.Results.{rest_none, rest_by}
use Rattle.leaf_check.proofs.Tested.rest_right.Goals as goal

pub returns-then-self-work : goal.returns-then-self-work
returns-then-self-work c = search (rest_none, rules)

pub returns : goal.returns
returns c =
    let below = rw c.cutoff.ensures at c.is_below.ensures in
    search (rest_by, below, rules)
