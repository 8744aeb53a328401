-- `row_check::lower` meets its contract.
-- Assumes nothing.
use Rattle.std.proofs.Common.{rules}
use Rattle.row_check.proofs.Leaves.{none_before, none_behind, the_second_is_lower, the_first_is_lower}
use Rattle.row_check.proofs.lower.Goals as goal

pub returns-in_default : goal.returns-in_default
returns-in_default c = search (none_before, rules)

pub returns-in_default-w : goal.returns-in_default-w
returns-in_default-w c = search (none_behind, rules)

pub returns-then-from : goal.returns-then-from
returns-then-from c = search (the_second_is_lower, rules)

pub returns : goal.returns
returns c = search (the_first_is_lower, rules)
