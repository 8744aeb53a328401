-- `row_changes::size_with` meets its contract.
-- Assumes nothing.
use Rattle.std.proofs.Common.{rules}
use Rattle.row_changes.proofs.Entries.{a_put_takes_its_length, a_deletion_takes_nothing}
use Rattle.row_changes.proofs.size_with.Goals as goal

pub returns-then-not-put_at : goal.returns-then-not-put_at
returns-then-not-put_at c = (search (a_deletion_takes_nothing, rules), search rules)

pub returns : goal.returns
returns c = (search (a_put_takes_its_length, rules), search rules)
