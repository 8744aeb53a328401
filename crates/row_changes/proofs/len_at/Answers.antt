-- `row_changes::len_at` meets its contract.
-- Assumes nothing.
use Rattle.std.proofs.Common.{rules}
use Rattle.row_changes.proofs.Entries.{length_is_read}
use Rattle.row_changes.proofs.len_at.Goals as goal

pub returns : goal.returns
returns c = (search (length_is_read, rules), search rules)
