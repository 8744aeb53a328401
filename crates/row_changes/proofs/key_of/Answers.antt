-- `row_changes::key_of` meets its contract.
-- Assumes nothing.
use Rattle.std.proofs.Common.{rules}
use Rattle.row_changes.proofs.Entries.{a_key_is_read}
use Rattle.row_changes.proofs.key_of.Goals as goal

pub returns : goal.returns
returns c = search (a_key_is_read, rules)
