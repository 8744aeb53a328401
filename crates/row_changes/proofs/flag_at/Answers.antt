-- `row_changes::flag_at` meets its contract.
-- Assumes nothing.
use Rattle.std.proofs.Common.{rules}
use Rattle.row_changes.proofs.Entries.{flag_is_read}
use Rattle.row_changes.proofs.flag_at.Goals as goal

pub returns : goal.returns
returns c = search (flag_is_read, rules)
