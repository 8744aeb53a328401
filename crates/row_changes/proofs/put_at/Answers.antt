-- `row_changes::put_at` meets its contract.
-- Assumes nothing.
use Rattle.std.proofs.Common.{rules}
use Rattle.row_changes.proofs.Entries.{put_is_read}
use Rattle.row_changes.proofs.put_at.Goals as goal

pub returns : goal.returns
returns c = search (put_is_read, rules)
