-- `digest_keep::lift_record` meets its contract.
-- Assumes nothing.
use Rattle.std.proofs.Common.{rules}
use Rattle.digest_keep.proofs.Records.{what_is_copied_stands_under_the_top, a_copied_record_is_lifted}
use Rattle.digest_keep.proofs.lift_record.Goals as goal

pub returns : goal.returns
returns c = (search (a_copied_record_is_lifted, rules), search (what_is_copied_stands_under_the_top, rules))
