-- `leaf_digest::digest_work` meets its contract.
-- Assumes nothing.
use Rattle.std.proofs.Common.{rules}
use Rattle.leaf_digest.proofs.After.{nothing_is_kept, records_are_kept}
use Rattle.leaf_digest.proofs.digest_work.Goals as goal

pub returns-then-left-eq0 : goal.returns-then-left-eq0
returns-then-left-eq0 c = search (nothing_is_kept, rules)

pub returns : goal.returns
returns c = search (records_are_kept, rules)
