-- `replay::bytes::same` meets its contract.
-- Assumes nothing.
use Rattle.std.proofs.Common.{rules}
use Rattle.replay.proofs.Parts.{the_record_ends_before, the_bytes_decide}
use Rattle.replay.proofs.bytes.same.Goals as goal

pub returns-then-s-at : goal.returns-then-s-at
returns-then-s-at c = search (the_record_ends_before, rules)

pub returns : goal.returns
returns c = search (the_bytes_decide, c.starts_with.ensures, rules)
