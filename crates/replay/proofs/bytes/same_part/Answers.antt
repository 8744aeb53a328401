-- `replay::bytes::same_part` meets its contract.
-- Assumes nothing.
use Rattle.std.proofs.Common.{rules}
use Rattle.replay.proofs.Parts.{the_other_is_shorter, the_other_ends_before, the_part_decides}
use Rattle.replay.proofs.bytes.same_part.Goals as goal

pub returns-then-other-n : goal.returns-then-other-n
returns-then-other-n c = search (the_other_is_shorter, rules)

pub returns-then-other-n-2 : goal.returns-then-other-n-2
returns-then-other-n-2 c = search (the_other_ends_before, rules)

pub returns : goal.returns
returns c = search (the_part_decides, rules)
