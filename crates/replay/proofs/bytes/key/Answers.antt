-- `replay::bytes::key` meets its contract.
-- Assumes nothing.
use Rattle.std.proofs.Common.{rules}
use Rattle.replay.proofs.Parts.{a_short_record_has_no_key, no_key_behind_the_end, the_key_is_copied}
use Rattle.replay.proofs.bytes.key.Goals as goal

pub returns-then-s-lt32 : goal.returns-then-s-lt32
returns-then-s-lt32 c = search (a_short_record_has_no_key, rules)

pub returns-then-s-at : goal.returns-then-s-at
returns-then-s-at c = search (no_key_behind_the_end, rules)

pub returns : goal.returns
returns c = search (the_key_is_copied, rules)
