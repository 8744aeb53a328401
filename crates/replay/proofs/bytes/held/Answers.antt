-- `replay::bytes::held` meets its contract.
-- Assumes nothing.
use Rattle.std.proofs.Common.{rules}
use Rattle.replay.proofs.Held.{all_are_held, none_is_left}
use Rattle.replay.proofs.bytes.held.Goals as goal

pub returns-then-s-from : goal.returns-then-s-from
returns-then-s-from c = search (none_is_left, rules)

pub returns : goal.returns
returns c = search (all_are_held, rules)
