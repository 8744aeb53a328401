-- `replay::bytes::number` meets its contract.
-- Assumes nothing.
use Rattle.std.proofs.Common.{rules}
use Rattle.leaf_node.specs.Page.{word}
use Rattle.replay.proofs.Laws.{number_past_the_end}
use Rattle.replay.proofs.bytes.number.Goals as goal

pub returns-then-at-s : goal.returns-then-at-s
unfolding word
returns-then-at-s c = search rules

pub returns-else-at-s : goal.returns-else-at-s
unfolding word
returns-else-at-s c = search (number_past_the_end, rules)
