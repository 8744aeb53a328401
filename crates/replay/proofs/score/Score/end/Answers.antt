-- `replay::score::Score::end` meets its contract.
-- Assumes nothing.
use Rattle.std.proofs.Common.{rules}
use Rattle.replay.proofs.Laws.{bytes_left_fail, no_bytes_left}
use Rattle.replay.proofs.score.Score.end.Goals as goal

pub returns-then-left-ne0 : goal.returns-then-left-ne0
returns-then-left-ne0 c = search (bytes_left_fail, rules)

pub returns-else-left-ne0 : goal.returns-else-left-ne0
returns-else-left-ne0 c = search (no_bytes_left, rules)
