-- `replay::score::Score::count` meets its contract.
-- Assumes nothing.
use Rattle.std.proofs.Common.{rules}
use Rattle.replay.proofs.Laws.{counted, not_counted_otherwise, counted_otherwise, not_counted}
use Rattle.replay.proofs.score.Score.count.Goals as goal

pub returns-then-passed : goal.returns-then-passed
returns-then-passed c = search (counted, not_counted_otherwise, rules)

pub returns-else-passed : goal.returns-else-passed
returns-else-passed c = search (counted_otherwise, not_counted, rules)
