-- `replay::works::behind` meets its contract.
-- Assumes nothing.
use Rattle.std.proofs.Common.{rules}
use Rattle.replay.proofs.Laws.{the_place_goes_on, the_place_stays}
use Rattle.replay.proofs.works.behind.Goals as goal

pub returns-then-at-lt65536 : goal.returns-then-at-lt65536
returns-then-at-lt65536 c = search (the_place_goes_on, rules)

pub returns-else-at-lt65536 : goal.returns-else-at-lt65536
returns-else-at-lt65536 c = search (the_place_stays, rules)
