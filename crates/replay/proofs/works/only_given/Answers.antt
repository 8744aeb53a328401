-- `replay::works::only_given` meets its contract.
-- Assumes nothing.
use Rattle.std.proofs.Common.{rules}
use Rattle.replay.proofs.Answers.{the_rest_is_held}
use Rattle.replay.proofs.works.only_given.Goals as goal

pub returns : goal.returns
returns c = search (the_rest_is_held, rules)
