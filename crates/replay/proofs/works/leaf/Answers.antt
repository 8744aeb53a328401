-- `replay::works::leaf` meets its contract.
-- Assumes nothing.
use Rattle.std.proofs.Common.{rules}
use Rattle.replay.proofs.Answers.{the_leaf_is_counted}
use Rattle.replay.proofs.works.leaf.Goals as goal

pub returns : goal.returns
returns c = search (the_leaf_is_counted, rules)
