-- `replay::works::same_digest` meets its contract.
-- Assumes nothing.
use Rattle.std.proofs.Common.{rules}
use Rattle.replay.proofs.Answers.{the_digest_decides}
use Rattle.replay.proofs.works.same_digest.Goals as goal

pub returns : goal.returns
returns c = search (the_digest_decides, rules)
