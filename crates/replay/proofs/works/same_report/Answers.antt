-- `replay::works::same_report` meets its contract.
-- Assumes nothing.
use Rattle.std.proofs.Common.{rules}
use Rattle.replay.proofs.Answers.{the_report_decides}
use Rattle.replay.proofs.works.same_report.Goals as goal

pub returns : goal.returns
returns c = search (the_report_decides, rules)
