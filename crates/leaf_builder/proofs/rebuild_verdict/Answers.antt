-- `leaf_builder::rebuild_verdict` meets its contract: the tests in the order of their numbers.
-- Assumes nothing.
use Rattle.std.proofs.Common.{rules}
use Rattle.refusal.proofs.Refused.{refused}
use Rattle.leaf_node.proofs.Reading.{checked_long}
use Rattle.leaf_builder.proofs.Rebuilding.{rebuild_page, rebuild_low, rebuild_back, rebuild_past, rebuild_short, rebuild_given}
use Rattle.leaf_builder.proofs.rebuild_verdict.Goals as goal

pub returns-in_err-verdict : goal.returns-in_err-verdict
returns-in_err-verdict c = search (rebuild_page, refused, rules)

pub returns-then-mid-from : goal.returns-then-mid-from
returns-then-mid-from c = search (rebuild_low, rules)

pub returns-then-to-mid : goal.returns-then-to-mid
returns-then-to-mid c = search (rebuild_back, rules)

pub count_of-requires : goal.count_of-requires
count_of-requires c = search (checked_long, rules)

pub returns-then-count_of-to : goal.returns-then-count_of-to
returns-then-count_of-to c = search (rebuild_past, rules)

pub returns-then-room-size : goal.returns-then-room-size
returns-then-room-size c = search (rebuild_short, rules)

pub returns : goal.returns
returns c = search (rebuild_given, rules)
