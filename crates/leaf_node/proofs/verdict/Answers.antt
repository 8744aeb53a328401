-- `leaf_node::verdict` meets its contract: the tests in the order of their numbers.
-- Assumes nothing.
use Rattle.std.proofs.Common.{rules}
use Rattle.leaf_node.proofs.Verdicts.{verdict_0, verdict_1, verdict_2, verdict_3, verdict_4, verdict_5}
use Rattle.leaf_node.proofs.verdict.Goals as goal

pub returns-then-page-size : goal.returns-then-page-size
returns-then-page-size c = search (verdict_1, rules)

pub returns-then-record_limit-n : goal.returns-then-record_limit-n
returns-then-record_limit-n c = search (verdict_2, rules)

pub returns-then-not-offsets_right : goal.returns-then-not-offsets_right
returns-then-not-offsets_right c = search (verdict_3, rules)

pub returns-then-not-values_fit : goal.returns-then-not-values_fit
returns-then-not-values_fit c = search (verdict_4, rules)

pub returns-then-not-keys_rise : goal.returns-then-not-keys_rise
returns-then-not-keys_rise c = search (verdict_5, rules)

pub returns : goal.returns
returns c = search (verdict_0, rules)
