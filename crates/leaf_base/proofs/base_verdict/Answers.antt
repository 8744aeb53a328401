-- `leaf_base::base_verdict` meets its contract.
-- Assumes nothing.
use Rattle.std.proofs.Common.{rules}
use Rattle.refusal.proofs.Refused.{refused}
use Rattle.leaf_base.proofs.Bases.{page_and_keys_come_first, a_low_cutoff_has_number_6, a_good_base_is_accepted}
use Rattle.leaf_base.proofs.base_verdict.Goals as goal

pub returns-in_err-node-clause-number : goal.returns-in_err-node-clause-number
returns-in_err-node-clause-number c = search (page_and_keys_come_first, refused, rules)

pub returns-then-not-is_below-clause-number : goal.returns-then-not-is_below-clause-number
returns-then-not-is_below-clause-number c = search (a_low_cutoff_has_number_6, rules)

pub returns-clause-number : goal.returns-clause-number
returns-clause-number c = search (a_good_base_is_accepted, rules)
