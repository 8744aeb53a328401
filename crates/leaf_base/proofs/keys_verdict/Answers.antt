-- `leaf_base::keys_verdict` meets its contract.
-- Assumes nothing.
use Rattle.std.proofs.Common.{rules}
use Rattle.refusal.proofs.Refused.{refused}
use Rattle.leaf_node.proofs.Reading.{checked_keys}
use Rattle.leaf_base.proofs.Bases.{a_bad_page_has_its_number, keys_outside_have_number_6, keys_within_are_accepted}
use Rattle.leaf_base.proofs.keys_verdict.Goals as goal

pub returns-in_err-node-clause-number : goal.returns-in_err-node-clause-number
returns-in_err-node-clause-number c = search (a_bad_page_has_its_number, refused, rules)

pub keys_within-requires : goal.keys_within-requires
keys_within-requires c = search (checked_keys, rules)

pub returns-then-not-keys_within-clause-number : goal.returns-then-not-keys_within-clause-number
returns-then-not-keys_within-clause-number c = search (keys_outside_have_number_6, rules)

pub returns-clause-number : goal.returns-clause-number
returns-clause-number c = search (keys_within_are_accepted, rules)
