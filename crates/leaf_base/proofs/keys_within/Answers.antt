-- `leaf_base::keys_within` meets its contract.
-- Assumes nothing.
use Rattle.std.proofs.Common.{rules}
use Rattle.leaf_base.proofs.KeysWithin.{no_keys_are_within, first_key_outside, last_key_decides}
use Rattle.leaf_base.proofs.keys_within.Goals as goal

pub returns-then-node-eq0 : goal.returns-then-node-eq0
returns-then-node-eq0 c = search (no_keys_are_within, rules)

pub returns-then-less : goal.returns-then-less
returns-then-less c = search (first_key_outside, rules)

pub returns : goal.returns
returns c = search (last_key_decides, rules)
