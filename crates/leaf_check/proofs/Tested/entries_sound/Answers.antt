-- `leaf_check::Tested::entries_sound` meets its contract.
-- Assumes nothing.
use Rattle.std.proofs.Common.{rules}
use Rattle.leaf_check.proofs.Sounds.{a_wrong_entry, settles}
use Rattle.leaf_check.proofs.Tested.entries_sound.Goals as goal

pub returns-in_default : goal.returns-in_default
returns-in_default c = search (a_wrong_entry, rules)

pub returns : goal.returns
returns c = search (settles, rules)
