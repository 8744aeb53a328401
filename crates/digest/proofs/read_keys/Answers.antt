-- `digest::read_keys` meets its contract.
-- Assumes nothing.
use Rattle.std.proofs.Common.{rules}
use Rattle.leaf_node.specs.Fits.{nil}
use Rattle.leaf_entries.proofs.Finding.{finding_one_more}
use Rattle.digest.proofs.read_keys.Goals as goal

pub loop-entry-init : goal.loop-entry-init
loop-entry-init c = nil

pub loop-entry-preserved : goal.loop-entry-preserved
loop-entry-preserved c = search (finding_one_more, rules)
