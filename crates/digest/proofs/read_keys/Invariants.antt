-- The first entries' keys have 32 bytes.
use Rattle.std.proofs.Common.{take}
use Rattle.leaf_node.specs.Fits.{All}
use Rattle.leaf_work.proofs.PendingRecords.{EntryKeyed}
use Rattle.digest.proofs.read_keys.Given as goal

abbrev pub invariant-loop-entry : goal.invariant-loop-entry
invariant-loop-entry l = All EntryKeyed (take l.entry-index l.list)
