-- `leaf_pass::chunk_lies` meets its contract.
-- Assumes nothing.
use Rattle.std.proofs.Common.{rules}
use Rattle.leaf_pass.proofs.Entries.{lies_by}
use Rattle.leaf_pass.proofs.chunk_lies.Goals as goal

pub returns : goal.returns
returns c = search (lies_by, rules)
