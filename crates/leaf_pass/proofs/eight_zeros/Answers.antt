-- `leaf_pass::eight_zeros` meets its contract.
-- Assumes nothing.
use Rattle.std.proofs.Common.{rules}
use Rattle.leaf_pass.proofs.Zeros.{eight_by}
use Rattle.leaf_pass.proofs.eight_zeros.Goals as goal

pub returns : goal.returns
returns c = search (eight_by, rules)
