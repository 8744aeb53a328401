-- `digest_leaves::cut_leaves` meets its contract.
use Rattle.std.proofs.Common.{rules}
use Rattle.digest_leaves.proofs.Finishing.{cutting_asks, no_leaf_is_cut}
use Rattle.digest_leaves.proofs.cut_leaves.Goals as goal

pub try_build_leaves-requires : goal.try_build_leaves-requires
try_build_leaves-requires c = search (cutting_asks, rules)

pub returns-in-None : goal.returns-in-None
returns-in-None c = search (no_leaf_is_cut, rules)
