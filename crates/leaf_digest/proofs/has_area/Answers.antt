-- `leaf_digest::has_area` meets its contract.
-- Assumes nothing.
use Rattle.std.proofs.Common.{rules}
use Rattle.leaf_digest.proofs.Numbers.{the_area_is_tested}
use Rattle.leaf_digest.proofs.has_area.Goals as goal

pub returns : goal.returns
returns c = search (the_area_is_tested, rules)
