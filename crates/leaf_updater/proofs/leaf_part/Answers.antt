-- `leaf_updater::leaf_part` meets its contract.
use Rattle.leaf_updater.proofs.Copies.{copy_of, length_of_lem}
use Rattle.leaf_updater.proofs.leaf_part.Goals as goal

pub returns : goal.returns
returns c = (length_of_lem _ _ _ c.part.ensures c.copy_whole.ensures.0, copy_of _ _ _ _ c.part.ensures c.copy_whole.ensures.1)
