-- `leaf_updater::copy_whole` meets its contract.
-- Assumes nothing.
use Rattle.std.proofs.Common.{rules}
use mathlib.Core.Path.{refl}
use Rattle.leaf_updater.proofs.Copies.{no_room, room}
use Rattle.leaf_updater.proofs.copy_whole.Goals as goal

pub returns-then-out-bytes : goal.returns-then-out-bytes
returns-then-out-bytes c = (refl, search (no_room, rules))

pub returns : goal.returns
returns c = (refl, search (room, rules))
