-- `leaf_write::push_insert` meets its contract.
-- Assumes nothing.
use Rattle.std.proofs.Common.{rules}
use Rattle.leaf_write.proofs.Pages.{an_insert_has_room, an_insert_is_pushed, an_insert_ends}
use Rattle.leaf_write.proofs.push_insert.Goals as goal

pub push_cell-end-requires : goal.push_cell-end-requires
push_cell-end-requires c = an_insert_has_room _ _ _ c.requires.1 _ c.requires.2

pub returns : goal.returns
returns c = (search (an_insert_is_pushed, rules), search (an_insert_ends, rules))
