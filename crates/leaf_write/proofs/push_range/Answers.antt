-- `leaf_write::push_range` meets its contract.
-- Assumes nothing.
use Rattle.std.proofs.Common.{rules}
use Rattle.leaf_write.proofs.Pages.{a_range_has_room, a_range_is_pushed, a_range_ends}
use Rattle.leaf_write.proofs.push_range.Goals as goal

pub push_chunk-at-requires : goal.push_chunk-at-requires
push_chunk-at-requires c = search (a_range_has_room, rules)

pub returns : goal.returns
returns c = (search (a_range_is_pushed, rules), search (a_range_ends, rules))
