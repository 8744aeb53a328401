-- `leaf_node::start_at` meets its contract: an offset, and behind the last value the page's end.
-- Assumes nothing.
use Rattle.std.proofs.Common.{rules}
use Rattle.leaf_node.proofs.Reading.{start_in, start_end}
use Rattle.leaf_node.proofs.start_at.Goals as goal

pub returns-then-i-n : goal.returns-then-i-n
returns-then-i-n c = (search (start_in, rules), search rules)

pub returns-else-i-n : goal.returns-else-i-n
returns-else-i-n c = (search (start_end, rules), search rules)
