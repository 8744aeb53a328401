-- `leaf_node::search` meets its contract: the key at the place is the key, or there is none.
-- Assumes nothing.
use Rattle.std.proofs.Common.{rules}
use Rattle.leaf_node.proofs.Searches.{search_past, search_none, search_some}
use Rattle.leaf_node.proofs.search.Goals as goal

pub returns-then-n-i : goal.returns-then-n-i
returns-then-n-i c = search (search_past, rules)

pub returns-then-less : goal.returns-then-less
returns-then-less c = search (search_none, rules)

pub returns : goal.returns
returns c = search (search_some, rules)
