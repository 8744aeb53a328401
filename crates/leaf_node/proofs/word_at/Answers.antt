-- `leaf_node::word_at` meets its contract: two bytes, low byte first.
-- Assumes nothing.
use Rattle.std.proofs.Common.{rules}
use Rattle.leaf_node.proofs.Reading.{word_is}
use Rattle.leaf_node.proofs.word_at.Goals as goal

pub returns : goal.returns
returns c = (search (word_is, rules), search rules)
