use Rattle.std.proofs.Common.{rules}
use Rattle.leaf_node.proofs.Reading.{word_is}
use Rattle.overflow.proofs.half_at.Goals as goal

pub returns : goal.returns
returns c = (search (word_is, rules), search rules)
