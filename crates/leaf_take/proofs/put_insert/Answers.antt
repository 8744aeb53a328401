-- `leaf_take::put_insert` meets its contract.
-- Assumes nothing.
use Rattle.std.proofs.Common.{ap}
use Rattle.leaf_take.proofs.Taking.{no_insert_is_put, an_insert_is_put}
use Rattle.leaf_ingest.specs.Reply.{change_of}
use Rattle.leaf_take.proofs.put_insert.Goals as goal

pub returns-in-Delete : goal.returns-in-Delete
returns-in-Delete c = no_insert_is_put _ _ _ _ _ (ap change_of c.in-Delete.is)

pub returns-in-Put : goal.returns-in-Put
returns-in-Put c = an_insert_is_put _ _ _ _ _ _ (ap change_of c.in-Put.is) c.requires.0 _ _ c.from.ensures c.insert_entry.ensures
