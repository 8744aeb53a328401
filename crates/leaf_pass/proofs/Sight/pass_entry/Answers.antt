-- `leaf_pass::Sight::pass_entry` meets its contract.
-- Assumes nothing.
use Rattle.std.proofs.Common.{rules}
use Rattle.leaf_pass.proofs.Entries.{behind_the_used, an_insert_more, a_chunk_more}
use Rattle.leaf_pass.proofs.Sight.pass_entry.Goals as goal

pub returns-then-self-pass : goal.returns-then-self-pass
returns-then-self-pass c = search (behind_the_used, rules)

pub returns-then-is_insert : goal.returns-then-is_insert
returns-then-is_insert c = search (an_insert_more, rules)

pub returns : goal.returns
returns c = search (a_chunk_more, rules)
