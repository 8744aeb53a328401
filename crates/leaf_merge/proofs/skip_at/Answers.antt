-- `leaf_merge::skip_at` meets its contract.
-- Assumes nothing.
use Rattle.std.proofs.Common.{rules}
use Rattle.leaf_merge.proofs.Parts.{the_entry_of_the_cursor_skips, another_entry_does_not_skip}
use Rattle.leaf_merge.proofs.skip_at.Goals as goal

pub returns-then-e-at : goal.returns-then-e-at
returns-then-e-at c = search (the_entry_of_the_cursor_skips, rules)

pub returns : goal.returns
returns c = search (another_entry_does_not_skip, rules)
