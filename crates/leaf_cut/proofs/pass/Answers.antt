-- `leaf_cut::pass` meets its contract.
-- Assumes nothing.
use Rattle.std.proofs.Common.{rules}
use Rattle.leaf_cut.proofs.Cursors.{an_entry_is_passed, some_records_are_passed}
use Rattle.leaf_cut.proofs.pass.Goals as goal

pub returns-then-taken-all : goal.returns-then-taken-all
returns-then-taken-all c = search (an_entry_is_passed, rules)

pub returns : goal.returns
returns c = search (some_records_are_passed, rules)
