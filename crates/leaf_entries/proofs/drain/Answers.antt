-- `leaf_entries::drain` meets its contract.
-- Assumes nothing.
use Rattle.std.proofs.Common.{rules}
use Rattle.leaf_work.specs.Lent.{blank}
use Rattle.leaf_entries.proofs.Laying.{emptied, nothing_to_empty}
use Rattle.leaf_entries.proofs.drain.Goals as goal

pub returns-then-from-list : goal.returns-then-from-list
returns-then-from-list c =
    emptied blank c.args.list.now c.args.from c.fill.new.self _ c.if-from-list.true (rw c.blank_entry.ensures at (c.fill.ensures.after (λ y e. e))) (search rules)

pub returns-else-from-list : goal.returns-else-from-list
returns-else-from-list c = nothing_to_empty blank c.args.list.now c.args.from c.if-from-list.false
