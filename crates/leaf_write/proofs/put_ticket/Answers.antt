-- `leaf_write::put_ticket` meets its contract.
-- Assumes nothing.
use Rattle.std.proofs.Common.{rules}
use Rattle.leaf_write.proofs.Tickets.{a_ticket_with_a_cutoff, a_ticket_with_a_cutoff_ends}
use Rattle.leaf_write.proofs.put_ticket.Goals as goal

pub returns-in-Some : goal.returns-in-Some
returns-in-Some c = (search (a_ticket_with_a_cutoff, rules), rw c.in-Some.is (search (a_ticket_with_a_cutoff_ends, rules)), search rules)
