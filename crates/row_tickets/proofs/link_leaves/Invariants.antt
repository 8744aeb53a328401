-- `row_tickets::link_leaves` meets its contract.
-- Assumes nothing.
use Rattle.row_tickets.proofs.Linking.{LinkedTo}
use Rattle.row_tickets.proofs.link_leaves.Given as goal

abbrev pub invariant-loop-i : goal.invariant-loop-i
invariant-loop-i l = LinkedTo l.initial.tickets l.n l.last l.own l.count l.tickets l.key l.at l.i
