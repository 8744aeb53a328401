-- `row_tickets::link_leaves` meets its contract.
-- Assumes nothing.
use Rattle.std.proofs.Common.{rules}
use Rattle.row_tickets.proofs.Linking.{one_more_is_linked}
use Rattle.row_tickets.proofs.link_leaves.Goals as goal

pub loop-i-preserved : goal.loop-i-preserved
loop-i-preserved c = search (one_more_is_linked, rules)
