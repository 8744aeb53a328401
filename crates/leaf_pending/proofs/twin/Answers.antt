-- `leaf_pending::twin` meets its contract.
-- Assumes nothing.
use Rattle.std.proofs.Common.{rules, refl}
use Rattle.refusal.proofs.Refused.{refused, passed_on}
use Rattle.leaf_pending.proofs.Twins.{refused_twin, accepted_walk, accepted_twin, a_twin_lies_in_its_holder}
use Rattle.leaf_pending.proofs.twin.Goals as goal

pub returns-in_err-node-clause-reply : goal.returns-in_err-node-clause-reply
returns-in_err-node-clause-reply c = rw (passed_on _ _ c.from_residual.ensures) (search (refused_twin, refused, rules))

pub pending_record-requires : goal.pending_record-requires
pending_record-requires c = search (accepted_walk, rules)

pub returns-clause-reply : goal.returns-clause-reply
returns-clause-reply c = search (accepted_twin, rules)

pub returns-clause-place : goal.returns-clause-place
returns-clause-place c =
    let n = c.in_ok-node.ensures in
    a_twin_lies_in_its_holder 4096 _ _ _ _ _ (search rules) _ (accepted_twin 4096 _ _ _ _ _ _ n.number refl _ n.base _ c.pending_record.ensures)
