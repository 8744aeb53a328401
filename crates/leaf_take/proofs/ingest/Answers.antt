-- `leaf_take::ingest` meets its contract.
-- Assumes nothing.
use Rattle.std.proofs.Common.{rules, refl}
use Rattle.refusal.proofs.Refused.{passed_on}
use Rattle.leaf_ingest.proofs.Ingests.{accepted_things_take_an_ingest}
use Rattle.leaf_take.proofs.Taking.{refused_things_stay}
use Rattle.leaf_take.proofs.ingest.Goals as goal

pub returns-in_err-node : goal.returns-in_err-node
returns-in_err-node c = rw (passed_on _ _ c.from_residual.ensures) (refused_things_stay 4096 _ _ _ _ _ _ _ c.in_err-node.ensures.number)

pub take_in-requires : goal.take_in-requires
take_in-requires c = let n = c.in_ok-node.ensures in accepted_things_take_an_ingest 4096 _ _ _ _ 0 n.number refl (search rules) _ n.base
