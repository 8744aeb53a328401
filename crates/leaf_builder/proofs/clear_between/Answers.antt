-- `leaf_builder::clear_between` meets its contract.
-- Assumes nothing.
use Rattle.std.proofs.Common.{rules}
use Rattle.leaf_builder.proofs.Writing.{cleared}
use Rattle.leaf_builder.proofs.clear_between.Goals as goal

pub returns : goal.returns
returns c = cleared c.args.d.now c.fill.new.self c.args.from _ _ (c.fill.ensures.after (λ y e. e)) (search rules)
