-- `melt_scale::weigh_page` meets its contract. The invariant: `s` is the scale after the first `i` records.
-- Assumes nothing.
use Rattle.std.proofs.Common.{rules}
use Rattle.melt_scale.proofs.Records.{before_the_first, one_record_more, all_records}
use Rattle.melt_scale.proofs.weigh_page.Goals as goal

pub loop-i-init : goal.loop-i-init
loop-i-init c = search (before_the_first, rules)

pub loop-i-preserved : goal.loop-i-preserved
loop-i-preserved c = search (one_record_more, rules)

pub returns : goal.returns
returns c =
    let n = c.count_of-i-end in
    all_records c.args.page.now c.args.tree.now c.args.at c.requires.1 n.result n.ensures.0 c.loop-i.s c.loop-i.i c.loop-i.invariant (search rules)
