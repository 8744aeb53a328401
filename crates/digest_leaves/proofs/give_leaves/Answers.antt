-- `digest_leaves::give_leaves` meets its contract.
use Rattle.std.proofs.Common.{rules}
use Rattle.digest_leaves.proofs.Finishing.{the_last_asks, what_is_left_is_kept, the_last_can_be_given, the_last_is_given}
use Rattle.digest_leaves.proofs.give_leaves.Goals as goal

pub is_last-requires : goal.is_last-requires
is_last-requires c = the_last_asks _ c.args.pending _ _ c.requires _ _ _ c.cut_leaves-p.ensures

pub returns-then-not-is_last : goal.returns-then-not-is_last
returns-then-not-is_last c = search (what_is_left_is_kept, rules)

pub give_leaf-requires : goal.give_leaf-requires
give_leaf-requires c = search (the_last_can_be_given, rules)

pub returns : goal.returns
returns c = search (the_last_is_given, rules)
