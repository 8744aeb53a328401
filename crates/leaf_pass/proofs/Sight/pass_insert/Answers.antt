-- `leaf_pass::Sight::pass_insert` meets its contract.
-- Assumes nothing.
use Rattle.std.proofs.Common.{arith, rules}
use Rattle.leaf_pass.proofs.Entries.{a_wrong_insert, insert_order, insert_inside, right_insert, insert_small}
use Rattle.leaf_pass.proofs.Sight.pass_insert.Goals as goal

pub returns-then-not-insert_right : goal.returns-then-not-insert_right
returns-then-not-insert_right c = search (a_wrong_insert, rules)

pub overflow_sub-tally : goal.overflow_sub-tally
overflow_sub-tally c = search (insert_order, rules)

pub overflow_add-tally-4 : goal.overflow_add-tally-4
overflow_add-tally-4 c =
    let a = c.args in
    let inside = insert_inside a.self.bounds a.pass.tally a.pass.small a.entry.now a.self.node.n a.self.seeing c.insert_right.result c.insert_right.ensures c.if-not-insert_right.false in
    omega (arith, a.pass.small.seen, a.pass.small.bytes, inside)

pub invariant_of-result : goal.invariant_of-result
invariant_of-result c = record { small = search (insert_small, rules) }

pub returns : goal.returns
returns c = search (right_insert, rules)
