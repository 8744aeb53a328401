-- `leaf_pass::Sight::pass_each` meets its contract.
-- Assumes nothing.
use mathlib.Core.Path.{◌≡◌}
use lib.ListN.{drop}
use Rattle.leaf_pass.specs.Pass.{passed_all}
use Rattle.leaf_pass.proofs.Sight.pass_each.Given as goal

abbrev pub invariant-loop-entry : goal.invariant-loop-entry
invariant-loop-entry l =
    passed_all l.self.bounds l.self.node.page.now l.initial.pass.tally l.list ≡ passed_all l.self.bounds l.self.node.page.now l.pass.tally (drop l.entry-index l.list)
