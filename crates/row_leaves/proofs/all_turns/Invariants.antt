-- Where the turns stand before leaf `i`.
use Rattle.row_leaves.specs.Turns.{RowAsked}
use Rattle.row_leaves.proofs.Stands.{Stands}
use Rattle.row_leaves.proofs.all_turns.Given as goal

abbrev pub invariant-loop-i : goal.invariant-loop-i
invariant-loop-i l = (req : RowAsked l.initial.list l.initial.store l.lent l.initial.area l.initial.tickets) × Stands l.initial.list l.initial.store l.lent l.initial.area l.initial.tickets req l.at l.list l.store l.area l.tickets l.i
