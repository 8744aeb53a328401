use Rattle.std.proofs.Common.{rules}
use Rattle.refusal.proofs.Refused.{passed_on}
use Rattle.overflow_read.proofs.Checking.{the_number_of_a_wrong_cell}
use Rattle.overflow_read.proofs.Joining.{a_wrong_cell_joins_nothing, the_number_of_a_join, a_refused_value, pages_to_join, the_buffer_is_long, a_joined_value}
use Rattle.overflow_read.proofs.join_value.Goals as goal

pub returns-in_err-read-clause-number : goal.returns-in_err-read-clause-number
returns-in_err-read-clause-number c = rw (passed_on _ _ c.from_residual.ensures) (search (the_number_of_a_wrong_cell, c.in_err-read.ensures, rules))

pub returns-in_err-read-clause-value_after : goal.returns-in_err-read-clause-value_after
returns-in_err-read-clause-value_after c = search (a_wrong_cell_joins_nothing, c.in_err-read.ensures, rules)

pub returns-in_err-read_verdict-clause-number : goal.returns-in_err-read_verdict-clause-number
returns-in_err-read_verdict-clause-number c =
    rw (passed_on _ _ c.from_residual-in_err-read_verdict.ensures) (search (the_number_of_a_join, c.in_ok-read.ensures, c.in_err-read_verdict.ensures, rules))

pub returns-in_err-read_verdict-clause-value_after : goal.returns-in_err-read_verdict-clause-value_after
returns-in_err-read_verdict-clause-value_after c = search (a_refused_value, c.in_ok-read.ensures, c.in_err-read_verdict.ensures, rules)

pub join_pages-requires : goal.join_pages-requires
join_pages-requires c = (search (pages_to_join, c.in_ok-read.ensures, c.in_ok-read_verdict.ensures, rules), search (the_buffer_is_long, c.in_ok-read.ensures, c.in_ok-read_verdict.ensures, rules))

pub returns-clause-number : goal.returns-clause-number
returns-clause-number c = search (the_number_of_a_join, c.in_ok-read.ensures, c.in_ok-read_verdict.ensures, rules)

pub returns-clause-value_after : goal.returns-clause-value_after
returns-clause-value_after c = search (a_joined_value, c.in_ok-read.ensures, c.in_ok-read_verdict.ensures, rules)
