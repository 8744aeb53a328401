use Rattle.std.proofs.Common.{rules}
use Rattle.refusal.proofs.Refused.{passed_on}
use Rattle.overflow_read.proofs.Checking.{the_number_of_a_wrong_cell}
use Rattle.overflow_read.proofs.Joining.{a_wrong_cell_frees_nothing, the_number_of_a_free, a_refused_list, pages_to_free, the_list_is_long, a_freed_list}
use Rattle.overflow_read.proofs.free_numbers.Goals as goal

pub returns-in_err-said-clause-number : goal.returns-in_err-said-clause-number
returns-in_err-said-clause-number c = rw (passed_on _ _ c.from_residual.ensures) (search (the_number_of_a_wrong_cell, c.in_err-said.ensures, rules))

pub returns-in_err-said-clause-numbers_after : goal.returns-in_err-said-clause-numbers_after
returns-in_err-said-clause-numbers_after c = search (a_wrong_cell_frees_nothing, c.in_err-said.ensures, rules)

pub returns-in_err-read_verdict-clause-number : goal.returns-in_err-read_verdict-clause-number
returns-in_err-read_verdict-clause-number c =
    rw (passed_on _ _ c.from_residual-in_err-read_verdict.ensures) (search (the_number_of_a_free, c.in_ok-said.ensures, c.in_err-read_verdict.ensures, rules))

pub returns-in_err-read_verdict-clause-numbers_after : goal.returns-in_err-read_verdict-clause-numbers_after
returns-in_err-read_verdict-clause-numbers_after c = search (a_refused_list, c.in_ok-said.ensures, c.in_err-read_verdict.ensures, rules)

pub delete-requires : goal.delete-requires
delete-requires c = (search (c.in_ok-said.ensures, rules), search (pages_to_free, c.in_ok-said.ensures, c.in_ok-read_verdict.ensures, rules), search (the_list_is_long, c.in_ok-said.ensures, c.in_ok-read_verdict.ensures, rules))

pub returns-clause-number : goal.returns-clause-number
returns-clause-number c = search (the_number_of_a_free, c.in_ok-said.ensures, c.in_ok-read_verdict.ensures, rules)

pub returns-clause-numbers_after : goal.returns-clause-numbers_after
returns-clause-numbers_after c = search (a_freed_list, c.in_ok-said.ensures, c.in_ok-read_verdict.ensures, rules)
