use Rattle.std.proofs.Common.{rules}
use Rattle.overflow.proofs.Counts.{a_wrong_size, a_right_size, a_size_is_small}
use Rattle.overflow.proofs.page_count.Goals as goal

pub returns-then-not-size_right-clause-number : goal.returns-then-not-size_right-clause-number
returns-then-not-size_right-clause-number c = search (a_wrong_size, rules)

pub total_needed_pages-requires : goal.total_needed_pages-requires
total_needed_pages-requires c = search (a_size_is_small, rules)

pub returns-clause-number : goal.returns-clause-number
returns-clause-number c = search (a_right_size, rules)
