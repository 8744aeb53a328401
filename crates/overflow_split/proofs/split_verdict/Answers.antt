use Rattle.std.proofs.Common.{rules}
use Rattle.refusal.proofs.Refused.{passed_on}
use Rattle.overflow.proofs.Verdicts.{a_refused_size_is_not_split, long_buffers_are_accepted, short_buffers_are_refused}
use Rattle.overflow_split.proofs.split_verdict.Goals as goal

pub returns-in_err-pages-clause-number : goal.returns-in_err-pages-clause-number
returns-in_err-pages-clause-number c = rw (passed_on _ _ c.from_residual.ensures) (search (a_refused_size_is_not_split, c.in_err-pages.ensures.number, rules))

pub returns-then-pages-numbers-clause-number : goal.returns-then-pages-numbers-clause-number
returns-then-pages-numbers-clause-number c = search (long_buffers_are_accepted, c.in_ok-pages.ensures.number, c.in_ok-pages.ensures.count, rules)

pub returns-clause-number : goal.returns-clause-number
returns-clause-number c = search (short_buffers_are_refused, c.in_ok-pages.ensures.number, c.in_ok-pages.ensures.count, rules)
