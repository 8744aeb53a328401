use Rattle.std.proofs.Common.{rules}
use Rattle.overflow_read.proofs.Checking.{a_short_buffer, the_pages_are_there, wrong_pages, no_refusal}
use Rattle.overflow_read.proofs.read_verdict.Goals as goal

pub returns-then-not-fits-cell : goal.returns-then-not-fits-cell
returns-then-not-fits-cell c = search (a_short_buffer, rules)

pub pages_right-requires : goal.pages_right-requires
pages_right-requires c = search (the_pages_are_there, rules)

pub returns-then-not-pages_right : goal.returns-then-not-pages_right
returns-then-not-pages_right c = search (wrong_pages, rules)

pub returns : goal.returns
returns c = search (no_refusal, rules)
