use Rattle.std.proofs.Common.{rules}
use Rattle.overflow_read.proofs.Checking.{other_numbers, other_bytes, the_tail_decides}
use Rattle.overflow_read.proofs.page_right.Goals as goal

pub returns-then-half_at-numbers : goal.returns-then-half_at-numbers
returns-then-half_at-numbers c = search (other_numbers, rules)

pub returns-then-half_at-bytes : goal.returns-then-half_at-bytes
returns-then-half_at-bytes c = search (other_bytes, rules)

pub returns : goal.returns
returns c = search (the_tail_decides, rules)
