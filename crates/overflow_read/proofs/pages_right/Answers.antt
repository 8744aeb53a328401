use Rattle.std.proofs.Common.{rules}
use Rattle.overflow_read.proofs.Checking.{counts_fit, a_page_is_whole, no_page_is_passed, all_pages_are_passed, a_page_is_wrong, one_more_page_is_passed}
use Rattle.overflow_read.proofs.pages_right.Goals as goal

pub loop-i-init : goal.loop-i-init
loop-i-init c = search (no_page_is_passed, rules)

pub page_right-requires : goal.page_right-requires
page_right-requires c = (search (a_page_is_whole, rules), search (counts_fit, rules))

pub returns-then-not-page_right : goal.returns-then-not-page_right
returns-then-not-page_right c = search (a_page_is_wrong, rules)

pub loop-i-preserved : goal.loop-i-preserved
loop-i-preserved c = search (one_more_page_is_passed, rules)

pub returns : goal.returns
returns c = search (all_pages_are_passed, rules)
