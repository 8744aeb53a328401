-- `replay::works::lend` meets its contract.
-- Assumes nothing.
use Rattle.std.proofs.Common.{rules}
use Rattle.replay.proofs.Answers.{a_short_record_lends_nothing, a_short_page_stays, the_page_is_lent}
use Rattle.replay.proofs.works.lend.Goals as goal

pub returns-then-v-lt-RECORD : goal.returns-then-v-lt-RECORD
returns-then-v-lt-RECORD c = search (a_short_record_lends_nothing, rules)

pub returns-then-page-lt-PAGE : goal.returns-then-page-lt-PAGE
returns-then-page-lt-PAGE c = search (a_short_page_stays, rules)

pub returns : goal.returns
returns c = search (the_page_is_lent, rules)
