-- The answer of a call that opens a work again and only reads list and store. Document 01, "A work and its turns".
use Rattle.std.specs.Prelude.{◌≡◌, Result}
use Rattle.refusal.specs.declared.Refusal.{Refusal}
use Rattle.refusal.specs.Numbers.{number_of}
use Rattle.leaf_work.specs.declared.Work.{Work}
use Rattle.leaf_work.specs.Outcome.{reply_number, Changed}
use Rattle.leaf_open.specs.Opening.{work_after}

-- a call with the outcome o: what it answers, and the work after it
abbrev pub WorkAnswers : Changed → Work → Result Work Refusal → Type 0
WorkAnswers o held answer = (number_of answer ≡ reply_number o.reply) × (work_after held answer ≡ o.work)
