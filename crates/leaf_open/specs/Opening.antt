-- An opening by its arguments. Document 01, "A work and its turns".
use Rattle.std.specs.Prelude.{◌≡◌, Bool, true, false, not, List, ℕ, Option, Some, None, Result, Ok, Err}
use Rattle.std.specs.Borrow.{Bor}
use Rattle.std.specs.Option.{is_some}
use Rattle.refusal.specs.declared.Refusal.{Refusal}
use Rattle.refusal.specs.Refusal.{accepted, bad_bounds}
use Rattle.refusal.specs.Numbers.{number_of}
use Rattle.leaf_model.specs.Work.{zero_key, or_else}
use Rattle.leaf_work.specs.declared.Work.{Work}
use Rattle.leaf_work.specs.declared.Entry.{Entry}
use Rattle.leaf_work.specs.Tests.{lent_key}
use Rattle.leaf_work.specs.Verdict.{unless, base_verdict, Opening, with_base_lem, with_none}
use Rattle.leaf_work.specs.Outcome.{reply_number, Opened}
use Rattle.leaf_open.specs.declared.Base.{Base}

-- "Opening: with a base (page, separator, optional cutoff), or with none and no cutoff."
unfoldable pub opening_of : Bool → List ℕ → List ℕ → Bool → List ℕ → Opening
opening_of true page separator cut cutoff = with_base_lem page separator cut cutoff
opening_of false page separator cut cutoff = with_none cut

-- "`Option<Key>`: .. zeros when absent"
abbrev pub key_or_zeros : Option (Bor (List ℕ)) → List ℕ
key_or_zeros key = or_else (lent_key key) zero_key

abbrev pub separator_lent : Option Base → Option (Bor (List ℕ))
separator_lent None = None
separator_lent (Some base) = Some base.separator

-- the same with base and cutoff as they are lent
unfoldable pub opening_lent : Option Base → Option (Bor (List ℕ)) → Opening
opening_lent (Some base) cutoff = with_base_lem base.page.now base.separator.now (is_some cutoff) (key_or_zeros cutoff)
opening_lent None cutoff = with_none (is_some cutoff)

-- Nos. 1 to 6 of it: those of its base, or "cutoff without base"
abbrev pub open_base_verdict : ℕ → Option Base → Option (Bor (List ℕ)) → ℕ
open_base_verdict size (Some base) cutoff = base_verdict size base.page.now base.separator.now (lent_key cutoff)
open_base_verdict size None cutoff = unless bad_bounds (not (is_some cutoff)) accepted

-- the work after a call that answers the new one: a refused call leaves it as it was
abbrev pub work_after : Work → Result Work Refusal → Work
work_after held (Ok work) = work
work_after held (Err refusal) = held

-- an opening with the outcome o: what it answers, and what is lent after it
abbrev pub OpenAnswers : Opened → Work → Result Work Refusal → List Entry → List ℕ → Type 0
OpenAnswers o held answer list' store' =
    (number_of answer ≡ reply_number o.reply) × (work_after held answer ≡ o.work) × (list' ≡ o.list) × (store' ≡ o.store)
