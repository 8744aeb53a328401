-- An ingest's change and its reply in numbers, and what it leaves. Document 01, "A work and its turns".
use Rattle.std.proofs.Math.Option.{Option, none, some}
use Rattle.std.specs.Prelude.{◌≡◌, true, false, List, ℕ, Result}
use Rattle.std.specs.Prelude as std
use Rattle.refusal.specs.declared.Refusal.{Refusal}
use Rattle.leaf_node.specs.declared.Cell.{Cell}
use Rattle.leaf_model.specs.Work.{Change}
use Rattle.leaf_work.specs.declared.Work.{Work}
use Rattle.leaf_work.specs.declared.Entry.{Entry}
use Rattle.leaf_work.specs.Tests.{is_zero, is_set}
use Rattle.leaf_work.specs.Outcome.{IngestReply, IngestRefused, Quiet, Reported, Ingested}
use Rattle.leaf_ingest.specs.Reply.{reply_of}
use Rattle.leaf_take.specs.declared.LeafReport.{LeafReport}

-- a change by two numbers, put and the new value's flag, and the value
abbrev pub change_given : ℕ → ℕ → List ℕ → Option Change
change_given put flag value = elim (is_zero put) [ true ↦ none | false ↦ some (record { value = value; flag = is_set flag }) ]

-- the struct for each case of the reply; a refusal has zeros in every other field
abbrev pub report_out : IngestReply → LeafReport
report_out (IngestRefused n) = record { refusal = n; reported = 0; offset = 0; len = 0 }
report_out Quiet = record { refusal = 0; reported = 0; offset = 0; len = 0 }
report_out (Reported offset len) = record { refusal = 0; reported = 1; offset = offset; len = len }

-- an ingest with the outcome o: what it answers, and what is lent after it
pub record Leaves (o : Ingested) (reply : Result (std.Option Cell) Refusal) (work' : Work) (list' : List Entry) (store' : List ℕ) : Type 0 where
  pub reply_is : reply_of reply ≡ o.reply
  pub work_is : work' ≡ o.work
  pub list_is : list' ≡ o.list
  pub store_is : store' ≡ o.store
