-- The change of an ingest and its reply as enums. Document 01, "A work and its turns".
use Rattle.std.proofs.Math.Option.{Option, none, some}
use Rattle.std.specs.Prelude.{List, ℕ, Result, Ok, Err}
use Rattle.std.specs.Prelude as std
use Rattle.refusal.specs.declared.Refusal.{Refusal}
use Rattle.refusal.specs.Numbers.{number}
use Rattle.leaf_node.specs.declared.Cell.{Cell}
use Rattle.leaf_model.specs.Work.{Change}
use Rattle.leaf_work.specs.Outcome.{IngestReply, IngestRefused, Quiet, Reported}
use Rattle.leaf_ingest.specs.declared.Change as taken
use Rattle.leaf_ingest.specs.declared.Change.TheVariants.{Put, Delete}

-- "a key with a new value and flag, or a deletion"
abbrev pub change_of : taken.Change → Option Change
change_of (Put value flag) = some (record { value = value.now; flag = flag })
change_of Delete = none

-- nothing, or "the cell's offset and length in the base page"
abbrev pub report_of : std.Option Cell → IngestReply
report_of std.None = Quiet
report_of (std.Some cell) = Reported cell.offset cell.len

-- the same or a refusal
abbrev pub reply_of : Result (std.Option Cell) Refusal → IngestReply
reply_of (Ok report) = report_of report
reply_of (Err refusal) = IngestRefused (number refusal)
