-- `replay::reading::read_full` ends, since each read leaves less to fill; what it filled is what it took of the reader.
use Rattle.std.proofs.Common.{◌≡◌, ◌-◌, ◌≤◌, length, take}
use Rattle.std.specs.Io.KnownBytes.{Consumes}
use Rattle.replay.proofs.reading.read_full.Given as goal

abbrev pub invariant-loop-done : goal.invariant-loop-done
invariant-loop-done g l = record {
  same_room : length l.buf ≡ length l.initial.buf;
  in_range : l.done ≤ length l.buf;
  taken : Consumes (g.R.Read.remaining l.initial.file) (g.R.Read.remaining l.file) (take l.done l.buf);
}

abbrev pub decreases-loop-done : goal.decreases-loop-done
decreases-loop-done g l = length l.buf - l.done
