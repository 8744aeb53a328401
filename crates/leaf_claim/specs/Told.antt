-- What is told of a work: all that its caller knows of it without the work record. Like the tally it is fed the calls and their answers alone; of
-- an accepted digest's answer it reads the leaves' number, done or the cutoff named, and the tickets. Each clause is a sentence of document 01, "A
-- work and its turns" or "Digest, step by step", 4 and 5.
use Rattle.std.specs.Prelude.{Bool, true, false, ◌&&◌, List, [], ◌∷◌, ℕ}
use Rattle.std.proofs.Math.Option.{Option, none, some}
use Rattle.leaf_node.specs.Ticket.{Ticket, read_tickets}
use Rattle.leaf_model.specs.Work.{Turn, Open, Waiting, Done, is_open, or_else, zero_key}
use Rattle.leaf_work.specs.Tests.{key_if}
use Rattle.leaf_work.specs.Verdict.{Opening, with_base_lem, with_none}
use Rattle.leaf_work.specs.Digest.{DigestReply, DigestRefused, Finished, Merge}

pub record Told : Type 0 where
  -- "A work is open, waiting for a merge, or done."
  pub turn : Turn
  -- whether there is a base
  pub based : Bool
  -- the latest base's separator, zeros where there was no base; the optional cutoff; the override
  pub separator : List ℕ
  pub cutoff : Option (List ℕ)
  pub override : Option (List ℕ)
  -- the key that the next one must be at or above, and the last key taken, which it must be above
  pub floor : List ℕ
  pub last : Option (List ℕ)

-- "The current separator is the override, else the latest base's, also after a cutoff removal, else zeros."
abbrev pub current_separator : Told → List ℕ
current_separator t = or_else t.override t.separator

-- "A work that has no base, waits or is done ignores the lent page"
abbrev pub reads_page : Told → Bool
reads_page t = is_open t.turn && t.based

-- "Opening: with a base (page, separator, optional cutoff), or with none and no cutoff."
abbrev pub told_opening : Opening → Told
told_opening (with_base_lem page separator cut cutoff) = record {
  turn = Open;
  based = true;
  separator = separator;
  cutoff = key_if cut cutoff;
  override = none;
  floor = separator;
  last = none;
}
told_opening (with_none cut) = record { turn = Open; based = false; separator = zero_key; cutoff = none; override = none; floor = zero_key; last = none }

-- an accepted ingest: "Keys must rise"
abbrev pub told_ingest : List ℕ → Told → Told
told_ingest k t = record {
  turn = t.turn;
  based = t.based;
  separator = t.separator;
  cutoff = t.cutoff;
  override = t.override;
  floor = t.floor;
  last = some k;
}

-- "A leaf with records after it has as cutoff `separate` of its last key and the next [..]; that is the override for those records": after a merge
-- request the last ticket's cutoff; where no leaf was given, s.
abbrev pub override_told : Option (List ℕ) → List Ticket → Option (List ℕ)
override_told s [] = s
override_told s (x ∷ xs) = override_told x.cutoff xs

-- A digest, by its reply and the tickets as it leaves them. "Done clears the override." Waiting, "the override becomes the base's separator if
-- there was none", and keys must be, "after a merge request[,] at or above the cutoff it named".
abbrev pub told_digest : DigestReply → List ℕ → Told → Told
told_digest (DigestRefused n) tickets t = t
told_digest (Finished n) tickets t = record {
  turn = Done;
  based = t.based;
  separator = t.separator;
  cutoff = t.cutoff;
  override = none;
  floor = t.floor;
  last = t.last;
}
told_digest (Merge n cutoff) tickets t = record {
  turn = Waiting;
  based = t.based;
  separator = t.separator;
  cutoff = t.cutoff;
  override = override_told (some (current_separator t)) (read_tickets n tickets);
  floor = cutoff;
  last = t.last;
}

-- An accepted next base. Its separator is "at or above that cutoff", so that the floor is the separator alone.
abbrev pub told_next_base : List ℕ → Option (List ℕ) → Told → Told
told_next_base separator cutoff t = record {
  turn = Open;
  based = true;
  separator = separator;
  cutoff = cutoff;
  override = t.override;
  floor = separator;
  last = t.last;
}

-- "Cutoff removal, when waiting: the work is open again with no base."
abbrev pub told_removal : Told → Told
told_removal t = record {
  turn = Open;
  based = false;
  separator = t.separator;
  cutoff = none;
  override = t.override;
  floor = t.floor;
  last = t.last;
}
