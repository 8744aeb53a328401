-- What a call is lent: the work record, the list of entries, the store, a page. Document 01, "A work and its turns", "Room and soundness".
use Rattle.std.specs.Prelude.{Bool, ◌&&◌, cond, List, [], ℕ, ◌+◌, eqb, leb}
use Rattle.std.proofs.Math.Option.{Option}
use Rattle.leaf_node.specs.Limits.{record_limit}
use Rattle.leaf_model.specs.Work.{Turn, Open, Waiting, Done, zero_key, or_else}
use Rattle.leaf_work.specs.declared.Work.{Work}
use Rattle.leaf_work.specs.declared.Entry.{Entry}
use Rattle.leaf_work.specs.Tests.{is_set, key_if}

-- ---- entries: "an insert with its place in the store, or a chunk of the base"; "unused entries, entry fields and bytes are zero"

abbrev pub blank : Entry
blank = record { kind = 0; flag = 0; from = 0; to = 0; sum = 0; key = zero_key }

abbrev pub insert_at : ℕ → ℕ → List ℕ → ℕ → Entry
insert_at from to key flag = record { kind = 1; flag = flag; from = from; to = to; sum = 0; key = key }

abbrev pub chunk_of : ℕ → ℕ → ℕ → Entry
chunk_of from to sum = record { kind = 2; flag = 0; from = from; to = to; sum = sum; key = zero_key }

-- any other used entry is taken for a chunk; soundness tests its kind
abbrev pub an_insert : Entry → Bool
an_insert e = eqb e.kind 1

-- ---- the lengths of list and store

abbrev pub most_entries : ℕ
most_entries = 4096

abbrev pub most_store_bytes : ℕ
most_store_bytes = 65536

-- "The list has 121 to 4,096 entries, the store 4,096 to 65,536 bytes."
abbrev pub room_right : ℕ → ℕ → ℕ → Bool
room_right size entries bytes = leb (record_limit size + 1) entries && leb entries most_entries && leb size bytes && leb bytes most_store_bytes

-- ---- the turn: "A work is open, waiting for a merge, or done."

abbrev pub turn_number : Turn → ℕ
turn_number Open = 1
turn_number Waiting = 2
turn_number Done = 3

abbrev pub is_open : Work → Bool
is_open w = eqb w.turn (turn_number Open)

abbrev pub is_waiting : Work → Bool
is_waiting w = eqb w.turn (turn_number Waiting)

abbrev pub is_done : Work → Bool
is_done w = eqb w.turn (turn_number Done)

-- ---- the mode of document 02's M-100: the same work in mode m

abbrev pub in_mode : ℕ → Work → Work
in_mode m w = record {
  turn = w.turn;
  based = w.based;
  mode = m;
  low = w.low;
  used = w.used;
  filled = w.filled;
  count = w.count;
  bytes = w.bytes;
  latest = w.latest;
  cut = w.cut;
  cutoff = w.cutoff;
  over = w.over;
  overriding = w.overriding;
  floor = w.floor;
  taken = w.taken;
  last = w.last;
}

-- ---- the keys of the work record

abbrev pub cutoff_of : Work → Option (List ℕ)
cutoff_of w = key_if (is_set w.cut) w.cutoff

abbrev pub override_of : Work → Option (List ℕ)
override_of w = key_if (is_set w.over) w.overriding

abbrev pub last_of : Work → Option (List ℕ)
last_of w = key_if (is_set w.taken) w.last

-- "The current separator is the override, else the latest base's, also after a cutoff removal, else zeros." The call `separator` answers it.
abbrev pub separator_of : Work → List ℕ
separator_of w = or_else (override_of w) w.latest

-- ---- the page

-- "A work that has no base, waits or is done ignores the lent page"; one of an unknown turn too
abbrev pub reads_base : Work → Bool
reads_base w = is_open w && is_set w.based

-- the lent page as the work regards it: none of its bytes where it is ignored
abbrev pub regarded : Work → List ℕ → List ℕ
regarded w page = cond (reads_base w) page []
