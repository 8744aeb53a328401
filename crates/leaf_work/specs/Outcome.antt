-- Document 01, "A work and its turns" and "Room and soundness": the calls but digest, the reply, and every lent byte after the call. A refused call leaves all as it was, and its reply is its number.
use Rattle.std.specs.Prelude.{Bool, true, false, cond, List, [], ◌∷◌, ◌++◌, ℕ, zero, suc, ◌+◌, eqb, length, take, drop, replicate}
use Rattle.std.proofs.Math.Option.{Option}
use Rattle.refusal.specs.Refusal.{accepted, no_such_index}
use Rattle.bit_ops.specs.Steps.{zeros}
use Rattle.leaf_node.specs.Page.{start, length_at}
use Rattle.leaf_model.specs.Work.{Open, Change, zero_key, below_cutoff}
use Rattle.leaf_work.specs.declared.Work.{Work}
use Rattle.leaf_work.specs.declared.Entry.{Entry}
use Rattle.leaf_work.specs.Tests.{is_set, bit, key_if}
use Rattle.leaf_work.specs.Lent.{blank, turn_number, cutoff_of, regarded}
use Rattle.leaf_work.specs.Pending.{Place, part_at, pending_places}
use Rattle.leaf_work.specs.TakingUp.{value_of, reports, stop, drops, low_after, new_entries, count_after, bytes_after}
use Rattle.leaf_work.specs.Verdict.{lent_verdict, Opening, with_base_lem, with_none, open_verdict, ingest_verdict, next_base_verdict, remove_verdict}

-- ---- opening, next base, cutoff removal answer that they are done, or a refusal

pub data Reply : Type 0 where
  Refused : ℕ → Reply
  Accepted : Reply

abbrev pub reply_number : Reply → ℕ
reply_number (Refused n) = n
reply_number Accepted = accepted

pub record Opened : Type 0 where
  pub reply : Reply
  pub work : Work
  pub list : List Entry
  pub store : List ℕ

-- An open work with nothing listed. Document 02, M-100: "a mode, chosen at opening and kept in the work record"; `every` is set where every dropped
-- flagged record is reported.
abbrev pub fresh_work : Bool → Bool → List ℕ → Bool → List ℕ → Work
fresh_work every based separator cut cutoff = record {
  turn = turn_number Open;
  based = bit based;
  mode = bit every;
  low = 0;
  used = 0;
  filled = 0;
  count = 0;
  bytes = 0;
  latest = separator;
  cut = bit cut;
  cutoff = cond cut cutoff zero_key;
  over = 0;
  overriding = zero_key;
  floor = separator;
  taken = 0;
  last = zero_key;
}

abbrev pub open_work : Bool → Opening → Work
open_work every (with_base_lem page separator cut cutoff) = fresh_work every true separator cut cutoff
open_work every (with_none cut) = fresh_work every false zero_key false zero_key

-- "List and store are filled with zeros."; w is what the work held
unfoldable pub open_of : ℕ → Bool → Opening → Work → List Entry → List ℕ → Opened
unfolding open_verdict
open_of size every x w list store = elim (eqb (open_verdict size x list store) accepted) [
  | true ↦ record { reply = Accepted; work = open_work every x; list = replicate (length list) blank; store = zeros (length store) }
  | false ↦ record { reply = Refused (open_verdict size x list store); work = w; list = list; store = store }
]

-- ---- ingest

pub data IngestReply : Type 0 where
  IngestRefused : ℕ → IngestReply
  Quiet : IngestReply
  -- the dropped cell's offset and length in the base page
  Reported : ℕ → ℕ → IngestReply

abbrev pub ingest_number : IngestReply → ℕ
ingest_number (IngestRefused n) = n
ingest_number Quiet = accepted
ingest_number (Reported offset size) = accepted

pub record Ingested : Type 0 where
  pub reply : IngestReply
  pub work : Work
  pub list : List Entry
  pub store : List ℕ

-- "Ingest answers the cell's offset and length in the base page in that case, and nothing otherwise." By what was found.
abbrev pub report_by : Bool → ℕ → List ℕ → ℕ → Bool → IngestReply
report_by every low page stop dropped = elim (reports every low page stop dropped) [ true ↦ Reported (start page stop) (length_at page stop) | false ↦ Quiet ]

-- the work record with another passed part, list and gauge; the key is the last one taken
abbrev pub taken_work : Work → List ℕ → ℕ → ℕ → ℕ → ℕ → ℕ → Work
taken_work w k low used filled count bytes = record {
  turn = w.turn;
  based = w.based;
  mode = w.mode;
  low = low;
  used = used;
  filled = filled;
  count = count;
  bytes = bytes;
  latest = w.latest;
  cut = w.cut;
  cutoff = w.cutoff;
  over = w.over;
  overriding = w.overriding;
  floor = w.floor;
  taken = 1;
  last = k;
}

-- `page` is the page as the work regards it
module _ (size : ℕ) (w : Work) (list : List Entry) (store page k : List ℕ) (c : Option Change) where
  abbrev pub report_of : IngestReply
  report_of = report_by (is_set w.mode) w.low page (stop w page k) (drops w page k)

  -- "Base records below the key become pending; an equal one is dropped; the new one is pending behind them."
  abbrev pub ingest_work : Work
  ingest_work =
      taken_work w k (low_after w page k) (w.used + length (new_entries w page k c)) (w.filled + length (value_of c)) (count_after w page k c) (bytes_after w page k c)

  abbrev pub ingest_done : Ingested
  ingest_done = record {
    reply = report_of;
    work = ingest_work;
    list = take w.used list ++ new_entries w page k c ++ drop (w.used + length (new_entries w page k c)) list;
    store = take w.filled store ++ value_of c ++ drop (w.filled + length (value_of c)) store;
  }

  -- `lent` is the number that the lent things earn
  unfoldable pub ingest_on : ℕ → Ingested
  ingest_on lent = elim (eqb (ingest_verdict size w list store page k c lent) accepted) [
    | true ↦ ingest_done
    | false ↦ record { reply = IngestRefused (ingest_verdict size w list store page k c lent); work = w; list = list; store = store }
  ]

abbrev pub ingest_of : ℕ → Work → List Entry → List ℕ → List ℕ → List ℕ → Option Change → Ingested
ingest_of size w list store page k c = ingest_on size w list store (regarded w page) k c (lent_verdict size w list store page)

-- ---- next base, cutoff removal: list and store are only read

pub record Changed : Type 0 where
  pub reply : Reply
  pub work : Work

abbrev pub changed_by : ℕ → Work → Work → Changed
changed_by verdict w after = elim (eqb verdict accepted) [ true ↦ record { reply = Accepted; work = after } | false ↦ record { reply = Refused verdict; work = w } ]

-- "Next base": what is pending and the override stay; the new separator is the latest, and the floor
abbrev pub next_base_work : Work → List ℕ → Bool → List ℕ → Work
next_base_work w separator cut cutoff = record {
  turn = turn_number Open;
  based = 1;
  mode = w.mode;
  low = 0;
  used = w.used;
  filled = w.filled;
  count = w.count;
  bytes = w.bytes;
  latest = separator;
  cut = bit cut;
  cutoff = cond cut cutoff zero_key;
  over = w.over;
  overriding = w.overriding;
  floor = separator;
  taken = w.taken;
  last = w.last;
}

unfoldable pub next_base_of : ℕ → Work → List Entry → List ℕ → List ℕ → List ℕ → Bool → List ℕ → Changed
next_base_of size w list store page separator cut cutoff =
    changed_by (next_base_verdict size w list store page separator (key_if cut cutoff)) w (next_base_work w separator cut cutoff)

-- "the work is open again with no base"; the latest separator and the floor stay
abbrev pub remove_work : Work → Work
remove_work w = record {
  turn = turn_number Open;
  based = 0;
  mode = w.mode;
  low = 0;
  used = w.used;
  filled = w.filled;
  count = w.count;
  bytes = w.bytes;
  latest = w.latest;
  cut = 0;
  cutoff = zero_key;
  over = w.over;
  overriding = w.overriding;
  floor = w.floor;
  taken = w.taken;
  last = w.last;
}

unfoldable pub remove_cutoff_of : ℕ → Work → List Entry → List ℕ → Changed
remove_cutoff_of size w list store = changed_by (remove_verdict size w list store) w (remove_work w)

-- ---- the twin call and the part call

pub data TwinReply : Type 0 where
  TwinRefused : ℕ → TwinReply
  Found : Place → TwinReply

-- the place with an index; No. 10: "index not below .. the pending count"
abbrev pub nth_place : ℕ → List Place → TwinReply
nth_place i [] = TwinRefused no_such_index
nth_place zero (x ∷ xs) = Found x
nth_place (suc i) (x ∷ xs) = nth_place i xs

unfoldable pub twin_on : ℕ → List Place → ℕ → TwinReply
twin_on lent xs i = elim (eqb lent accepted) [ true ↦ nth_place i xs | false ↦ TwinRefused lent ]

abbrev pub twin_of : ℕ → Work → List Entry → List ℕ → List ℕ → ℕ → TwinReply
twin_of size w list store page i = twin_on (lent_verdict size w list store page) (pending_places w list (regarded w page)) i

-- "the part is empty when refused"
abbrev pub part_by : List ℕ → List ℕ → TwinReply → List ℕ
part_by store page (TwinRefused n) = []
part_by store page (Found x) = part_at store page x

abbrev pub part_of : ℕ → Work → List Entry → List ℕ → List ℕ → ℕ → List ℕ
part_of size w list store page i = part_by store page (twin_of size w list store page i)

-- ---- "`is_in_scope` and `separator` read the work record alone and refuse nothing": `separator_of` is in Lent

abbrev pub in_scope_of : Work → List ℕ → Bool
in_scope_of w k = below_cutoff (cutoff_of w) k
