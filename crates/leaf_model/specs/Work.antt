-- Document 01, "A work and its turns", and "Digest, step by step", steps 4 and 5, over records: what a work is, which calls it allows,
-- and what each accepted call makes of it. No bytes and no room: the crates above test those.
use Rattle.std.specs.Prelude.{Bool, true, false, not, ◌&&◌, List, [], ◌∷◌, ◌++◌, ℕ, leb, eqb, length}
use Rattle.std.proofs.Math.Option.{Option, none, some}
use Rattle.bit_ops.specs.Key.{lt_key, eq_key}
use Rattle.bit_ops.specs.Separate.{separate_of}
use Rattle.bit_ops.specs.Steps.{zeros}
use Rattle.leaf_node.specs.Limits.{merge_below, value_limit}
use Rattle.leaf_node.specs.Record.{Record, body}
use Rattle.leaf_model.specs.Basics.{joined, nonempty}
use Rattle.leaf_model.specs.Cut.{Cut, cut_all}

-- "A work is open, waiting for a merge, or done."
pub data Turn : Type 0 where
  Open Waiting Done : Turn

pub record Work : Type 0 where
  pub turn : Turn
  -- what is pending: the records taken up, in order, and behind them the base's rest
  pub listed : List Record
  pub rest : List Record
  -- the override; the latest base's separator, zeros where there was no base; the cutoff
  pub override : Option (List ℕ)
  pub latest : List ℕ
  pub cutoff : Option (List ℕ)
  -- the key that the next one must be at or above, and the last key taken, which it must be above
  pub floor : List ℕ
  pub last : Option (List ℕ)

abbrev pub pending : Work → List Record
pending w = w.listed ++ w.rest

-- a leaf that a digest gives
pub record Leaf : Type 0 where
  pub records : List Record
  pub separator : List ℕ
  pub cutoff : Option (List ℕ)
  -- another leaf starts at its cutoff: it isn't its digest's last, or its digest answered a merge request
  pub linked : Bool

-- "a base (page, separator, optional cutoff)"
pub record Base : Type 0 where
  pub records : List Record
  pub separator : List ℕ
  pub cutoff : Option (List ℕ)

-- "a key with a new value and flag, or a deletion": a call has such a change, or none to delete
pub record Change : Type 0 where
  pub value : List ℕ
  pub flag : Bool

pub data Call : Type 0 where
  Ingest : List ℕ → Option Change → Call
  Digest : Call
  NextBase : Base → Call
  RemoveCutoff : Call

-- ---- keys

abbrev pub zero_key : List ℕ
zero_key = zeros 32

-- a page holds keys of 32 bytes alone
abbrev pub has_key_length : List ℕ → Bool
has_key_length k = eqb (length k) 32

abbrev pub above_last : Option (List ℕ) → List ℕ → Bool
above_last none k = true
above_last (some l) k = lt_key l k

abbrev pub below_cutoff : Option (List ℕ) → List ℕ → Bool
below_cutoff none k = true
below_cutoff (some c) k = lt_key k c

-- "Keys must rise, be at or above the base's separator, and after a merge request at or above the cutoff it named": above the last key taken,
-- and at or above a floor.
abbrev pub may_come : List ℕ → Option (List ℕ) → List ℕ → Bool
may_come floor last k = not (lt_key k floor) && above_last last k

abbrev pub lets_in : Work → List ℕ → Bool
lets_in w k = may_come w.floor w.last k

abbrev pub or_else : Option (List ℕ) → List ℕ → List ℕ
or_else (some k) d = k
or_else none d = d

-- "The current separator is the override, else the latest base's, also after a cutoff removal, else zeros."
abbrev pub current : Work → List ℕ
current w = or_else w.override w.latest

-- ---- ingest

-- "Base records below the key become pending"
abbrev pub records_below : List ℕ → List Record → List Record
records_below k [] = []
records_below k (x ∷ xs) = elim (lt_key x.key k) [ true ↦ x ∷ records_below k xs | false ↦ [] ]

-- "an equal one is dropped": the base's rest after that
abbrev pub records_above : List ℕ → List Record → List Record
records_above k [] = []
records_above k (x ∷ xs) = elim (lt_key x.key k) [ true ↦ records_above k xs | false ↦ elim (eq_key k x.key) [ true ↦ xs | false ↦ x ∷ xs ] ]

-- "the new one is pending behind them"; a deletion has none
abbrev pub inserted : List ℕ → Option Change → List Record
inserted k none = []
inserted k (some c) = record { key = k; value = c.value; flag = c.flag } ∷ []

abbrev pub ingested : Work → List ℕ → Option Change → Work
ingested w k c = record {
  turn = Open;
  listed = w.listed ++ (records_below k w.rest ++ inserted k c);
  rest = records_above k w.rest;
  override = w.override;
  latest = w.latest;
  cutoff = w.cutoff;
  floor = w.floor;
  last = some k;
}

-- ---- digest, step 4

-- "Left with body at least 2,047, or no cutoff"
abbrev pub closes : ℕ → Option (List ℕ) → ℕ → Bool
closes size none b = true
closes size (some c) b = leb (merge_below size) b

-- "Nothing left: done. [Where it closes:] one more leaf, done. Otherwise the records are kept"
abbrev pub finish : Bool → List (List Record) → List Record → Cut
finish closing leaves [] = record { leaves = leaves; left = [] }
finish true leaves (r ∷ rs) = record { leaves = leaves ++ ((r ∷ rs) ∷ []); left = [] }
finish false leaves (r ∷ rs) = record { leaves = leaves; left = r ∷ rs }

abbrev pub finished : ℕ → Option (List ℕ) → Cut → Cut
finished size cutoff c = finish (closes size cutoff (body c.left)) c.leaves c.left

-- steps 1 to 4: all leaves of a digest, and the records that it keeps
unfoldable pub plan : ℕ → Option (List ℕ) → List Record → Cut
plan size cutoff rs = finished size cutoff (cut_all size rs)

-- "done", or "waiting" for records that are kept
abbrev pub turn_after : List Record → Turn
turn_after [] = Done
turn_after (r ∷ rs) = Waiting

-- ---- digest, step 5

-- the last key of a leaf; leaves have records, so that zeros never stand for it
abbrev pub last_key : List Record → List ℕ
last_key [] = zero_key
last_key (x ∷ []) = x.key
last_key (x ∷ y ∷ ys) = last_key (y ∷ ys)

-- "A leaf with records after it has as cutoff `separate` of its last key and the next." "The last leaf has the work's cutoff."
abbrev pub leaf_cutoff : List Record → List Record → Option (List ℕ) → Option (List ℕ)
leaf_cutoff leaf [] cutoff = cutoff
leaf_cutoff leaf (next ∷ after) cutoff = some (separate_of (last_key leaf) next.key)

-- "that is the override for those records": the separator of what comes after a leaf whose own is s, if anything does
abbrev pub next_separator : List ℕ → List Record → List Record → List ℕ
next_separator s leaf [] = s
next_separator s leaf (next ∷ after) = separate_of (last_key leaf) next.key

-- another leaf of the digest follows, or the digest answers a merge request
abbrev pub is_linked : List (List Record) → Bool → Bool
is_linked [] merge = merge
is_linked (l ∷ ls) merge = true

-- "The first leaf takes the current separator", s; `merge`: the digest answers a merge request, for `left` is kept
abbrev pub with_separators : List ℕ → Option (List ℕ) → Bool → List (List Record) → List Record → List Leaf
with_separators s cutoff merge [] left = []
with_separators s cutoff merge (l ∷ ls) left =
    record { records = l; separator = s; cutoff = leaf_cutoff l (joined ls ++ left) cutoff; linked = is_linked ls merge }
    ∷ with_separators (next_separator s l (joined ls ++ left)) cutoff merge ls left

-- the separator of what is kept behind all leaves
abbrev pub separator_after : List ℕ → List (List Record) → List Record → List ℕ
separator_after s [] left = s
separator_after s (l ∷ ls) left = separator_after (next_separator s l (joined ls ++ left)) ls left

-- "Done clears the override." Waiting, "the override becomes the base's separator if there was none", where no leaf changed it.
abbrev pub override_after : List ℕ → List (List Record) → List Record → Option (List ℕ)
override_after s leaves [] = none
override_after s leaves (r ∷ rs) = some (separator_after s leaves (r ∷ rs))

-- "after a merge request at or above the cutoff it named": a digest that keeps records lets in no key below the cutoff
abbrev pub floor_after : List ℕ → Option (List ℕ) → List Record → List ℕ
floor_after floor cutoff [] = floor
floor_after floor cutoff (r ∷ rs) = or_else cutoff floor

-- step 5: the leaves with their separators and cutoffs, by what steps 1 to 4 cut and keep, the current separator and the cutoff
abbrev pub leaves_by : List ℕ → Option (List ℕ) → Cut → List Leaf
leaves_by separator cutoff p = with_separators separator cutoff (nonempty p.left) p.leaves p.left

-- the work after a digest, by what it cuts and keeps
abbrev pub work_after : Work → Cut → Work
work_after w c = record {
  turn = turn_after c.left;
  listed = c.left;
  rest = [];
  override = override_after (current w) c.leaves c.left;
  latest = w.latest;
  cutoff = w.cutoff;
  floor = floor_after w.floor w.cutoff c.left;
  last = w.last;
}

-- "Digest, when open: takes up the rest of the base and gives leaves."
abbrev pub planned : ℕ → Work → Cut
planned size w = plan size w.cutoff (pending w)

abbrev pub given : ℕ → Work → List Leaf
given size w = leaves_by (current w) w.cutoff (planned size w)

abbrev pub digested : ℕ → Work → Work
digested size w = work_after w (planned size w)

-- ---- next base, cutoff removal

-- "when waiting, or when done after a digest that had a cutoff": the pending records stay, the new base is the base
abbrev pub with_base : Work → Base → Work
with_base w b = record {
  turn = Open;
  listed = w.listed;
  rest = b.records;
  override = w.override;
  latest = b.separator;
  cutoff = b.cutoff;
  floor = b.separator;
  last = w.last;
}

-- "the work is open again with no base"; the floor stays at the cutoff that the merge request named
abbrev pub without_cutoff : Work → Work
without_cutoff w = record {
  turn = Open;
  listed = w.listed;
  rest = [];
  override = w.override;
  latest = w.latest;
  cutoff = none;
  floor = w.floor;
  last = w.last;
}

-- ---- which calls are allowed

abbrev pub is_open : Turn → Bool
is_open Open = true
is_open Waiting = false
is_open Done = false

abbrev pub is_waiting : Turn → Bool
is_waiting Open = false
is_waiting Waiting = true
is_waiting Done = false

abbrev pub awaits_base : Turn → Bool
awaits_base Open = false
awaits_base Waiting = true
awaits_base Done = true

-- No. 12: the new value isn't too long
abbrev pub change_fits : ℕ → Option Change → Bool
change_fits size none = true
change_fits size (some c) = leb (length c.value) (value_limit size)

-- Next base: "separator at or above that cutoff"; without a cutoff there is no next base.
abbrev pub reaches_cutoff : Option (List ℕ) → List ℕ → Bool
reaches_cutoff none s = false
reaches_cutoff (some c) s = not (lt_key s c)

-- "keys strictly rise", as a test of neighbours; `rising_of_test` and `rising_test` (proofs/Bases) show that it is `Rising`
abbrev pub is_rising : List Record → Bool
is_rising [] = true
is_rising (x ∷ []) = true
is_rising (x ∷ y ∷ ys) = lt_key x.key y.key && is_rising (y ∷ ys)

-- a good page's records: "values are at most 1,332 bytes"; No. 6: no key outside separator and cutoff
abbrev pub within_bounds : ℕ → List ℕ → Option (List ℕ) → List Record → Bool
within_bounds size s c [] = true
within_bounds size s c (x ∷ xs) =
    not (lt_key x.key s) && (below_cutoff c x.key && (leb (length x.value) (value_limit size) && (has_key_length x.key && within_bounds size s c xs)))

-- No. 6: "cutoff not above separator" too
abbrev pub good_base : ℕ → Base → Bool
good_base size b = below_cutoff b.cutoff b.separator && (is_rising b.records && within_bounds size b.separator b.cutoff b.records)

abbrev pub allowed : ℕ → Work → Call → Bool
allowed size w (Ingest k c) = is_open w.turn && (lets_in w k && (below_cutoff w.cutoff k && (change_fits size c && has_key_length k)))
allowed size w Digest = is_open w.turn
allowed size w (NextBase b) = awaits_base w.turn && (reaches_cutoff w.cutoff b.separator && good_base size b)
allowed size w RemoveCutoff = is_waiting w.turn

-- ---- what an accepted call does: the work after it, and the leaves that it gives

abbrev pub effect : ℕ → Work → Call → Work
effect size w (Ingest k c) = ingested w k c
effect size w Digest = digested size w
effect size w (NextBase b) = with_base w b
effect size w RemoveCutoff = without_cutoff w

abbrev pub gives : ℕ → Work → Call → List Leaf
gives size w (Ingest k c) = []
gives size w Digest = given size w
gives size w (NextBase b) = []
gives size w RemoveCutoff = []
