-- What the functions below the call require and do, as plain facts. `page` is the page as the work regards it.
-- `proofs/Ingests.antt` has what they require of all that earns no refusal.
use Rattle.std.proofs.Math.Option.{Option, none, some}
use Rattle.std.specs.Prelude.{◌≡◌, Bool, true, List, ℕ, ◌+◌, ◌-◌, ◌≤◌, ◌<◌, leb, length}
use Rattle.refusal.specs.Refusal.{accepted, out_of_turn, long_value, key_too_low, key_past_cutoff, list_full, store_full}
use Rattle.leaf_node.specs.Limits.{most_page_bytes, value_limit}
use Rattle.leaf_node.specs.Page.{count, values_size}
use Rattle.leaf_node.specs.Good.{KeysRise}
use Rattle.leaf_node.specs.Steps.{Readable}
use Rattle.leaf_model.specs.Work.{Change, below_cutoff}
use Rattle.leaf_work.specs.declared.Work.{Work}
use Rattle.leaf_work.specs.Tests.{bit}
use Rattle.leaf_work.specs.Lent.{most_entries, most_store_bytes, is_open, cutoff_of}
use Rattle.leaf_work.specs.Sound.{lets_in}
use Rattle.leaf_work.specs.TakingUp.{value_of, stop, drops, low_after}
use Rattle.leaf_work.specs.Verdict.{unless}
use Rattle.leaf_work.specs.Outcome as outcome
use Rattle.leaf_ingest.specs.declared.Kept.{Kept}

-- ---- what a key takes up of the base

-- a base of n records that is passed up to `low`
pub record Base (w : Work) (page : List ℕ) (n : ℕ) : Type 0 where
  pub low_in : w.low ≤ n
  pub rising : 0 < n → KeysRise page

-- records `low` up to `stop` are taken up, and the one at `stop` is dropped or not
pub record KeptAt (page : List ℕ) (n low stop : ℕ) (dropped : Bool) (z : Kept) : Type 0 where
  pub stop_is : z.stop ≡ stop
  pub dropped_is : z.dropped ≡ dropped
  pub low_is : z.low ≡ stop + bit dropped
  pub taken_is : z.taken ≡ values_size page low stop
  pub rest_is : z.rest ≡ values_size page (stop + bit dropped) n
  pub taken_few : z.taken ≤ length page
  pub rest_few : z.rest ≤ length page

-- "Base records below the key become pending; an equal one is dropped"
pub record Taken (w : Work) (page k : List ℕ) (z : Kept) : Type 0 where
  pub stop_is : z.stop ≡ stop w page k
  pub dropped_is : z.dropped ≡ drops w page k
  pub low_is : z.low ≡ low_after w page k
  pub taken_is : z.taken ≡ values_size page w.low (stop w page k)
  pub rest_is : z.rest ≡ values_size page (low_after w page k) (count page)
  pub from : w.low ≤ z.stop
  pub to : z.stop ≤ z.low
  pub upto : z.low ≤ count page
  pub taken_few : z.taken ≤ most_page_bytes
  pub rest_few : z.rest ≤ most_page_bytes
  pub readable : z.dropped ≡ true → Readable page z.stop

-- ---- the number

-- numbers that are far from the end of their type
pub record Sizes (w : Work) (z : Kept) : Type 0 where
  pub from : w.low ≤ z.stop
  pub to : z.stop ≤ z.low
  pub few : z.low ≤ 32767
  pub taken_few : z.taken ≤ most_page_bytes
  pub rest_few : z.rest ≤ most_page_bytes
  pub count_few : w.count ≤ most_entries
  pub bytes_few : w.bytes ≤ most_store_bytes

-- how many records a change lists
abbrev pub added_by : Option Change → ℕ
added_by (some c) = 1
added_by none = 0

-- Nos. 9 and 12 to 14, then `later`
abbrev pub key_verdict : ℕ → Work → List ℕ → Option Change → ℕ → ℕ
key_verdict size w k c later =
    unless out_of_turn (is_open w)
    (unless long_value (leb (length (value_of c)) (value_limit size)) (unless key_too_low (lets_in w k) (unless key_past_cutoff (below_cutoff (cutoff_of w) k) later)))

-- Nos. 15 and 16: "pending count would pass the list", "pending values would pass the store"; the base has n records
abbrev pub room_verdict : Work → Kept → ℕ → Option Change → ℕ → ℕ → ℕ
room_verdict w z n c entries bytes =
    unless list_full (leb (w.count + (z.stop - w.low) + added_by c + (n - z.low)) entries)
    (unless store_full (leb (w.bytes + z.taken + length (value_of c) + z.rest) bytes) accepted)

-- the work record after an ingest, by what the key takes up
abbrev pub ingest_work_by : Work → List ℕ → Kept → ℕ → ℕ → ℕ → Work
ingest_work_by w k z used added len =
    outcome.taken_work w k z.low used (w.filled + len) (w.count + (z.stop - w.low) + added) (w.bytes + z.taken + len)
