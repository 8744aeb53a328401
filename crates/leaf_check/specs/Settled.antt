-- Soundness as the code tests it: the work record alone, the pass over the entries, then what they come to. `proofs/Decided.antt` shows that
-- this is `sound` of leaf_work, which is what document 01 asks.
use Rattle.std.specs.Prelude.{Bool, true, false, not, ◌&&◌, ◌||◌, List, ℕ, ◌+◌, ◌-◌, ◌*◌, ◌<◌, eqb, leb, ltb, length, drop}
use Rattle.std.specs.Option.{option_map_or}
use Rattle.leaf_node.specs.Limits.{value_limit, merge_below}
use Rattle.leaf_node.specs.Page.{count, key_at, values_size}
use Rattle.leaf_node.specs.Good.{Good}
use Rattle.leaf_model.specs.Work.{above_last, below_cutoff}
use Rattle.leaf_work.specs.declared.Work.{Work}
use Rattle.leaf_work.specs.declared.Entry.{Entry}
use Rattle.leaf_work.specs.Tests.{every, implies, is_zero, is_set}
use Rattle.leaf_work.specs.Lent.{is_waiting, is_done, cutoff_of, last_of, separator_of}
use Rattle.leaf_work.specs.Sound.{lets_in, known_turn, known_flags, last_below, cutoff_right, floor_above, floor_at_turn, absent_zero}
use Rattle.leaf_pass.specs.declared.Tally.{Tally}
use Rattle.leaf_pass.specs.declared.Bounds.{Bounds}
use Rattle.leaf_pass.specs.Pass.{is_behind, passed_all, begun}

-- a page as a work regards it: a good one, or no bytes
pub record Regardable (size : ℕ) (page : List ℕ) : Type 0 where
  pub good : 0 < length page → Good size page

abbrev pub bounds_of : ℕ → Work → Bounds
bounds_of size w = record { used = w.used; filled = w.filled; low = w.low; most = value_limit size }

-- ---- what the entries come to

-- the values end where the work record says, the gauge agrees, and the last listed key is not let in
unfoldable pub listed_right : Work → Tally → Bool
listed_right w z =
    eqb w.filled z.end && (eqb w.count z.count && (eqb w.bytes z.bytes && (is_zero z.count || not (lets_in w z.last))))

-- a waiting work
unfoldable pub waiting_fits : ℕ → Work → Tally → Bool
waiting_fits size w z =
    eqb z.inserts w.used && (is_set w.over && (is_set w.cut && (ltb 0 (34 * z.count + z.bytes) && ltb (34 * z.count + z.bytes) (merge_below size))))

-- override, waiting, done; the base has n records
unfoldable pub turn_right : ℕ → Work → Tally → ℕ → Bool
turn_right size w z n =
    implies (is_set w.over) (ltb 0 z.inserts) && (implies (is_waiting w) (waiting_fits size w z) && implies (is_done w) (is_zero z.count && leb n w.low))

-- room for what is pending
unfoldable pub room_for : Work → Tally → List ℕ → ℕ → ℕ → Bool
room_for w z page entries bytes =
    leb (z.count + (count page - w.low)) entries && leb (z.bytes + values_size page w.low (count page)) bytes

-- the base's rest stands behind the list and above the last key taken; the last pending key is below the cutoff
unfoldable pub rest_right : Work → Tally → List ℕ → Bool
rest_right w z page = elim (ltb w.low (count page)) [
  | true ↦ is_behind z.count z.last (key_at page w.low)
      && (above_last (last_of w) (key_at page w.low) && below_cutoff (cutoff_of w) (key_at page (count page - 1)))
  | false ↦ is_zero z.count || below_cutoff (cutoff_of w) z.last
]

-- the entries come to what the work record says
unfoldable pub pass_right : ℕ → Work → Tally → List ℕ → ℕ → ℕ → Bool
pass_right size w z page entries bytes =
    listed_right w z && (turn_right size w z (count page) && (room_for w z page entries bytes && rest_right w z page))

-- ---- all of it

unfoldable pub record_right : Work → Bool
record_right w = (known_turn w && (known_flags w && (last_below w && cutoff_right w))) && ((floor_above w && floor_at_turn w) && absent_zero w)

abbrev pub within : Work → ℕ → ℕ → ℕ → Bool
within w entries bytes n = leb w.used entries && (leb w.filled bytes && leb w.low n)

-- the entries one by one, and what they come to
unfoldable pub entries_sound : ℕ → Work → List Entry → List ℕ → ℕ → Bool
entries_sound size w list page bytes =
    option_map_or (λ z. pass_right size w z page (length list) bytes) (passed_all (bounds_of size w) page (begun (separator_of w)) list) false

unfoldable pub sound_by : ℕ → Work → List Entry → List ℕ → List ℕ → Bool
sound_by size w list store page =
    record_right w
    && (within w (length list) (length store) (count page)
    && (every is_zero (drop w.filled store) && entries_sound size w list page (length store)))
