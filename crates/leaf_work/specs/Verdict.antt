-- Document 01, "Refusals by number": the number that each call answers, one row of the table each, the lowest first; 0 where it is accepted.
use Rattle.std.specs.Prelude.{Bool, true, false, not, ◌&&◌, cond, List, [], ℕ, ◌+◌, ◌*◌, eqb, leb, length}
use Rattle.std.proofs.Math.Option.{Option}
use Rattle.refusal.specs.Refusal.{accepted, bad_bounds, room_length, unsound, out_of_turn, long_value, key_too_low, key_past_cutoff, list_full, store_full, short_area}
use Rattle.bit_ops.specs.Key.{lt_key}
use Rattle.leaf_node.specs.Limits.{pages_asked}
use Rattle.leaf_node.specs.Record.{Record, body, total}
use Rattle.leaf_node.specs.Page.{records}
use Rattle.leaf_node.specs.Good.{page_verdict}
use Rattle.leaf_model.specs.Work.{Change, below_cutoff, change_fits}
use Rattle.leaf_work.specs.declared.Work.{Work}
use Rattle.leaf_work.specs.declared.Entry.{Entry}
use Rattle.leaf_work.specs.Tests.{is_set, key_if}
use Rattle.leaf_work.specs.Lent.{room_right, is_open, is_waiting, cutoff_of, reads_base, regarded}
use Rattle.leaf_work.specs.Sound.{keys_within, sound, lets_in}
use Rattle.leaf_work.specs.TakingUp.{count_after, bytes_after, rest_after}

-- one row of the table: n, unless the test holds; then what the later rows say
abbrev pub unless : ℕ → Bool → ℕ → ℕ
unless n true later = later
unless n false later = n

-- rows that were gone through, then the later ones
abbrev pub first : ℕ → ℕ → ℕ
first v later = elim (eqb v accepted) [ true ↦ later | false ↦ v ]

-- ---- the page, Nos. 1 to 6

-- No. 6 of an opening and a next base: "cutoff not above separator, or base key outside them"
unfoldable pub base_verdict : ℕ → List ℕ → List ℕ → Option (List ℕ) → ℕ
base_verdict size page separator cutoff =
    first (page_verdict size page) (unless bad_bounds (below_cutoff cutoff separator && keys_within separator cutoff (records page)) accepted)

-- "Beyond opening and next base, 6 speaks only of the lent page's keys against its separator and the work's cutoff."
unfoldable pub keys_verdict : ℕ → List ℕ → List ℕ → Option (List ℕ) → ℕ
keys_verdict size page separator cutoff = first (page_verdict size page) (unless bad_bounds (keys_within separator cutoff (records page)) accepted)

-- Nos. 1 to 6 of a lent page, which is tested only where the work reads it
abbrev pub lent_page_verdict : ℕ → Work → List ℕ → ℕ
lent_page_verdict size w page = cond (reads_base w) (keys_verdict size page w.latest (cutoff_of w)) accepted

-- Nos. 1 to 8 of a call that is lent work, list, store and page
unfoldable pub lent_verdict : ℕ → Work → List Entry → List ℕ → List ℕ → ℕ
lent_verdict size w list store page =
    first (lent_page_verdict size w page)
    (unless room_length (room_right size (length list) (length store))
    (unless unsound (sound size w list store (regarded w page)) accepted))

-- ---- opening

-- "Opening: with a base (page, separator, optional cutoff), or with none and no cutoff."
pub data Opening : Type 0 where
  with_base_lem : (page separator : List ℕ) (cut : Bool) (cutoff : List ℕ) → Opening
  with_none : (cut : Bool) → Opening

unfoldable pub open_verdict : ℕ → Opening → List Entry → List ℕ → ℕ
open_verdict size (with_base_lem page separator cut cutoff) list store =
    first (base_verdict size page separator (key_if cut cutoff)) (unless room_length (room_right size (length list) (length store)) accepted)
open_verdict size (with_none cut) list store = unless bad_bounds (not cut) (unless room_length (room_right size (length list) (length store)) accepted)

-- ---- ingest and digest: `page` as the work regards it, `lent` the number that the lent things earn

unfoldable pub ingest_verdict : ℕ → Work → List Entry → List ℕ → List ℕ → List ℕ → Option Change → ℕ → ℕ
ingest_verdict size w list store page k c lent =
    first lent
    (unless out_of_turn (is_open w)
    (unless long_value (change_fits size c)
    (unless key_too_low (lets_in w k)
    (unless key_past_cutoff (below_cutoff (cutoff_of w) k)
    (unless list_full (leb (count_after w page k c + length (rest_after w page k)) (length list))
    (unless store_full (leb (bytes_after w page k c + total (rest_after w page k)) (length store)) accepted))))))

-- "B / 2047, rounded up, is the number of pages that digest asks for, with 65 ticket bytes a page."
abbrev pub has_pages : ℕ → List Record → List ℕ → List ℕ → Bool
has_pages size pending area tickets =
    leb (pages_asked size (body pending) * size) (length area) && leb (pages_asked size (body pending) * 65) (length tickets)

unfoldable pub digest_verdict : ℕ → Work → List Record → List ℕ → List ℕ → ℕ → ℕ
digest_verdict size w pending area tickets lent = first lent (unless out_of_turn (is_open w) (unless short_area (has_pages size pending area tickets) accepted))

-- ---- next base and cutoff removal

-- "both refuse an open work with 9 without testing 8": Nos. 7 to 9, then what the later rows say. The page is none, since a work that waits
-- or is done ignores it.
abbrev pub closed_verdict : ℕ → Work → List Entry → List ℕ → ℕ → ℕ
closed_verdict size w list store later =
    unless room_length (room_right size (length list) (length store)) (unless out_of_turn (not (is_open w)) (unless unsound (sound size w list store []) later))

-- "separator at or above that cutoff"
abbrev pub reaches : Work → List ℕ → Bool
reaches w separator = not (lt_key separator w.cutoff)

-- "when done after a digest that had a cutoff"; then the separator, and the room for the new page's records
abbrev pub follows_verdict : Work → List ℕ → List ℕ → ℕ → ℕ → ℕ
follows_verdict w page separator entries bytes =
    unless out_of_turn (is_set w.cut)
    (unless key_too_low (reaches w separator)
    (unless list_full (leb (w.count + length (records page)) entries)
    (unless store_full (leb (w.bytes + total (records page)) bytes) accepted)))

unfoldable pub next_base_verdict : ℕ → Work → List Entry → List ℕ → List ℕ → List ℕ → Option (List ℕ) → ℕ
next_base_verdict size w list store page separator cutoff =
    first (base_verdict size page separator cutoff) (closed_verdict size w list store (follows_verdict w page separator (length list) (length store)))

unfoldable pub remove_verdict : ℕ → Work → List Entry → List ℕ → ℕ
remove_verdict size w list store = closed_verdict size w list store (unless out_of_turn (is_waiting w) accepted)
