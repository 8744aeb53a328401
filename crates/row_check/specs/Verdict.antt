-- Document 02, M-101: the numbers by which a row is refused, one row of the table each, the lowest first; 0 where it isn't.
use Rattle.std.specs.Prelude.{Bool, true, cond, ◌&&◌, List, [], ◌∷◌, ℕ, ◌*◌, eqb, leb, ltb, length, take, drop}
use Rattle.refusal.specs.Refusal.{accepted, page_length, room_length, no_such_index, long_value, key_too_low, short_area, long_row}
use Rattle.leaf_node.specs.Limits.{value_limit}
use Rattle.leaf_model.specs.Work.{zero_key}
use Rattle.leaf_work.specs.Tests.{same_bytes}
use Rattle.leaf_work.specs.Lent.{room_right}
use Rattle.leaf_work.specs.Verdict.{unless, first, base_verdict}
use Rattle.row_turns.specs.Row.{RowLeaf, cutoff_by}
use Rattle.row_turns.specs.Changes.{row_pages_asked}
use Rattle.row_changes.specs.Tests.{values_length, lengths_fit, keys_rising, put_bodies}

-- the row that pages and separators are, one behind the other
abbrev pub row_of : ℕ → List ℕ → List (List ℕ) → List RowLeaf
row_of size pages [] = []
row_of size pages (s ∷ ss) = record { separator = s; page = take size pages } ∷ row_of size (drop size pages) ss

-- ---- Nos. 1 to 6

-- "with 1 a row not of whole pages or without one separator each"
abbrev pub whole_pages : ℕ → ℕ → ℕ → Bool
whole_pages size pages separators = eqb pages (separators * size)

-- document 01: "Several apply: the lowest number." Of two, where 0 is none.
unfoldable pub lower : ℕ → ℕ → ℕ
lower v w = cond (eqb v accepted) w (cond (eqb w accepted) v (cond (ltb w v) w v))

-- Nos. 2 to 5 of every page, "with 6 one that doesn't rise": a separator that isn't below the next, or a key outside them. The lowest number over all
-- leaves, v being that of those before.
abbrev pub leaves_verdict : ℕ → ℕ → List RowLeaf → ℕ
leaves_verdict size v [] = v
leaves_verdict size v (x ∷ xs) = leaves_verdict size (lower v (base_verdict size x.page x.separator (cutoff_by xs))) xs

-- Nos. 1 to 6, then what the later rows say
abbrev pub pages_verdict : ℕ → List ℕ → List (List ℕ) → ℕ → ℕ
pages_verdict size pages separators later =
    unless page_length (whole_pages size (length pages) (length separators)) (first (leaves_verdict size accepted (row_of size pages separators)) later)

-- ---- No. 18

-- "a row of at most 16 pages"
abbrev pub most_leaves : ℕ
most_leaves = 16

-- "the first all zeros"
abbrev pub starts_at_zero : List (List ℕ) → Bool
starts_at_zero [] = true
starts_at_zero (s ∷ ss) = same_bytes s zero_key

-- "with 18 one that starts above zero or is too long"
abbrev pub short_from_zero : List (List ℕ) → Bool
short_from_zero separators = leb (length separators) most_leaves && starts_at_zero separators

-- what refuses a row alone; document 02, M-104: "It refuses a row as M-101 does"
unfoldable pub lent_row_verdict : ℕ → List ℕ → List (List ℕ) → ℕ
lent_row_verdict size pages separators = pages_verdict size pages separators (unless long_row (short_from_zero separators) accepted)

-- ---- the row call

-- "The call asks for twice the old pages, plus the inserted bodies / 2047 rounded up, with 65 ticket bytes a page.": of n old pages and inserted bodies of b
abbrev pub row_has_pages : ℕ → ℕ → ℕ → ℕ → ℕ → Bool
row_has_pages size n b area tickets = leb (row_pages_asked size n b * size) area && leb (row_pages_asked size n b * 65) tickets

-- Nos. 7, 10, 12, 13, 17 and 18. List, store, value buffer, area and tickets are given by their lengths.
unfoldable pub call_verdict : ℕ → ℕ → ℕ → List (List ℕ) → List (List ℕ) → ℕ → ℕ → ℕ → ℕ
call_verdict size list store separators changes values area tickets =
    unless room_length (room_right size list store)
    (unless no_such_index (leb (values_length changes) values)
    (unless long_value (lengths_fit (value_limit size) changes)
    (unless key_too_low (keys_rising changes)
    (unless short_area (row_has_pages size (length separators) (put_bodies changes) area tickets)
    (unless long_row (short_from_zero separators) accepted)))))

-- all of it, but for what comes in the middle of the turns
unfoldable pub row_verdict : ℕ → ℕ → ℕ → List ℕ → List (List ℕ) → List (List ℕ) → ℕ → ℕ → ℕ → ℕ
row_verdict size list store pages separators changes values area tickets =
    pages_verdict size pages separators (call_verdict size list store separators changes values area tickets)
