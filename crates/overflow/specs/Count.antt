-- Document 02, M-105: how many pages a large value takes.
use Rattle.std.specs.Prelude.{Bool, cond, ◌&&◌, ℕ, ◌+◌, ◌-◌, ◌*◌, ◌/◌, ◌≤◌, min, leb, ltb}

-- "rows and overflow pages, and M-108 with them, keep 4,096 bytes"
abbrev pub page_size : ℕ
page_size = 4096

-- "The 4,092 bytes of body"
abbrev pub body_bytes : ℕ
body_bytes = 4092

-- "1,023 numbers a page"
abbrev pub most_numbers : ℕ
most_numbers = 1023

-- "1 to 15 page numbers of 4 bytes" in a cell
abbrev pub cell_numbers : ℕ
cell_numbers = 15

-- "an empty value or one over 1,048,576 bytes" is refused
abbrev pub most_value : ℕ
most_value = 1048576

unfoldable pub size_right : ℕ → Bool
size_right n = ltb 0 n && leb n most_value

-- "t times 4,092 holds the value and 4 bytes for each page beyond the fifteenth"
abbrev pub Holds : ℕ → ℕ → Type 0
Holds t n = n + 4 * (t - cell_numbers) ≤ t * body_bytes

-- "The page count is the smallest t for which" that holds (`proofs/Counts.antt` shows it)
unfoldable pub page_count : ℕ → ℕ
page_count n = cond (leb n 61380) ((n + 4091) / 4092) ((n + 4027) / 4088)

-- how many of t numbers stand in the cell
abbrev pub in_cell : ℕ → ℕ
in_cell t = min t cell_numbers
