-- Document 02, M-105: "It refuses, after 20, with 21 an empty value or one over 1,048,576 bytes, with 22 a number list, value buffer or page area that is too short, and with
-- 23 a cell (before 22), or a cell with its pages, that no splitting writes."
use Rattle.std.specs.Prelude.{Bool, cond, ◌&&◌, List, ℕ, ◌-◌, ◌*◌, leb, length}
use Rattle.refusal.specs.Refusal.{accepted, overflow_length, short_buffer, bad_overflow}
use Rattle.overflow.specs.Count.{page_size, cell_numbers, size_right, page_count}
use Rattle.overflow.specs.Read.{cell_size, cell_count, cell_right, pages_in, pages_right}

-- 21
unfoldable pub count_verdict : ℕ → ℕ
count_verdict n = cond (size_right n) accepted overflow_length

-- 21 of a value of n bytes, then 22 of so many numbers and an area of so many bytes
unfoldable pub split_verdict : ℕ → ℕ → ℕ → ℕ
split_verdict n numbers area = cond (size_right n) (cond (leb (page_count n) numbers && leb (page_size * page_count n) area) accepted short_buffer) overflow_length

-- every page of a right cell is as a splitting writes it
unfoldable pub all_right : List ℕ → List ℕ → Bool
all_right cell pages = pages_right (cell_count cell - cell_numbers) (cell_size cell) (pages_in (cell_count cell) pages)

-- 23 of the cell, then 22 (`fits`: what is lent for the answer is long enough), then 23 of the pages
unfoldable pub read_verdict : List ℕ → List ℕ → Bool → ℕ
read_verdict cell pages fits =
    cond (cell_right cell) (cond (fits && leb (page_size * cell_count cell) (length pages)) (cond (all_right cell pages) accepted bad_overflow) short_buffer) bad_overflow

-- joining into a buffer of so many bytes
abbrev pub join_verdict : List ℕ → List ℕ → ℕ → ℕ
join_verdict cell pages room = read_verdict cell pages (leb (cell_size cell) room)

-- freeing into a list of so many places
abbrev pub free_verdict : List ℕ → List ℕ → ℕ → ℕ
free_verdict cell pages places = read_verdict cell pages (leb (cell_count cell) places)
