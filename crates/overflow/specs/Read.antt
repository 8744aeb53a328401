-- Document 02, M-105: a cell and its pages, read; "all low byte first".
use Rattle.std.specs.Prelude.{Bool, true, ◌&&◌, List, [], ◌∷◌, ◌++◌, ℕ, zero, suc, ◌+◌, ◌-◌, ◌*◌, min, eqb, length, take, drop}
use Rattle.leaf_node.specs.Page.{word}
use Rattle.overflow.specs.Count.{page_size, body_bytes, most_numbers, size_right, page_count, in_cell}

unfoldable pub low_number : List ℕ → ℕ
low_number [] = 0
low_number (b ∷ bs) = b + 256 * low_number bs

-- n numbers of 4 bytes from the start of some bytes
unfoldable pub numbers_read : ℕ → List ℕ → List ℕ
numbers_read zero bs = []
numbers_read (suc n) bs = low_number (take 4 bs) ∷ numbers_read n (drop 4 bs)

-- ---- a cell

-- "an 8-byte size"
unfoldable pub cell_size : List ℕ → ℕ
cell_size c = low_number (take 8 c)

abbrev pub cell_count : List ℕ → ℕ
cell_count c = page_count (cell_size c)

-- "1 to 15 page numbers of 4 bytes"
unfoldable pub cell_numbers_read : List ℕ → List ℕ
cell_numbers_read c = numbers_read (in_cell (cell_count c)) (drop 40 c)

-- 23 of "a cell (before 22) .. that no splitting writes": its size, or a length that isn't that of its size. Any hash and any numbers are right.
unfoldable pub cell_right : List ℕ → Bool
cell_right c = size_right (cell_size c) && eqb (length c) (40 + 4 * in_cell (cell_count c))

-- ---- a page

-- "how many numbers, how many bytes, 16 bits each"
abbrev pub numbers_in : List ℕ → ℕ
numbers_in p = word p 0

abbrev pub bytes_in : List ℕ → ℕ
bytes_in p = word p 2

abbrev pub page_numbers : List ℕ → List ℕ
page_numbers p = numbers_read (numbers_in p) (drop 4 p)

abbrev pub page_bytes : List ℕ → List ℕ
page_bytes p = take (bytes_in p) (drop (4 + 4 * numbers_in p) p)

-- "then zeros"
unfoldable pub all_zero : List ℕ → Bool
all_zero [] = true
all_zero (b ∷ bs) = eqb b 0 && all_zero bs

-- "as many numbers, then bytes, as are left and fit": a page's two counts, of what is left
abbrev pub numbers_here : ℕ → ℕ
numbers_here n = min most_numbers n

abbrev pub bytes_here : ℕ → ℕ → ℕ
bytes_here n b = min (body_bytes - 4 * numbers_here n) b

-- its head has these counts, and behind its bytes are zeros
unfoldable pub page_right : ℕ → ℕ → List ℕ → Bool
page_right n b p = eqb (numbers_in p) n && (eqb (bytes_in p) b && all_zero (drop (4 + 4 * n + b) p))

-- ---- all pages, "in the order of `chunk`'s pages, in which joining and freeing take the pages"

-- the first t pages of an area
unfoldable pub pages_in : ℕ → List ℕ → List (List ℕ)
pages_in zero area = []
pages_in (suc t) area = take page_size area ∷ pages_in t (drop page_size area)

-- 23 of "a cell with its pages, that no splitting writes": n numbers and b bytes are left for these pages
unfoldable pub pages_right : ℕ → ℕ → List (List ℕ) → Bool
pages_right n b [] = true
pages_right n b (p ∷ ps) = page_right (numbers_here n) (bytes_here n b) p && pages_right (n - numbers_here n) (b - bytes_here n b) ps

unfoldable pub joined_value : List (List ℕ) → List ℕ
joined_value [] = []
joined_value (p ∷ ps) = page_bytes p ++ joined_value ps

unfoldable pub freed_numbers : List (List ℕ) → List ℕ
freed_numbers [] = []
freed_numbers (p ∷ ps) = page_numbers p ++ freed_numbers ps
