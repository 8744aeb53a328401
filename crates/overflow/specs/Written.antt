-- Document 02, M-105: "the cell and page form of overflow.rs", as a splitting writes it; "all low byte first".
use Rattle.std.specs.Prelude.{List, [], ◌∷◌, ◌++◌, ℕ, zero, suc, ◌+◌, ◌-◌, ◌*◌, ◌/◌, ◌%◌, length, take, drop}
use Rattle.bit_ops.specs.Steps.{zeros}
use Rattle.overflow.specs.Count.{body_bytes, most_numbers, cell_numbers, page_count}

-- a number in n bytes, low byte first
unfoldable pub low_bytes : ℕ → ℕ → List ℕ
low_bytes zero v = []
low_bytes (suc n) v = v % 256 ∷ low_bytes n (v / 256)

-- "page numbers of 4 bytes"
unfoldable pub numbers_out : List ℕ → List ℕ
numbers_out [] = []
numbers_out (n ∷ ns) = low_bytes 4 n ++ numbers_out ns

-- "a cell of an 8-byte size, a 32-byte hash given by the caller, and 1 to 15 page numbers of 4 bytes"
unfoldable pub cell_of : ℕ → List ℕ → List ℕ → List ℕ
cell_of size hash numbers = low_bytes 8 size ++ (hash ++ numbers_out (take cell_numbers numbers))

-- "pages of a 4-byte head (how many numbers, how many bytes, 16 bits each), as many numbers, then bytes, .., then zeros"
unfoldable pub page_of : List ℕ → List ℕ → List ℕ
page_of ns bs = low_bytes 2 (length ns) ++ (low_bytes 2 (length bs) ++ (numbers_out ns ++ (bs ++ zeros (body_bytes - (4 * length ns + length bs)))))

-- "as are left and fit": t pages of the numbers and bytes that are left
unfoldable pub pages_of : ℕ → List ℕ → List ℕ → List (List ℕ)
pages_of zero ns v = []
pages_of (suc t) ns v =
    let here : List ℕ = take most_numbers ns in
    let room : ℕ = body_bytes - 4 * length here in
    page_of here (take room v) ∷ pages_of t (drop most_numbers ns) (drop room v)

-- "The caller lends the numbers; the first t are used, one a page": the cell has the first fifteen, the pages the others
unfoldable pub split_pages : List ℕ → List ℕ → List (List ℕ)
split_pages value numbers = let t : ℕ = page_count (length value) in pages_of t (drop cell_numbers (take t numbers)) value
