-- Document 01, "The three modules", No. 2: a value's place in its page.
use Rattle.std.specs.Prelude.{◌≡◌, ℕ, ◌+◌, List}
use Rattle.leaf_node.specs.declared.Cell.{Cell}
use Rattle.leaf_node.specs.Page.{start, length_at, flag_at}

-- "a value as offset, length and flag"
unfoldable pub cell_at : List ℕ → ℕ → Cell
cell_at p i = record { offset = start p i; len = length_at p i; flag = flag_at p i }

-- a cell of the page, with its fields for the callers' sums
abbrev pub CellOf : List ℕ → ℕ → Cell → Type 0
CellOf p i c = (c ≡ cell_at p i) × (c.offset ≡ start p i) × (c.offset + c.len ≡ start p (i + 1)) × (c.len ≡ length_at p i) × (c.flag ≡ flag_at p i)
