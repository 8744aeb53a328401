-- Document 02, M-105: cells, and cells with their pages, that a splitting writes.
use Rattle.std.specs.Prelude.{◌≡◌, List, [], ℕ, ◌*◌, ◌≤◌, ◌<◌, length, take}
use Rattle.leaf_node.specs.Fits.{All}
use Rattle.leaf_model.specs.Basics.{joined}
use Rattle.overflow.specs.Count.{page_size, most_value, page_count}
use Rattle.overflow.specs.Written.{split_pages}
use Rattle.overflow.specs.Outcome.{split_cell}

-- a number of 4 bytes
abbrev pub Number : ℕ → Type 0
Number n = n < 4294967296

-- what a splitting that isn't refused is lent, but for the area
pub record Splits (value hash numbers : List ℕ) : Type 0 where
  pub some : 0 < length value
  pub most : length value ≤ most_value
  pub hashed : length hash ≡ 32
  pub listed : page_count (length value) ≤ length numbers
  pub small : All Number numbers

-- "a cell .. that .. splitting writes"
pub record WritesCell (cell : List ℕ) : Type 0 where
  pub value : List ℕ
  pub hash : List ℕ
  pub numbers : List ℕ
  pub splits : Splits value hash numbers
  pub same : cell ≡ split_cell value hash numbers []

-- "a cell with its pages, that .. splitting writes": the pages stand in the front of an area
pub record Writes (cell area : List ℕ) : Type 0 where
  pub value : List ℕ
  pub hash : List ℕ
  pub numbers : List ℕ
  pub splits : Splits value hash numbers
  pub same : cell ≡ split_cell value hash numbers []
  pub pages : take (page_size * page_count (length value)) area ≡ joined (split_pages value numbers)
