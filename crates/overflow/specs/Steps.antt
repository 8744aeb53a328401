-- What the functions below the calls require and find.
use Rattle.std.specs.Prelude.{◌≡◌, true, false, List, ℕ, ◌+◌, ◌*◌, ◌≤◌, ◌<◌, length, Result, Ok, Err}
use Rattle.refusal.specs.declared.Refusal.{Refusal}
use Rattle.refusal.specs.declared.Refusal.TheVariants.{BadOverflow}
use Rattle.overflow.specs.declared.Decoded.{Decoded}
use Rattle.overflow.specs.Count.{most_value, in_cell}
use Rattle.overflow.specs.Read.{cell_size, cell_count, cell_right}

-- a cell that a splitting writes, in numbers: its size and its page count
pub record RightCell (c : List ℕ) (size count : ℕ) : Type 0 where
  pub right : cell_right c ≡ true
  pub sized : size ≡ cell_size c
  pub counted : count ≡ cell_count c
  pub some : 0 < size
  pub most : size ≤ most_value
  pub few : count ≤ 257
  pub long : length c ≡ 40 + 4 * in_cell count

-- any other, and its refusal
pub record WrongCell (c : List ℕ) (r : Refusal) : Type 0 where
  pub wrong : cell_right c ≡ false
  pub refused : r ≡ BadOverflow

-- what is read of a cell: of a right one its size and page count
abbrev pub CellRead : List ℕ → Result Decoded Refusal → Type 0
CellRead c (Ok d) = RightCell c d.size d.pages.0
CellRead c (Err r) = WrongCell c r
