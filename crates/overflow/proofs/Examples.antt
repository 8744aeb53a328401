-- Computed examples of M-105: page counts and sizes at their edges, a cell and a page byte by byte, and each refusal. Assumes nothing.
use mathlib.Core.Path.{◌≡◌, refl}
use mathlib.Core.Bool.{true, false}
use mathlib.Core.List.{List, [], ◌∷◌, ◌++◌}
use Prim.Native.Nat.{ℕ}
use lib.ListN.{length, take}
use Rattle.bit_ops.specs.Steps.{zeros}
use Rattle.leaf_node.specs.Page.{word}
use Rattle.leaf_node.specs.Build.{put}
use Rattle.overflow.specs.Count.{size_right, page_count}
use Rattle.overflow.specs.Written.{low_bytes, numbers_out, cell_of, page_of}
use Rattle.overflow.specs.Read.{low_number, numbers_read, cell_size, cell_numbers_read, cell_right, all_zero, page_right, pages_in, pages_right, joined_value, freed_numbers}
use Rattle.overflow.specs.Verdict.{split_verdict, all_right, read_verdict}
use Rattle.overflow.specs.Outcome.{join_of, free_of}

pub record Counts : Type 0 where
  pub full : page_count 4092 ≡ 1
  pub over : page_count 4093 ≡ 2
  pub in_the_cell : page_count 61380 ≡ 15
  pub beyond : page_count 61381 ≡ 16
  pub with_a_number : page_count 65468 ≡ 16
  pub one_more : page_count 65469 ≡ 17
  pub most : page_count 1048576 ≡ 257
  pub empty : size_right 0 ≡ false
  pub longest : size_right 1048576 ≡ true
  pub too_long : size_right 1048577 ≡ false

pub counts_are_computed : Counts
unfolding page_count size_right
counts_are_computed = record {
  full = refl;
  over = refl;
  in_the_cell = refl;
  beyond = refl;
  with_a_number = refl;
  one_more = refl;
  most = refl;
  empty = refl;
  longest = refl;
  too_long = refl;
}

-- size 300, a hash of two bytes, number 513
pub record Written : Type 0 where
  pub cell : cell_of 300 (6 ∷ 7 ∷ []) (513 ∷ []) ≡ 44 ∷ 1 ∷ 0 ∷ 0 ∷ 0 ∷ 0 ∷ 0 ∷ 0 ∷ 6 ∷ 7 ∷ 1 ∷ 2 ∷ 0 ∷ 0 ∷ []
  pub fifteen : length (cell_of 1 [] (zeros 16)) ≡ 68
  pub page : take 12 (page_of (258 ∷ []) (9 ∷ 8 ∷ [])) ≡ 1 ∷ 0 ∷ 2 ∷ 0 ∷ 2 ∷ 1 ∷ 0 ∷ 0 ∷ 9 ∷ 8 ∷ 0 ∷ 0 ∷ []

pub cells_and_pages_are_written : Written
unfolding low_bytes numbers_out cell_of page_of
cells_and_pages_are_written = record { cell = refl; fifteen = refl; page = refl }

-- the cell of a value of two bytes, with number 77, and its page
abbrev cell : List ℕ
cell = 2 ∷ 0 ∷ 0 ∷ 0 ∷ 0 ∷ 0 ∷ 0 ∷ 0 ∷ (zeros 32 ++ (77 ∷ 0 ∷ 0 ∷ 0 ∷ []))

-- b behind the value
abbrev page : ℕ → List ℕ
page b = 0 ∷ 0 ∷ 2 ∷ 0 ∷ 5 ∷ 6 ∷ b ∷ zeros 4089

pub record Numbers : Type 0 where
  pub empty_value : split_verdict 0 0 0 ≡ 21
  pub no_numbers : split_verdict 1 0 4096 ≡ 22
  pub short_area_lem : split_verdict 1 1 4095 ≡ 22
  pub enough : split_verdict 1 1 4096 ≡ 0
  pub no_cell : read_verdict [] [] false ≡ 23
  pub short_buffer_lem : read_verdict cell (page 1) false ≡ 22
  pub short_pages : read_verdict cell (zeros 4095) true ≡ 22
  pub tail : read_verdict cell (page 1) true ≡ 23
  pub right : read_verdict cell (page 0) true ≡ 0

pub refusals_are_computed : Numbers
unfolding page_count size_right split_verdict read_verdict all_right cell_right cell_size low_number pages_in pages_right page_right all_zero word
refusals_are_computed = record {
  empty_value = refl;
  no_numbers = refl;
  short_area_lem = refl;
  enough = refl;
  no_cell = refl;
  short_buffer_lem = refl;
  short_pages = refl;
  tail = refl;
  right = refl;
}

pub record Answers : Type 0 where
  pub value : (join_of cell (page 0) (1 ∷ 2 ∷ 3 ∷ [])).value ≡ 5 ∷ 6 ∷ 3 ∷ []
  pub numbers : (free_of cell (page 0) (1 ∷ 2 ∷ [])).numbers ≡ 77 ∷ 2 ∷ []

pub answers_are_computed : Answers
unfolding page_count size_right read_verdict all_right cell_right cell_size cell_numbers_read low_number numbers_read pages_in pages_right page_right all_zero word joined_value freed_numbers join_of free_of put
answers_are_computed = record { value = refl; numbers = refl }
