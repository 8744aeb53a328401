-- Document 02, M-105: the calls whole, what each answers and every lent byte after it. A refused call changes no byte; "later bytes of both buffers keep what they held" (01).
use Rattle.std.specs.Prelude.{cond, List, ◌++◌, ℕ, ◌-◌, eqb, length, take}
use Rattle.refusal.specs.Refusal.{accepted}
use Rattle.bit_ops.specs.Steps.{zeros}
use Rattle.leaf_node.specs.Build.{put}
use Rattle.leaf_model.specs.Basics.{joined}
use Rattle.overflow.specs.declared.LeafPageCount.{LeafPageCount}
use Rattle.overflow.specs.declared.LeafSplit.{LeafSplit}
use Rattle.overflow.specs.declared.LeafJoined.{LeafJoined}
use Rattle.overflow.specs.declared.LeafFreed.{LeafFreed}
use Rattle.overflow.specs.Count.{page_count}
use Rattle.overflow.specs.Written.{cell_of, split_pages}
use Rattle.overflow.specs.Read.{cell_size, cell_count, cell_numbers_read, pages_in, joined_value, freed_numbers}
use Rattle.overflow.specs.Verdict.{count_verdict, split_verdict, join_verdict, free_verdict}

-- "The page count is the smallest t .."
unfoldable pub count_of : ℕ → LeafPageCount
count_of n = cond (eqb (count_verdict n) accepted) (record { refusal = accepted; pages = page_count n }) (record { refusal = count_verdict n; pages = 0 })

-- a cell in the 100 bytes of a reply, zeros behind it
abbrev pub most_cell : ℕ
most_cell = 100

abbrev pub padded : List ℕ → List ℕ
padded c = c ++ zeros (most_cell - length c)

pub record Split : Type 0 where
  pub reply : LeafSplit
  pub area : List ℕ

module _ (value hash numbers area : List ℕ) where
  abbrev pub split_number : ℕ
  split_number = split_verdict (length value) (length numbers) (length area)

  -- the cell that a splitting writes
  abbrev pub split_cell : List ℕ
  split_cell = cell_of (length value) hash (take (page_count (length value)) numbers)

  unfoldable pub split_of : Split
  split_of = cond (eqb split_number accepted)
      (record {
        reply = record { refusal = accepted; cell = padded split_cell; cell_len = length split_cell; pages = page_count (length value) };
        area = put area 0 (joined (split_pages value numbers));
      })
      (record { reply = record { refusal = split_number; cell = zeros most_cell; cell_len = 0; pages = 0 }; area = area })

pub record Join : Type 0 where
  pub reply : LeafJoined
  pub value : List ℕ

-- "Splitting then joining gives the value"
unfoldable pub join_of : (cell pages value : List ℕ) → Join
join_of cell pages value =
    let n : ℕ = join_verdict cell pages (length value) in
    cond (eqb n accepted)
    (record { reply = record { refusal = accepted; len = cell_size cell }; value = put value 0 (joined_value (pages_in (cell_count cell) pages)) })
    (record { reply = record { refusal = n; len = 0 }; value = value })

pub record Free : Type 0 where
  pub reply : LeafFreed
  pub numbers : List ℕ

-- "freeing gives those t back, each place once, in the order of `chunk`'s pages": first the cell's, then those of the pages
unfoldable pub free_of : (cell pages numbers : List ℕ) → Free
free_of cell pages numbers =
    let n : ℕ = free_verdict cell pages (length numbers) in
    cond (eqb n accepted)
    (record { reply = record { refusal = accepted; numbers = cell_count cell }; numbers = put numbers 0 (cell_numbers_read cell ++ freed_numbers (pages_in (cell_count cell) pages)) })
    (record { reply = record { refusal = n; numbers = 0 }; numbers = numbers })
