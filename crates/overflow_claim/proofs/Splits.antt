-- What a splitting answers and leaves, joined and freed; and what no splitting writes. Assumes nothing.
use mathlib.Core.Path.{◌≡◌, refl, sym, ◌∙◌}
use mathlib.Core.Bool.{true}
use mathlib.Core.List.{List, [], ◌++◌, append_assoc, append-nil}
use Prim.Native.Nat.{ℕ, ◌+◌, ◌-◌, ◌*◌, ◌^◌, ◌≤◌, ◌<◌}
use native.Mathlib.Omega.{arith}
use lib.Dec.{leb}
use lib.ListN.{length, take, drop, length-append, length-take, length-drop, take-append-drop}
use lib.Seq.{length-take-le, take_at, drop_at}
use borrow.Author.Tests.{le-leb, eq-eqb}
use Rattle.leaf_node.specs.Build.{put}
use Rattle.leaf_model.specs.Basics.{joined}
use Rattle.overflow.specs.Count.{cell_numbers, page_count, in_cell}
use Rattle.overflow.specs.Written.{low_bytes, numbers_out, cell_of, pages_of, split_pages}
use Rattle.overflow.specs.Read.{cell_size, cell_count, cell_numbers_read, cell_right, pages_in, joined_value, freed_numbers}
use Rattle.overflow.specs.Verdict.{all_right}
use Rattle.overflow.specs.Outcome.{join_of, free_of}
use Rattle.overflow.proofs.Counts.{sizes_are_right, the_count_holds}
use Rattle.overflow.proofs.Numbers.{length_low}
use Rattle.overflow.proofs.Cells.{length_cell}
use Rattle.overflow.proofs.Verdicts.{Readable, readings_that_are_right}
use Rattle.overflow_claim.specs.Written.{Splits}
use Rattle.overflow_claim.proofs.Bytes.{low_back, numbers_back}
use Rattle.overflow_claim.proofs.RoundTrips.{all_taken, all_dropped, written_pages_are_read, written_pages_are_long, written_pages_are_right, joining_gives_the_value, freeing_gives_the_numbers, pages_of_a_front}

-- ---- the cell that a splitting writes

module _ (value hash numbers : List ℕ) (s : Splits value hash numbers) where
  abbrev t : ℕ
  t = page_count (length value)

  abbrev used : List ℕ
  used = take t numbers

  abbrev cell : List ℕ
  cell = cell_of (length value) hash used

  length_used : length used ≡ t
  length_used = length-take-le t numbers s.listed

  small_size : length value < 256 ^ 8
  small_size = omega (arith, s.most)

  pub a_written_cell_says_the_size : cell_size cell ≡ length value
  unfolding cell_size cell_of
  a_written_cell_says_the_size =
      rw (take_at (low_bytes 8 (length value)) (hash ++ numbers_out (take cell_numbers used)) 8 (length_low 8 (length value))) (low_back 8 (length value) small_size)

  pub a_written_cell's_length : length cell ≡ 40 + 4 * in_cell t
  a_written_cell's_length = length_cell (length value) hash used s.hashed ∙ rw length_used (omega arith)

  pub a_written_cell_is_right : cell_right cell ≡ true
  unfolding cell_right
  a_written_cell_is_right =
      rw (
        a_written_cell_says_the_size,
        sizes_are_right (length value) s.some s.most,
        eq-eqb (length cell) (40 + 4 * in_cell t) a_written_cell's_length,
      )

  behind_the_hash : drop 40 cell ≡ numbers_out (take cell_numbers used)
  unfolding cell_of
  behind_the_hash =
      rw (← (append_assoc (low_bytes 8 (length value)) hash (numbers_out (take cell_numbers used))))
      (drop_at (low_bytes 8 (length value) ++ hash) (numbers_out (take cell_numbers used)) 40 (simp (length-append, length_low) (omega (arith, s.hashed))))

  pub a_written_cell_says_its_numbers : cell_numbers_read cell ≡ take cell_numbers used
  unfolding cell_numbers_read
  a_written_cell_says_its_numbers =
      let l : in_cell t ≡ length (take cell_numbers used) = sym (length-take cell_numbers used ∙ rw length_used (omega arith)) in
      rw (a_written_cell_says_the_size, behind_the_hash, l, ← (append-nil (numbers_out (take cell_numbers used)))) (numbers_back (all_taken cell_numbers (all_taken t s.small)) [])

  -- ---- its pages

  length_others : length (drop cell_numbers used) ≡ t - cell_numbers
  length_others = length-drop cell_numbers used ∙ rw length_used

  room : length value + 4 * length (drop cell_numbers used) ≤ t * 4092
  room = rw length_others (the_count_holds (length value))

  module _ (area : List ℕ) (e : take (4096 * t) area ≡ joined (split_pages value numbers)) where
    pages_there : pages_in t area ≡ pages_of t (drop cell_numbers used) value
    unfolding split_pages
    pages_there =
        sym (pages_of_a_front t area) ∙ rw (e, ← (append-nil (joined (pages_of t (drop cell_numbers used) value)))) (written_pages_are_read t (drop cell_numbers used) value [])

    area_long : 4096 * t ≤ length area
    unfolding split_pages
    area_long =
        let l : length (take (4096 * t) area) ≡ 4096 * t = rw e (written_pages_are_long t (drop cell_numbers used) value) in
        omega (arith, l, length-take (4096 * t) area)

    all_right_lem : all_right cell area ≡ true
    unfolding all_right
    all_right_lem = rw (a_written_cell_says_the_size, pages_there, ← length_others) (written_pages_are_right t (drop cell_numbers used) value)

    pub readable : Readable cell area true
    readable = record {
      right = a_written_cell_is_right;
      fitting = refl;
      there = rw a_written_cell_says_the_size area_long;
      written = all_right_lem;
    }

    -- what joining and freeing read
    read_value : joined_value (pages_in (cell_count cell) area) ≡ value
    read_value = rw (a_written_cell_says_the_size, pages_there) (joining_gives_the_value t (drop cell_numbers used) value room)

    read_numbers : (cell_numbers_read cell ++ freed_numbers (pages_in (cell_count cell) area)) ≡ used
    read_numbers =
        rw (
          a_written_cell_says_its_numbers,
          a_written_cell_says_the_size,
          pages_there,
          freeing_gives_the_numbers t (drop cell_numbers used) value (all_dropped cell_numbers (all_taken t s.small)) room,
        ) (take-append-drop cell_numbers used)

    pub join_of_lem : (buffer : List ℕ) → length value ≤ length buffer → join_of cell area buffer ≡ record { reply = record { refusal = 0; len = length value }; value = put buffer 0 value }
    unfolding join_of
    join_of_lem buffer h =
        let f : leb (cell_size cell) (length buffer) ≡ true = rw a_written_cell_says_the_size (le-leb (length value) (length buffer) h) in
        rw (f, readings_that_are_right cell area true readable, read_value, a_written_cell_says_the_size)

    pub free_of_lem : (list : List ℕ) → t ≤ length list → free_of cell area list ≡ record { reply = record { refusal = 0; numbers = t }; numbers = put list 0 used }
    unfolding free_of
    free_of_lem list h =
        let f : leb (cell_count cell) (length list) ≡ true = rw a_written_cell_says_the_size (le-leb t (length list) h) in
        rw (f, readings_that_are_right cell area true readable, read_numbers, a_written_cell_says_the_size)
