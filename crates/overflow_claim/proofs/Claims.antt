-- M-105's sentences about the calls: "Splitting then joining gives the value, and freeing gives those t back, each place once, in the order of `chunk`'s pages", and 23 exactly of "a cell
-- (before 22), or a cell with its pages, that no splitting writes". Assumes nothing.
use mathlib.Core.Path.{◌≡◌, refl, sym, ◌∙◌}
use mathlib.Core.Logic.{◌↔◌}
use mathlib.Core.Bool.{Bool, true, false, cond}
use mathlib.Core.List.{List, [], ◌++◌, append-nil}
use Prim.Native.Nat.{ℕ, zero, suc, ◌-◌, ◌*◌, ◌≤◌}
use native.Mathlib.Nat.{zero-add}
use native.Mathlib.Omega.{arith}
use lib.Dec.{leb, eqb}
use lib.ListN.{length, take, drop, length-append, length-drop, take-append-drop, drop_of_length-le}
use lib.Seq.{length-take-le, take_at, drop_at, take_all, take-append_seam, drop-drop}
use borrow.Author.Tests.{leb-true, leb-false, le-leb, eqb-true}
use Rattle.bit_ops.specs.Key.{Bytes}
use Rattle.leaf_node.specs.Build.{put}
use Rattle.bit_ops.specs.Steps.{zeros}
use Rattle.leaf_node.specs.Fits.{All, nil, cons}
use Rattle.leaf_node.proofs.Lengths.{length_zeros}
use Rattle.leaf_node.proofs.Rules.{fails}
use Rattle.leaf_model.specs.Basics.{joined}
use Rattle.leaf_model.proofs.Lists.{all_append}
use Rattle.overflow.specs.Count.{cell_numbers, page_count, in_cell}
use Rattle.overflow.specs.Written.{low_bytes, numbers_out, cell_of, pages_of, split_pages}
use Rattle.overflow.specs.Read.{low_number, numbers_read, cell_size, cell_count, cell_numbers_read, cell_right, pages_in, joined_value, freed_numbers}
use Rattle.overflow.specs.Verdict.{all_right, read_verdict}
use Rattle.overflow.specs.Outcome.{padded, Split, split_number, split_cell, split_of, join_of, free_of}
use Rattle.overflow.proofs.Counts.{the_count_holds}
use Rattle.overflow.proofs.Cells.{Right, right_cells}
use Rattle.overflow.proofs.Verdicts.{Lent, accepted_splittings, Readable, readings_that_are_right}
use Rattle.overflow.proofs.Reading.{length_numbers_read}
use Rattle.overflow_claim.specs.Written.{Number, Splits, WritesCell, Writes}
use Rattle.overflow_claim.proofs.Bytes.{low_again, numbers_again, numbers_are_small, bytes_taken, bytes_dropped}
use Rattle.overflow_claim.proofs.RoundTrips.{none_long, written_pages_are_long, pages_joined_are_the_front, Again, right_pages_are_written_again}
use Rattle.overflow_claim.proofs.Splits.{a_written_cell_is_right, readable, join_of_lem, free_of_lem}

-- ---- what the calls answer and leave

-- the cell of a reply: its first bytes
abbrev pub cell_of_reply : Split → List ℕ
cell_of_reply s = take s.reply.cell_len s.reply.cell

-- a reply says its number
number_of : (n : ℕ) (x y : Split) → y.reply.refusal ≡ n → (cond {A = Split} (eqb n 0) x y).reply.refusal ≡ 0 → n ≡ 0
number_of n x y e h = go (eqb n 0) refl h
  where
    go : (b : Bool) → eqb n 0 ≡ b → (cond {A = Split} b x y).reply.refusal ≡ 0 → n ≡ 0
    go true q z = eqb-true n 0 q
    go false q z = sym e ∙ z

module _ (value hash numbers area : List ℕ) (hashed : length hash ≡ 32) (small : All Number numbers) where
  abbrev split : Split
  split = split_of value hash numbers area

  -- not refused
  module _ (h : (split_of value hash numbers area).reply.refusal ≡ 0) where
    number : split_number value hash numbers area ≡ 0
    unfolding split_of
    number =
        number_of
        (split_number value hash numbers area)
        (record {
          reply = record { refusal = 0; cell = padded (split_cell value hash numbers area); cell_len = length (split_cell value hash numbers area); pages = page_count (length value) };
          area = put area 0 (joined (split_pages value numbers));
        })
        (record { reply = record { refusal = split_number value hash numbers area; cell = zeros 100; cell_len = 0; pages = 0 }; area = area })
        refl
        h

    lent : Lent (length value) (length numbers) (length area)
    lent = accepted_splittings (length value) (length numbers) (length area) number

    splits : Splits value hash numbers
    splits = record { some = lent.sized.some; most = lent.sized.most; hashed = hashed; listed = lent.listed; small = small }

    its_cell : cell_of_reply (split_of value hash numbers area) ≡ split_cell value hash numbers area
    unfolding split_of
    its_cell = rw (number) (take-append_seam (split_cell value hash numbers area) (zeros (100 - length (split_cell value hash numbers area))))

    its_pages : take (4096 * page_count (length value)) (split_of value hash numbers area).area ≡ joined (split_pages value numbers)
    unfolding split_of put split_pages
    its_pages =
        rw (number, zero-add (length (joined (pages_of (page_count (length value)) (drop cell_numbers (take (page_count (length value)) numbers)) value))))
        (take_at (joined (pages_of (page_count (length value)) (drop cell_numbers (take (page_count (length value)) numbers)) value))
        (drop (length (joined (pages_of (page_count (length value)) (drop cell_numbers (take (page_count (length value)) numbers)) value))) area)
        (4096 * page_count (length value))
        (written_pages_are_long (page_count (length value)) (drop cell_numbers (take (page_count (length value)) numbers)) value))

    pub splitting_then_joining_gives_the_value : (buffer : List ℕ) → length value ≤ length buffer
        → join_of (cell_of_reply (split_of value hash numbers area)) (split_of value hash numbers area).area buffer ≡ record { reply = record { refusal = 0; len = length value }; value = put buffer 0 value }
    splitting_then_joining_gives_the_value buffer l = rw its_cell (join_of_lem value hash numbers splits (split_of value hash numbers area).area its_pages buffer l)

    pub freeing_gives_the_first_t_numbers : (list : List ℕ) → page_count (length value) ≤ length list
        → free_of (cell_of_reply (split_of value hash numbers area)) (split_of value hash numbers area).area list
        ≡ record { reply = record { refusal = 0; numbers = page_count (length value) }; numbers = put list 0 (take (page_count (length value)) numbers) }
    freeing_gives_the_first_t_numbers list l = rw its_cell (free_of_lem value hash numbers splits (split_of value hash numbers area).area its_pages list l)

-- ---- a right cell is one that a splitting writes

module _ (c : List ℕ) (bs : Bytes c) (r : Right c) where
  abbrev count : ℕ
  count = cell_count c

  abbrev hash_of : List ℕ
  hash_of = take 32 (drop 8 c)

  long : 40 ≤ length c
  long = omega (arith, r.long)

  parts : low_bytes 8 (cell_size c) ++ (hash_of ++ numbers_out (cell_numbers_read c)) ≡ c
  unfolding cell_size cell_numbers_read
  parts =
      let x : low_bytes 8 (low_number (take 8 c)) ≡ take 8 c = low_again 8 (take 8 c) (length-take-le 8 c (omega (arith, long))) (bytes_taken 8 c bs) in
      let y : numbers_out (numbers_read (in_cell count) (drop 40 c)) ≡ drop 40 c = numbers_again (in_cell count) (drop 40 c) (simp length-drop (omega (arith, r.long))) (bytes_dropped 40 c bs) in
      let z : drop 40 c ≡ drop 32 (drop 8 c) = sym (drop-drop 32 8 c) in
      rw (x, y, z, take-append-drop 32 (drop 8 c)) (take-append-drop 8 c)

  module _ (value others : List ℕ) (lv : length value ≡ cell_size c) (lo : length others ≡ cell_count c - cell_numbers) (small : All Number others) where
    abbrev numbers : List ℕ
    numbers = cell_numbers_read c ++ others

    in_the_cell : length (cell_numbers_read c) ≡ in_cell count
    unfolding cell_numbers_read
    in_the_cell = length_numbers_read (in_cell count) (drop 40 c)

    all_numbers : length (cell_numbers_read c ++ others) ≡ count
    all_numbers = length-append (cell_numbers_read c) others ∙ rw (in_the_cell, lo) (omega arith)

    counted : page_count (length value) ≡ count
    counted = rw lv

    all_used : take (page_count (length value)) (cell_numbers_read c ++ others) ≡ cell_numbers_read c ++ others
    all_used = rw counted (take_all count (cell_numbers_read c ++ others) (omega (arith, all_numbers)))

    firsts : take cell_numbers (cell_numbers_read c ++ others) ≡ cell_numbers_read c
    firsts = go (leb cell_numbers count) refl
      where
        go : (b : Bool) → leb cell_numbers count ≡ b → take cell_numbers (cell_numbers_read c ++ others) ≡ cell_numbers_read c
        go true e = take_at (cell_numbers_read c) others cell_numbers (in_the_cell ∙ omega (arith, leb-true cell_numbers count e))
        go false e =
            let l = leb-false cell_numbers count e in
            rw (none_long others (omega (arith, lo, l)), append-nil (cell_numbers_read c)) (take_all cell_numbers (cell_numbers_read c) (omega (arith, in_the_cell, l)))

    rest : drop cell_numbers (cell_numbers_read c ++ others) ≡ others
    rest = go (leb cell_numbers count) refl
      where
        go : (b : Bool) → leb cell_numbers count ≡ b → drop cell_numbers (cell_numbers_read c ++ others) ≡ others
        go true e = drop_at (cell_numbers_read c) others cell_numbers (in_the_cell ∙ omega (arith, leb-true cell_numbers count e))
        go false e =
            let l = leb-false cell_numbers count e in
            let n : others ≡ [] = none_long others (omega (arith, lo, l)) in
            rw (n, append-nil (cell_numbers_read c)) (drop_of_length-le (cell_numbers_read c) {i = cell_numbers} (omega (arith, in_the_cell, l)))

    small_numbers : All Number (cell_numbers_read c)
    unfolding cell_numbers_read
    small_numbers = numbers_are_small (in_cell count) (drop 40 c) (bytes_dropped 40 c bs)

    its_splitting : Splits value hash_of (cell_numbers_read c ++ others)
    its_splitting = record {
      some = rw lv r.some;
      most = rw lv r.most;
      hashed = length-take-le 32 (drop 8 c) (simp length-drop (omega (arith, long)));
      listed = rw counted (omega (arith, all_numbers));
      small = all_append small_numbers small;
    }

    its_own_cell : c ≡ split_cell value hash_of (cell_numbers_read c ++ others) []
    unfolding cell_of
    its_own_cell = rw (all_used, firsts, lv) (sym parts)

zeros_are_small : (n : ℕ) → All Number (zeros n)
zeros_are_small zero = nil
zeros_are_small (suc n) = let z : Number 0 = omega arith in cons z (zeros_are_small n)

pub a_cell_is_right_exactly_where_a_splitting_writes_it : (c : List ℕ) → Bytes c → cell_right c ≡ true ↔ WritesCell c
a_cell_is_right_exactly_where_a_splitting_writes_it c bs = (only, if)
  where
    only : cell_right c ≡ true → WritesCell c
    only h =
        let r = right_cells c h in
        let lv = length_zeros (cell_size c) in
        let lo = length_zeros (cell_count c - cell_numbers) in
        record {
          value = zeros (cell_size c);
          hash = take 32 (drop 8 c);
          numbers = cell_numbers_read c ++ zeros (cell_count c - cell_numbers);
          splits = its_splitting c bs r (zeros (cell_size c)) (zeros (cell_count c - cell_numbers)) lv lo (zeros_are_small (cell_count c - cell_numbers));
          same = its_own_cell c bs r (zeros (cell_size c)) (zeros (cell_count c - cell_numbers)) lv lo (zeros_are_small (cell_count c - cell_numbers));
        }

    if : WritesCell c → cell_right c ≡ true
    if w = rw w.same (a_written_cell_is_right w.value w.hash w.numbers w.splits)

-- ---- and so is a right cell with right pages

number_23 : (c area : List ℕ) → 4096 * cell_count c ≤ length area → (Readable c area true → ⊥) → read_verdict c area true ≡ 23
unfolding read_verdict
number_23 c area l n = go (cell_right c) (all_right c area) refl refl
  where
    go : (a b : Bool) → cell_right c ≡ a → all_right c area ≡ b → read_verdict c area true ≡ 23
    go true true e f = absurd (n (record { right = e; fitting = refl; there = l; written = f }))
    go true false e f = rw (e, le-leb (4096 * cell_count c) (length area) l, f)
    go false b e f = rw e

module _ (c area : List ℕ) where
  what_passes_is_written : Bytes c → Bytes area → Readable c area true → Writes c area
  unfolding split_pages all_right
  what_passes_is_written bc ba p =
      let r = right_cells c p.right in
      let w : Again (cell_count c) (cell_count c - cell_numbers) (cell_size c) (pages_in (cell_count c) area) =
      right_pages_are_written_again (cell_count c) (cell_count c - cell_numbers) (cell_size c) area ba p.there p.written (the_count_holds (cell_size c)) in
      let v : List ℕ = joined_value (pages_in (cell_count c) area) in
      let o : List ℕ = freed_numbers (pages_in (cell_count c) area) in
      record {
        value = v;
        hash = take 32 (drop 8 c);
        numbers = cell_numbers_read c ++ o;
        splits = its_splitting c bc r v o w.bytes w.numbers w.small;
        same = its_own_cell c bc r v o w.bytes w.numbers w.small;
        pages = rw (all_used c bc r v o w.bytes w.numbers w.small, rest c bc r v o w.bytes w.numbers w.small, w.bytes, w.same) (sym (pages_joined_are_the_front (cell_count c) area));
      }

  what_is_written_passes : Writes c area → Readable c area true
  what_is_written_passes w = rw w.same (readable w.value w.hash w.numbers w.splits area w.pages)

  pub a_cell_with_its_pages_passes_exactly_where_a_splitting_writes_it : Bytes c → Bytes area → Readable c area true ↔ Writes c area
  a_cell_with_its_pages_passes_exactly_where_a_splitting_writes_it bc ba = (what_passes_is_written bc ba, what_is_written_passes)

  -- "with 23 a cell (before 22) .. that no splitting writes"
  pub a_cell_that_no_splitting_writes_is_refused_by_23_before_22 : Bytes c → (WritesCell c → ⊥) → (fits : Bool) → read_verdict c area fits ≡ 23
  unfolding read_verdict
  a_cell_that_no_splitting_writes_is_refused_by_23_before_22 bc n fits =
      rw (fails (cell_right c) (λ e. n ((a_cell_is_right_exactly_where_a_splitting_writes_it c bc).0 e)))

  -- "or a cell with its pages, that no splitting writes": where no buffer is too short
  pub refused_by_23_exactly_where_no_splitting_writes_it : Bytes c → Bytes area → 4096 * cell_count c ≤ length area → read_verdict c area true ≡ 23 ↔ (Writes c area → ⊥)
  refused_by_23_exactly_where_no_splitting_writes_it bc ba l = (only, if)
    where
      only : read_verdict c area true ≡ 23 → Writes c area → ⊥
      only h w = let z : ◌≡◌ {A = ℕ} 0 23 = sym (readings_that_are_right c area true (what_is_written_passes w)) ∙ h in omega arith

      if : (Writes c area → ⊥) → read_verdict c area true ≡ 23
      if n = number_23 c area l (λ p. n (what_passes_is_written bc ba p))
