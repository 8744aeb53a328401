-- Cells: what `encode_cell` writes and `decode_cell` answers. Assumes nothing.
use mathlib.Core.Path.{◌≡◌, refl, ◌∙◌}
use mathlib.Core.Bool.{Bool, true, false, ◌&&◌}
use mathlib.Core.List.{List, ◌++◌, append_assoc}
use Prim.Native.Nat.{ℕ, zero, suc, ◌+◌, ◌-◌, ◌*◌, ◌≤◌, ◌<◌, min}
use native.Mathlib.Nat.{zero-add, sub-zero}
use native.Mathlib.Omega.{arith}
use lib.Dec.{eqb}
use Rattle.std.specs.Int.{w64, to_le_bytes}
use lib.ListN.{length, drop, length-append, length-take}
use lib.Seq.{take_all}
use borrow.Author.Tests.{eqb-true, eq-eqb, ne_eqb}
use Rattle.leaf_node.proofs.Rules.{both}
use Rattle.refusal.specs.declared.Refusal.{Refusal}
use Rattle.refusal.specs.declared.Refusal.TheVariants.{BadOverflow}
use Rattle.refusal.specs.Numbers.{number}
use Rattle.bit_ops.specs.Steps.{zeros}
use Rattle.leaf_node.specs.Build.{put}
use Rattle.leaf_builder.proofs.Putting.{put_put}
use Rattle.overflow.specs.Count.{most_value, cell_numbers, size_right, page_count, in_cell}
use Rattle.overflow.specs.Written.{low_bytes, numbers_out, cell_of}
use Rattle.overflow.specs.Read.{cell_size, cell_count, cell_right}
use Rattle.overflow.specs.Outcome.{padded}
use Rattle.overflow.specs.Verdict.{count_verdict}
use Rattle.overflow.specs.Steps.{RightCell, WrongCell}
use Rattle.overflow.proofs.Counts.{right_sizes, accepted_sizes, refused_sizes, a_value_has_a_page}
use Rattle.overflow.proofs.Numbers.{length_low, a_number_is_written, numbers_long}

-- ---- written

drop_zeros : (k n : ℕ) → drop k (zeros n) ≡ zeros (n - k)
drop_zeros zero n = rw (sub-zero n)
drop_zeros (suc k) zero = let e : 0 - suc k ≡ 0 = omega arith in rw e
drop_zeros (suc k) (suc n) = let e : suc n - suc k ≡ n - k = omega arith in rw e (drop_zeros k n)

put_on_zeros : (n : ℕ) (s : List ℕ) → put (zeros n) 0 s ≡ s ++ zeros (n - length s)
unfolding put
put_on_zeros n s = rw (zero-add (length s), drop_zeros (length s) n)

pub length_cell : (size : ℕ) (hash numbers : List ℕ) → length hash ≡ 32 → length (cell_of size hash numbers) ≡ 40 + 4 * min cell_numbers (length numbers)
unfolding cell_of
length_cell size hash numbers h =
    simp (length-append, length_low, numbers_long, length-take) (omega (arith, h))

pub a_cell_is_written : (size : ℕ) (hash numbers z s a b d : List ℕ) → length hash ≡ 32 → length numbers ≤ 15 → z ≡ zeros 100 → s ≡ to_le_bytes w64 size → a ≡ put z 0 s → b ≡ put a 8 hash
    → d ≡ put b 40 (numbers_out numbers) → d ≡ padded (cell_of size hash numbers)
unfolding cell_of
a_cell_is_written size hash numbers z s a b d h l ez es ea eb ed =
    let e = length_low 8 size in
    rw (
      ed,
      eb,
      ea,
      es ∙ a_number_is_written 8 size,
      ez,
      put_put (zeros 100) 0 (low_bytes 8 size) 8 hash (omega arith) (omega arith),
      put_put (zeros 100) 0 (low_bytes 8 size ++ hash) 40 (numbers_out numbers) (simp length-append (omega arith)) (omega arith),
      append_assoc (low_bytes 8 size) hash (numbers_out numbers),
      take_all cell_numbers numbers l,
    ) (put_on_zeros 100 (low_bytes 8 size ++ (hash ++ numbers_out numbers)))

-- ---- read

-- No. 23 of a cell, as facts
pub record Right (c : List ℕ) : Type 0 where
  pub some : 0 < cell_size c
  pub most : cell_size c ≤ most_value
  pub long : length c ≡ 40 + 4 * in_cell (cell_count c)

pub right_cells : (c : List ℕ) → cell_right c ≡ true → Right c
unfolding cell_right
right_cells c h =
    let p = both (size_right (cell_size c)) (eqb (length c) (40 + 4 * in_cell (cell_count c))) h in
    let s = right_sizes (cell_size c) p.0 in
    record { some = s.some; most = s.most; long = eqb-true (length c) (40 + 4 * in_cell (cell_count c)) p.1 }

module _ (c : List ℕ) where
  wrong : cell_right c ≡ false → WrongCell c BadOverflow
  wrong h = record { wrong = h; refused = refl }

  pub a_short_cell_is_wrong : length c < 44 → WrongCell c BadOverflow
  unfolding cell_right
  a_short_cell_is_wrong h = wrong (go (size_right (cell_size c)) refl)
    where
      go : (b : Bool) → size_right (cell_size c) ≡ b → (b && eqb (length c) (40 + 4 * in_cell (cell_count c))) ≡ false
      go true q = ne_eqb (length c) (40 + 4 * in_cell (cell_count c)) (λ l. omega (arith, a_value_has_a_page (cell_size c) (right_sizes (cell_size c) q), h, l))
      go false q = refl

  module _ (s : ℕ) (es : s ≡ cell_size c) where
    pub a_cell_of_a_wrong_size_is_wrong : (r : Refusal) → number r ≡ count_verdict s → WrongCell c BadOverflow
    unfolding cell_right
    a_cell_of_a_wrong_size_is_wrong r e =
        let f : size_right (cell_size c) ≡ false = rw (← es) (refused_sizes s r e) in
        wrong (rw f)

    module _ (e : 0 ≡ count_verdict s) (t m : ℕ) (et : t ≡ page_count s) (few : t ≤ 257) (em : m ≡ min t 15) where
      good : size_right (cell_size c) ≡ true
      good = rw (← es) (accepted_sizes s e)

      pub a_cell_of_another_length_is_wrong : (length c ≡ 40 + 4 * m → ⊥) → WrongCell c BadOverflow
      unfolding cell_right
      a_cell_of_another_length_is_wrong n =
          let f : eqb (length c) (40 + 4 * in_cell (cell_count c)) ≡ false = ne_eqb (length c) (40 + 4 * in_cell (cell_count c)) (λ l. n (l ∙ rw (em, et, es))) in
          wrong (rw (good, f))

      pub a_right_cell_is_read : length c ≡ 40 + 4 * m → RightCell c s t
      unfolding cell_right
      a_right_cell_is_read l =
          let z = right_sizes (cell_size c) good in
          let f : eqb (length c) (40 + 4 * in_cell (cell_count c)) ≡ true = eq-eqb (length c) (40 + 4 * in_cell (cell_count c)) (l ∙ rw (em, et, es)) in
          record {
            right = rw (good, f);
            sized = es;
            counted = et ∙ rw es;
            some = rw es z.some;
            most = rw es z.most;
            few = few;
            long = l ∙ rw em;
          }
