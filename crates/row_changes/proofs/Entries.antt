-- What is read of one change. Assumes nothing.
use mathlib.Core.Path.{◌≡◌, refl, sym}
use mathlib.Core.Bool.{Bool, true, false, not}
use mathlib.Core.List.{List}
use Prim.Native.Nat.{ℕ, ◌+◌, ◌<◌}
use native.Mathlib.Omega.{arith}
use lib.Dec.{eqb}
use lib.ListN.{length, get_or, take, drop}
use lib.Seq.{length-take-le}
use Rattle.std.specs.Int.{w32, from_le_bytes}
use Rattle.std.proofs.lemmas.List.{get_or-take, get_or-drop}
use borrow.Author.Tests.{not-true, not-false}
use Rattle.row_changes.specs.Packed.{key_of, is_put, flag_of, length_of, value_length}
use Rattle.row_changes.specs.Tests.{size_with, put_body}

-- ---- its bytes

module _ (c : List ℕ) (h : length c ≡ 40) where
  pub a_part_of_32_bytes : 32 ≡ length (take 32 c)
  a_part_of_32_bytes = sym (length-take-le 32 c (omega (arith, h)))

  pub a_key_has_32_bytes : (k : List ℕ) → k ≡ take 32 c → length k ≡ 32
  a_key_has_32_bytes k e = rw e (sym a_part_of_32_bytes)

pub a_key_is_read : (c k : List ℕ) → k ≡ take 32 c → k ≡ key_of c
unfolding key_of
a_key_is_read c k e = e

pub put_is_read : (c : List ℕ) (x : ℕ) → x ≡ get_or c 32 0 → not (eqb x 0) ≡ is_put c
unfolding is_put
put_is_read c x e = rw e

pub flag_is_read : (c : List ℕ) (x : ℕ) → x ≡ get_or c 33 0 → not (eqb x 0) ≡ flag_of c
unfolding flag_of
flag_is_read c x e = rw e

-- the library's number of four bytes, the first one the lowest
pub length_is_read : (c b : List ℕ) (n : ℕ) → b ≡ take 4 (drop 36 c) → n ≡ from_le_bytes w32 b → n ≡ length_of c
unfolding length_of
length_is_read c b n e q =
    let byte : (i : ℕ) → i < 4 → get_or b i 0 ≡ get_or c (36 + i) 0 = λ i h. rw (e, get_or-take 4 (drop 36 c) i 0 h, get_or-drop 36 c i 0) refl in
    rw q (omega (arith, byte 0 (omega arith), byte 1 (omega arith), byte 2 (omega arith), byte 3 (omega arith)))

-- ---- what it takes

module _ (beside : ℕ) (c : List ℕ) (t : Bool) (e : t ≡ is_put c) where
  pub a_put_takes_its_length : not t ≡ false → (n : ℕ) → n ≡ length_of c → n + beside ≡ size_with beside c
  unfolding size_with
  a_put_takes_its_length h n q = rw (← e, not-false t h, q)

  pub a_deletion_takes_nothing : not t ≡ true → 0 ≡ size_with beside c
  unfolding size_with
  a_deletion_takes_nothing h = rw (← e, not-true t h)

pub a_value_is_alone : (c : List ℕ) → size_with 0 c ≡ value_length c
unfolding size_with value_length
a_value_is_alone c = let n : length_of c + 0 ≡ length_of c = omega arith in rw n

pub a_body_has_a_pointer : (c : List ℕ) → size_with 34 c ≡ put_body c
unfolding size_with put_body
a_body_has_a_pointer c = let n : length_of c + 34 ≡ 34 + length_of c = omega arith in rw n
