-- Numbers in bytes, low byte first: written, read, and read back. Assumes nothing.
use mathlib.Core.Path.{◌≡◌, refl, sym, ap, ◌∙◌}
use mathlib.Core.List.{List, [], ◌∷◌, ◌++◌, append_assoc}
use Prim.Native.Nat.{ℕ, zero, suc, ◌+◌, ◌*◌, ◌/◌, ◌%◌, ◌^◌, ◌≤◌, ◌<◌}
use native.Mathlib.Nat.{div-div-eq-div-mul, pow-suc}
use native.Mathlib.Omega.{arith}
use native.Mathlib.Numerals.{add-one}
use Rattle.std.specs.Int.{w32, w64, byte_at, bytes_low_first, to_le_bytes, from_le_bytes}
use lib.ListN.{length, get_or, take, drop, set, length-append, length-drop}
use lib.Seq.{set_split, drop-cons}
use Rattle.leaf_node.specs.Build.{put}
use Rattle.leaf_builder.proofs.Putting.{put_none, put_put, length_put}
use Rattle.overflow.specs.Written.{low_bytes, numbers_out}
use Rattle.overflow.specs.Read.{low_number, cell_size}

-- ---- an element, then the others

put_one : {A : Type 0} (d : List A) (i : ℕ) (x : A) → i < length d → put d i (x ∷ []) ≡ set d i x
unfolding put
put_one d i x h = rw (set_split d i x h, append_assoc, add-one)

pub put_next : {A : Type 0} (d : List A) (i : ℕ) (x : A) (xs : List A) → i < length d → put d i (x ∷ xs) ≡ put (set d i x) (i + 1) xs
put_next d i x xs h = sym (put_put d i (x ∷ []) (i + 1) xs refl (omega arith)) ∙ rw (put_one d i x h)

-- ---- a number in so many bytes

pub length_low : (k n : ℕ) → length (low_bytes k n) ≡ k
unfolding low_bytes
length_low zero n = refl
length_low (suc k) n = ap suc (length_low k (n / 256))

byte_is : (i n : ℕ) → byte_at i n ≡ n / 256 ^ i % 256
byte_is zero n = omega arith
byte_is (suc i) n = refl

as_the_library : (k i n : ℕ) → bytes_low_first i k n ≡ low_bytes k (n / 256 ^ i)
unfolding low_bytes
as_the_library zero i n = refl
as_the_library (suc k) i n = rw (byte_is i n, as_the_library k (suc i) n, div-div-eq-div-mul n (256 ^ i) 256, pow-suc 256 i)

-- the library writes them so
pub a_number_is_written : (k n : ℕ) → bytes_low_first 0 k n ≡ low_bytes k n
a_number_is_written k n = let e : n / 1 ≡ n = omega arith in as_the_library k 0 n ∙ rw e

pub four_bytes_are_written : (x y b : List ℕ) (at n : ℕ) → b ≡ to_le_bytes w32 n → y ≡ put x at b → y ≡ put x at (low_bytes 4 n)
four_bytes_are_written x y b at n e q = rw (q, e, a_number_is_written 4 n)

-- ---- page numbers

pub numbers_long : (ns : List ℕ) → length (numbers_out ns) ≡ 4 * length ns
unfolding low_bytes numbers_out
numbers_long [] = refl
numbers_long (n ∷ ns) = omega (arith, numbers_long ns)

pub next_number : (m : ℕ) (ms : List ℕ) → numbers_out (m ∷ ms) ≡ low_bytes 4 m ++ numbers_out ms
unfolding numbers_out
next_number m ms = refl

-- the numbers before j are written
pub record Listed (at : ℕ) (ns d x : List ℕ) (j : ℕ) : Type 0 where
  pub within : j ≤ length ns
  pub long : length x ≡ length d
  pub same : put d at (numbers_out ns) ≡ put x (at + 4 * j) (numbers_out (drop j ns))

module _ (at : ℕ) (ns d : List ℕ) where
  module _ (x : List ℕ) (j : ℕ) (h : Listed at ns d x j) where
    pub one_more_is_listed : j < length ns → at + 4 * length ns ≤ length d → (n : ℕ) → n ≡ get_or ns j 0 → (y : List ℕ) → y ≡ put x (at + 4 * j) (low_bytes 4 n) → Listed at ns d y (j + 1)
    one_more_is_listed l r n e y q = record {
      within = omega arith;
      long = rw q (length_put x (at + 4 * j) (low_bytes 4 n) (omega (arith, length_low 4 n, h.long))) ∙ h.long;
      same = h.same ∙ step;
    }
      where
        step : put x (at + 4 * j) (numbers_out (drop j ns)) ≡ put y (at + 4 * (j + 1)) (numbers_out (drop (j + 1) ns))
        step =
            let a : drop j ns ≡ n ∷ drop (j + 1) ns = drop-cons ns j 0 l ∙ rw (e, add-one j) in
            rw (a, next_number n (drop (j + 1) ns), q) (sym (put_put x (at + 4 * j) (low_bytes 4 n) (at + 4 * (j + 1)) (numbers_out (drop (j + 1) ns)) (omega (arith, length_low 4 n)) (omega (arith, h.long))))

    pub all_is_listed : length ns ≤ j → x ≡ put d at (numbers_out ns)
    unfolding numbers_out
    all_is_listed l = sym (h.same ∙ rw (lib.ListN.drop_of_length-le ns {i = j} l) (put_none x (at + 4 * j)))

-- ---- reading

-- the library's number of the first four bytes and of the first eight
four : (bs : List ℕ) → from_le_bytes w32 (take 4 bs) ≡ low_number (take 4 bs)
unfolding low_number
four [] = refl
four (a ∷ []) = omega arith
four (a ∷ b ∷ []) = omega arith
four (a ∷ b ∷ c ∷ []) = omega arith
four (a ∷ b ∷ c ∷ d ∷ bs) = omega arith

eight : (bs : List ℕ) → from_le_bytes w64 (take 8 bs) ≡ low_number (take 8 bs)
unfolding low_number
eight [] = refl
eight (a ∷ []) = omega arith
eight (a ∷ b ∷ []) = omega arith
eight (a ∷ b ∷ c ∷ []) = omega arith
eight (a ∷ b ∷ c ∷ d ∷ []) = omega arith
eight (a ∷ b ∷ c ∷ d ∷ e ∷ []) = omega arith
eight (a ∷ b ∷ c ∷ d ∷ e ∷ f ∷ []) = omega arith
eight (a ∷ b ∷ c ∷ d ∷ e ∷ f ∷ g ∷ []) = omega arith
eight (a ∷ b ∷ c ∷ d ∷ e ∷ f ∷ g ∷ h ∷ bs) = omega arith

module _ (bs b : List ℕ) (n : ℕ) where
  pub four_bytes_are_read : b ≡ take 4 bs → n ≡ from_le_bytes w32 b → n ≡ low_number (take 4 bs)
  four_bytes_are_read e q = rw (q, e) (four bs)

  pub eight_bytes_are_read : b ≡ take 8 (drop 0 bs) → n ≡ from_le_bytes w64 b → n ≡ cell_size bs
  unfolding cell_size
  eight_bytes_are_read e q = rw (q, e) (eight bs)
