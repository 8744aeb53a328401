-- What `cut_at` has at each place, what number a cut spells, and that cutting as the code does gives it. Assumes nothing.
use mathlib.Core.Path.{◌≡◌, refl, sym, ◌∙◌}
use mathlib.Core.Logic.{◌⊎◌, inl, inr}
use mathlib.Core.List.{List, [], ◌∷◌, append-nil}
use Prim.Native.Nat.{ℕ, zero, suc, ◌+◌, ◌-◌, ◌*◌, ◌/◌, ◌%◌, ◌^◌, ◌≤◌, ◌<◌}
use native.Mathlib.Nat.{pow-suc, div-add-mod'}
use native.Mathlib.Numerals.{add-one}
use native.Mathlib.Omega.{arith}
use borrow.Rule.Slice.PartMut.{put_mid}
use Rattle.std.proofs.lemmas.Slice.{put_mid-paste}
use lib.Dec.{lit<}
use lib.ListN.{length, get_or, take, drop, set, length-set, drop_of_length-le, length-append, length-replicate, get_or-append}
use lib.Seq.{take_all, length-take-le, get_or-take, get_or_at, get_or-append-add, take-suc-set, append_snoc}
use Rattle.bit_ops.specs.Key.{Bytes, Key, num, bytes_of}
use Rattle.bit_ops.specs.Separate.{leading}
use Rattle.bit_ops.specs.Steps.{zeros, cleared_from, cut_at, cut_after}
use Rattle.bit_ops.proofs.Cases.{cases}
use Rattle.bit_ops.proofs.Number.{num_append, num_split, rest_lt, pow256, bytes_of_num}
use Rattle.bit_ops.proofs.Digits.{div_at, keep_digit}

length_zeros : (n : ℕ) → length (zeros n) ≡ n
length_zeros n = length-replicate {A = ℕ} n 0

zeros_at : (n i : ℕ) → get_or (zeros n) i 0 ≡ 0
zeros_at zero i = refl
zeros_at (suc n) zero = refl
zeros_at (suc n) (suc i) = zeros_at n i

num_zeros : (n : ℕ) → num (zeros n) ≡ 0
unfolding num
num_zeros zero = refl
num_zeros (suc n) = rw (num_zeros n) (omega arith)

module _ (b : List ℕ) (i y : ℕ) (h : i < 32) (l : length b ≡ 32) where
  front : length (take i b) ≡ i
  front = length-take-le i b (omega arith)

  pub length_cut : length (cut_at b i y) ≡ 32
  unfolding cut_at
  length_cut = rw (length-append (take i b) (y ∷ zeros (31 - i)), front, length_zeros (31 - i)) (omega arith)

  pub cut_before : (j : ℕ) → j < i → get_or b j 0 ≡ get_or (cut_at b i y) j 0
  unfolding cut_at
  cut_before j k = sym (get_or-append (take i b) (y ∷ zeros (31 - i)) 0 j (rw front k) ∙ get_or-take i b j 0 k)

  pub cut_at_lem : (j : ℕ) → j ≡ i → y ≡ get_or (cut_at b i y) j 0
  unfolding cut_at
  cut_at_lem j e = rw e (sym (get_or_at (take i b) y (zeros (31 - i)) 0 i front))

  pub cut_after_lem : (j : ℕ) → i < j → 0 ≡ get_or (cut_at b i y) j 0
  unfolding cut_at
  cut_after_lem j k =
      let e : j ≡ length (take i b) + suc (j - suc i) = omega (arith, front) in
      rw (e, get_or-append-add (take i b) (y ∷ zeros (31 - i)) (suc (j - suc i)) 0) (sym (zeros_at (31 - i) (j - suc i)))

  pub num_cut : num (cut_at b i y) ≡ (num (take i b) * 256 + y) * 256 ^ (31 - i)
  unfolding cut_at num
  num_cut = rw (num_append (take i b) (y ∷ zeros (31 - i)), length_zeros (31 - i), num_zeros (31 - i), pow-suc) (omega arith)

  pub bytes_cut : Bytes b → y < 256 → Bytes (cut_at b i y)
  bytes_cut hb hy j = go (cases j i)
    where
      go : (j < i) ⊎ ((j ≡ i) ⊎ (i < j)) → get_or (cut_at b i y) j 0 < 256
      go (inl k) = rw (← cut_before j k) (hb j)
      go (inr (inl k)) = rw (← cut_at_lem j k) hy
      go (inr (inr k)) = rw (← cut_after_lem j k) (lit< tt)

  -- byte i replaced, the later ones cleared
  cut_written : cleared_from (set b i y) (i + 1) ≡ cut_at b i y
  unfolding cleared_from cut_at
  cut_written =
      let e : 32 - suc i ≡ 31 - i = omega arith in
      rw (add-one i, take-suc-set b i y (omega arith), e, append_snoc (take i b) y (zeros (31 - i)))

cut_after_written : (k out : List ℕ) (n last : ℕ) → n < 256 → length k ≡ 32 → last ≡ 2 ^ (7 - n % 8)
    → out ≡ cleared_from (set k (n / 8) (get_or k (n / 8) 0 - get_or k (n / 8) 0 % last)) (n / 8 + 1) → out ≡ cut_after k n
unfolding cut_after
cut_after_written k out n last h l e o =
    rw e at (o ∙ cut_written k (n / 8) (get_or k (n / 8) 0 - get_or k (n / 8) 0 % last) (omega arith) l)

-- the number that is left: the s + 1 leading bits, then zeros
pub cut_after_number : (b : List ℕ) (s : ℕ) → Key b → s < 256 → cut_after b s ≡ bytes_of 32 (leading 256 (s + 1) (num b) * 2 ^ (256 - (s + 1)))
unfolding cut_after leading
cut_after_number b s hb h =
    let i : ℕ = s / 8 in
    let j : ℕ = 7 - s % 8 in
    let y : ℕ = get_or b i 0 in
    let kept : ℕ = y - y % 2 ^ j in
    let k : length b ≡ 32 = hb.size in
    let in_b : i < 32 = omega arith in
    let after : 32 - suc i ≡ 31 - i = omega arith in
    let byte : kept < 256 = omega (arith, hb.bytes i) in
    let z : kept ≡ y / 2 ^ j * 2 ^ j = omega (arith, div-add-mod' y (2 ^ j)) in
    let below : num (drop (suc i) b) < 2 ^ (8 * (31 - i)) = rw (k, after, pow256 (31 - i)) at (rest_lt b (suc i) hb.bytes) in
    let bits : 256 - (s + 1) ≡ 8 * (31 - i) + j = omega arith in
    let split : num b ≡ (num (take i b) * 2 ^ 8 + y) * 2 ^ (8 * (31 - i)) + num (drop (suc i) b) = rw (k, after, pow256 (31 - i)) at (num_split b i (omega arith)) in
    let e : num (cut_at b i kept) ≡ num b / 2 ^ (8 * (31 - i) + j) * 2 ^ (8 * (31 - i) + j) =
    num_cut b i kept in_b k
    ∙ rw (pow256 (31 - i), z, split, div_at 8 (8 * (31 - i)) (num (take i b)) y (num (drop (suc i) b)) j below (omega arith))
    (keep_digit 8 (8 * (31 - i)) (num (take i b)) y j (omega arith)) in
    rw (bits, ← e) (rw (length_cut b i kept in_b k) at (sym (bytes_of_num (cut_at b i kept) (bytes_cut b i kept in_b k hb.bytes byte))))

-- the library's zeros from `from` on
filled : (k x : List ℕ) (from m : ℕ) → length k ≡ 32 → m ≡ 32 - from → from ≤ 32 → x ≡ zeros m → put_mid from m k x ≡ cleared_from k from
unfolding cleared_from
filled k x from m l n h q =
    let d : drop (from + m) k ≡ [] = drop_of_length-le k {i = from + m} (omega arith) in
    let z : take m (zeros m) ≡ zeros m = take_all m (zeros m) (omega (arith, length_zeros m)) in
    put_mid-paste from m k x (zeros m) m q refl (sym (length_zeros m)) ∙ rw (z, d, append-nil, n) refl

pub cut_after_filled : (k x : List ℕ) (n last m : ℕ) → n < 256 → length k ≡ 32 → last ≡ 2 ^ (7 - n % 8) → m ≡ 32 - (n / 8 + 1) → (o : ℕ) → x ≡ zeros o → o ≡ m
    → put_mid (n / 8 + 1) m (set k (n / 8) (get_or k (n / 8) 0 - get_or k (n / 8) 0 % last)) x ≡ cut_after k n
cut_after_filled k x n last m h l e o p q r =
    let y : ℕ = get_or k (n / 8) 0 - get_or k (n / 8) 0 % last in
    cut_after_written k _ n last h l e (filled (set k (n / 8) y) x (n / 8 + 1) m (length-set k (n / 8) y ∙ l) o (omega arith) (rw r at q))
