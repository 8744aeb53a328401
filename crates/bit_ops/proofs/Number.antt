-- Bytes as a number, the first the highest. Assumes nothing.
use mathlib.Core.Path.{◌≡◌, refl, sym, ap, ◌∙◌}
use mathlib.Core.List.{List, [], ◌∷◌, ◌++◌}
use Prim.Native.Nat.{ℕ, zero, suc, ◌+◌, ◌-◌, ◌*◌, ◌/◌, ◌%◌, ◌^◌, ◌≤◌, ◌<◌}
use native.Mathlib.Nat.{pow-suc, mul-le-mul_right, div-add-mod', suc-ne-zero}
use native.Mathlib.Omega.{arith}
use lib.Dec.{lit<}
use lib.Pow.{pow-add}
use lib.Arith.{digits_div, digits_mod}
use lib.ListN.{length, get_or, take, drop, length-append, length-drop}
use lib.Seq.{split_at, get_or-drop, length-take-le}
use Rattle.bit_ops.specs.Key.{Bytes, Key, num, bytes_of}

pub pow256_pos : (n : ℕ) → 0 < 256 ^ n
pow256_pos zero = lit< tt
pow256_pos (suc n) = let h : 0 < 256 ^ n = pow256_pos n in rw pow-suc (omega arith)

pub num_lt : (xs : List ℕ) → Bytes xs → num xs < 256 ^ length xs
unfolding num
num_lt [] h = lit< tt
num_lt (x ∷ xs) h =
    let r : num xs < 256 ^ length xs = num_lt xs (λ i. h (suc i)) in
    rw pow-suc (omega (arith, mul-le-mul_right (256 ^ length xs) (h 0)))

pub key_lt : {k : List ℕ} → Key k → num k < 2 ^ 256
key_lt {k} h = rw h.size at (num_lt k h.bytes)

pub num_append : (p q : List ℕ) → num (p ++ q) ≡ num p * 256 ^ length q + num q
unfolding num
num_append [] q = omega arith
num_append (x ∷ p) q = rw (num_append p q, length-append p q, pow-add 256 (length p) (length q)) (omega arith)

-- lists of one length spell different numbers, unless they are one
pub num_inj : (xs ys : List ℕ) → length xs ≡ length ys → Bytes xs → Bytes ys → num xs ≡ num ys → xs ≡ ys
unfolding num
num_inj [] [] l h k e = refl
num_inj [] (y ∷ ys) l h k e = absurd (suc-ne-zero (length ys) (sym l))
num_inj (x ∷ xs) [] l h k e = absurd (suc-ne-zero (length xs) l)
num_inj (x ∷ xs) (y ∷ ys) l h k e =
    let l' : length xs ≡ length ys = omega arith in
    let r : num xs < 256 ^ length ys = rw (← l') (num_lt xs (λ i. h (suc i))) in
    let s : num ys < 256 ^ length ys = num_lt ys (λ i. k (suc i)) in
    let e' : x * 256 ^ length ys + num xs ≡ y * 256 ^ length ys + num ys = rw l' at e in
    let hd : x ≡ y = sym (digits_div x r) ∙ ap (λ (m : ℕ). m / 256 ^ length ys) e' ∙ digits_div y s in
    let tl : num xs ≡ num ys = sym (digits_mod x r) ∙ ap (λ (m : ℕ). m % 256 ^ length ys) e' ∙ digits_mod y s in
    let ih : xs ≡ ys = num_inj xs ys l' (λ i. h (suc i)) (λ i. k (suc i)) tl in
    cc

-- `num` and `bytes_of` undo each other
pub length_bytes_of : (n v : ℕ) → length (bytes_of n v) ≡ n
unfolding bytes_of
length_bytes_of zero v = refl
length_bytes_of (suc n) v = ap suc (length_bytes_of n (v % 256 ^ n))

-- the first of n + 1 bytes takes whatever the others leave
pub num_bytes_of : (n v : ℕ) → num (bytes_of (suc n) v) ≡ v
unfolding num bytes_of
num_bytes_of zero v = omega arith
num_bytes_of (suc n) v = rw (length_bytes_of (suc n) (v % 256 ^ suc n), num_bytes_of n (v % 256 ^ suc n)) (div-add-mod' v (256 ^ suc n))

pub bytes_of_num : (xs : List ℕ) → Bytes xs → bytes_of (length xs) (num xs) ≡ xs
unfolding num bytes_of
bytes_of_num [] h = refl
bytes_of_num (x ∷ xs) h =
    let r : num xs < 256 ^ length xs = num_lt xs (λ i. h (suc i)) in
    rw (digits_div x r, digits_mod x r, bytes_of_num xs (λ i. h (suc i)))

-- ---- parts of a list

pub pow256 : (m : ℕ) → 256 ^ m ≡ 2 ^ (8 * m)
pow256 zero = refl
pow256 (suc m) = rw (pow-suc, pow256 m) (sym (pow-add 2 (8 * m) 8) ∙ ap (λ (k : ℕ). 2 ^ k) (omega arith))

drop_bytes : (n : ℕ) (xs : List ℕ) → Bytes xs → Bytes (drop n xs)
drop_bytes n xs h i = rw get_or-drop (h (n + i))

-- a number by the byte at i: the bytes before it, it, and those after it
pub num_split : (xs : List ℕ) (i : ℕ) → i < length xs → num xs ≡ (num (take i xs) * 256 + get_or xs i 0) * 256 ^ (length xs - suc i) + num (drop (suc i) xs)
unfolding num
num_split xs i h =
    ap num (split_at xs i 0 h) ∙ num_append (take i xs) (get_or xs i 0 ∷ drop (suc i) xs) ∙ rw (pow-suc, length-drop) (omega arith)

pub rest_lt : (xs : List ℕ) (i : ℕ) → Bytes xs → num (drop i xs) < 256 ^ (length xs - i)
rest_lt xs i h = rw (← length-drop i xs) (num_lt (drop i xs) (drop_bytes i xs h))

take_bytes : (n : ℕ) (xs : List ℕ) → Bytes xs → Bytes (take n xs)
take_bytes zero xs h i = lit< tt
take_bytes (suc n) [] h i = h i
take_bytes (suc n) (x ∷ xs) h zero = h 0
take_bytes (suc n) (x ∷ xs) h (suc i) = take_bytes n xs (λ j. h (suc j)) i

-- n elements from `at` on
pub part_bytes : (n at : ℕ) (xs : List ℕ) → Bytes xs → Bytes (take n (drop at xs))
part_bytes n at xs h = take_bytes n (drop at xs) (drop_bytes at xs h)

pub part_length : (n at : ℕ) (xs : List ℕ) → at + n ≤ length xs → length (take n (drop at xs)) ≡ n
part_length n at xs h = length-take-le n (drop at xs) (rw (length-drop at xs) (omega arith))
