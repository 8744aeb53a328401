-- Keys: 32 bytes, ordered as the numbers that they spell. Document 01, "The three modules", No. 1: "Bits run from the top of byte 0".
use Rattle.std.specs.Prelude.{◌≡◌, ℕ, zero, suc, ◌+◌, ◌*◌, ◌/◌, ◌%◌, ◌^◌, ◌<◌, Bool, false, ◌&&◌, ◌||◌, List, [], ◌∷◌, length, get_or, eqb, ltb}

-- every element is a byte
abbrev pub Bytes : List ℕ → Type 0
Bytes xs = (i : ℕ) → get_or xs i 0 < 256

-- a key: 32 bytes
pub record Key (k : List ℕ) : Type 0 where
  pub size : length k ≡ 32
  pub bytes : Bytes k

-- the number that bytes spell, the first byte the highest
unfoldable pub num : List ℕ → ℕ
num [] = 0
num (x ∷ xs) = x * 256 ^ length xs + num xs

-- the n bytes that spell v, the highest first
unfoldable pub bytes_of : ℕ → ℕ → List ℕ
bytes_of zero v = []
bytes_of (suc n) v = v / 256 ^ n ∷ bytes_of n (v % 256 ^ n)

-- the order of keys: a is below b
unfoldable pub lt_key : List ℕ → List ℕ → Bool
lt_key a b = ltb (num a) (num b)

-- a and b are one key: they spell one number
unfoldable pub eq_key : List ℕ → List ℕ → Bool
eq_key a b = eqb (num a) (num b)

-- the order of lists element by element, in which the first that differs decides; `key_order_is_lexicographic` says that keys have this order
unfoldable pub lexicographic : List ℕ → List ℕ → Bool
lexicographic [] ys = false
lexicographic (x ∷ xs) [] = false
lexicographic (x ∷ xs) (y ∷ ys) = ltb x y || (eqb x y && lexicographic xs ys)
