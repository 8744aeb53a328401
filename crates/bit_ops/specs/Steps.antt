-- What the private steps of `less`, `prefix_len` and `separate` find and write. They go by words of 8 bytes.
use Rattle.std.specs.Prelude.{◌≡◌, ℕ, ◌-◌, ◌*◌, ◌/◌, ◌%◌, ◌^◌, ◌<◌, List, ◌∷◌, ◌++◌, get_or, take, drop, replicate}
use Rattle.bit_ops.specs.Key.{Key, num}

-- word i of a key: the number that its bytes 8 i to 8 i + 7 spell
unfoldable pub word_at : List ℕ → ℕ → ℕ
word_at k i = num (take 8 (drop (8 * i) k))

-- a and b are keys that have x and y as word `at`: the first word in which they differ, or the last one where no earlier does
pub record Differing (a b : List ℕ) (at x y : ℕ) : Type 0 where
  pub key_a : Key a
  pub key_b : Key b
  pub within : at < 4
  pub before : take (8 * at) a ≡ take (8 * at) b
  pub in_a : x ≡ word_at a at
  pub in_b : y ≡ word_at b at
  pub differ : at < 3 → x ≡ y → ⊥

-- n zeros
abbrev pub zeros : ℕ → List ℕ
zeros n = replicate n 0

-- the first i of 32 bytes, then zeros
unfoldable pub cleared_from : List ℕ → ℕ → List ℕ
cleared_from k i = take i k ++ zeros (32 - i)

-- the first i of 32 bytes, then y, then zeros
unfoldable pub cut_at : List ℕ → ℕ → ℕ → List ℕ
cut_at k i y = take i k ++ (y ∷ zeros (31 - i))

-- a key's bits up to and with bit n, counted from the top, then zeros: of byte n / 8 the multiple of that bit's value
unfoldable pub cut_after : List ℕ → ℕ → List ℕ
cut_after k n =
    let y : ℕ = get_or k (n / 8) 0 in
    cut_at k (n / 8) (y - y % 2 ^ (7 - n % 8))
