-- Parts of a record.
use Rattle.std.specs.Prelude.{Bool, cond, ◌&&◌, List, ℕ, ◌+◌, leb, eqb, length, take, drop, replicate}
use Rattle.leaf_work.specs.Tests.{same_bytes}

-- the 32 bytes from `at` on, zeros where the record ends before
unfoldable pub key_from : List ℕ → ℕ → List ℕ
key_from s at = cond (leb (at + 32) (length s)) (take 32 (drop at s)) (replicate 32 0)

-- the record has these bytes from `at` on
unfoldable pub has_at : List ℕ → ℕ → List ℕ → Bool
has_at s at bytes = leb (at + length bytes) (length s) && same_bytes (take (length bytes) (drop at s)) bytes

-- the record has from `at` on the n bytes that another buffer has from `from` on
unfoldable pub has_part : List ℕ → ℕ → List ℕ → ℕ → ℕ → Bool
has_part s at other from n = leb (from + n) (length other) && has_at s at (take n (drop from other))

-- what lent buffers hold before a call
unfoldable pub is_held : ℕ → Bool
is_held x = eqb x 0x5a
