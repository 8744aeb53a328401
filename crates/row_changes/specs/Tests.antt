-- Document 02, M-101: what is asked of changes, Nos. 10, 12 and 13, and the bodies that they insert.
use Rattle.std.specs.Prelude.{Bool, true, cond, ◌&&◌, List, [], ◌∷◌, ℕ, ◌+◌, leb}
use Rattle.bit_ops.specs.Key.{lt_key}
use Rattle.leaf_work.specs.Tests.{every}
use Rattle.row_changes.specs.Packed.{key_of, is_put, length_of, value_length}

-- a number of each change, added up
abbrev pub sum_of : (List ℕ → ℕ) → List (List ℕ) → ℕ
sum_of f [] = 0
sum_of f (c ∷ cs) = f c + sum_of f cs

-- No. 10, "a value buffer too short for the changes": the bytes that all of them take
abbrev pub values_length : List (List ℕ) → ℕ
values_length cs = sum_of value_length cs

-- what a new value takes, with so many bytes more; a deletion takes nothing
unfoldable pub size_with : ℕ → List ℕ → ℕ
size_with beside c = cond (is_put c) (length_of c + beside) 0

-- No. 12, "new value over 1,332": no value is longer than `most`
abbrev pub lengths_fit : ℕ → List (List ℕ) → Bool
lengths_fit most cs = every (λ c. leb (value_length c) most) cs

-- No. 13, "rising changes": each key is below the next
abbrev pub keys_rising : List (List ℕ) → Bool
keys_rising [] = true
keys_rising (c ∷ []) = true
keys_rising (c ∷ d ∷ cs) = lt_key (key_of c) (key_of d) && keys_rising (d ∷ cs)

-- "the inserted bodies": what a change adds to a body, a deletion nothing
unfoldable pub put_body : List ℕ → ℕ
put_body c = cond (is_put c) (34 + length_of c) 0

abbrev pub put_bodies : List (List ℕ) → ℕ
put_bodies cs = sum_of put_body cs
