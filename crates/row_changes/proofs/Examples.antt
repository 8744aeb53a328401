-- Computed examples of packed changes: what an entry says, the values in one buffer, and Nos. 10, 12 and 13 at their edges. Assumes nothing.
use mathlib.Core.Path.{◌≡◌, refl}
use mathlib.Core.Bool.{true, false}
use mathlib.Core.Option.{none, some}
use mathlib.Core.List.{List, [], ◌∷◌, ◌++◌}
use Prim.Native.Nat.{ℕ, ◌/◌, ◌%◌}
use Rattle.bit_ops.specs.Key.{num, lt_key}
use Rattle.bit_ops.specs.Steps.{zeros}
use Rattle.row_changes.specs.Packed.{key_of, is_put, flag_of, length_of, value_length, edits_of}
use Rattle.row_changes.specs.Tests.{values_length, lengths_fit, keys_rising, put_body, put_bodies}

-- an entry: a key that starts with the byte b, put, flag, a mark, and a length below 65,536
abbrev entry : ℕ → ℕ → ℕ → ℕ → List ℕ
entry b put flag len = (b ∷ zeros 31) ++ (put ∷ flag ∷ 7 ∷ 7 ∷ len % 256 ∷ len / 256 ∷ 0 ∷ 0 ∷ [])

-- a put of two bytes, a deletion whose length says 5, a flagged put of one byte
abbrev entries : List (List ℕ)
entries = entry 1 1 0 2 ∷ entry 2 0 1 5 ∷ entry 3 9 9 1 ∷ []

pub record Reading : Type 0 where
  pub edits : edits_of entries (11 ∷ 12 ∷ 13 ∷ 14 ∷ [])
      ≡ record { key = 1 ∷ zeros 31; change = some (record { value = 11 ∷ 12 ∷ []; flag = false }) }
      ∷ record { key = 2 ∷ zeros 31; change = none }
      ∷ record { key = 3 ∷ zeros 31; change = some (record { value = 13 ∷ []; flag = true }) }
      ∷ []
  pub long : length_of (zeros 36 ++ (1 ∷ 2 ∷ 3 ∷ 4 ∷ [])) ≡ 67305985

pub entries_are_read : Reading
unfolding key_of is_put flag_of length_of value_length
entries_are_read = record { edits = refl; long = refl }

pub record Sums : Type 0 where
  pub values : values_length entries ≡ 3
  pub bodies : put_bodies entries ≡ 71

pub deletions_count_nothing : Sums
unfolding key_of is_put flag_of length_of value_length put_body
deletions_count_nothing = record { values = refl; bodies = refl }

pub record Edges : Type 0 where
  pub long_enough : lengths_fit 2 entries ≡ true
  pub too_long : lengths_fit 1 entries ≡ false
  pub rises : keys_rising entries ≡ true
  pub equal_keys_lem : keys_rising (entry 1 1 0 2 ∷ entry 1 0 0 0 ∷ []) ≡ false
  pub falls : keys_rising (entry 1 0 0 0 ∷ entry 3 0 0 0 ∷ entry 2 0 0 0 ∷ []) ≡ false

pub what_passes : Edges
unfolding num lt_key key_of is_put flag_of length_of value_length
what_passes = record { long_enough = refl; too_long = refl; rises = refl; equal_keys_lem = refl; falls = refl }
