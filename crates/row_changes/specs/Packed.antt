-- Document 02, M-101: "changes, here and in every call that takes many, are entries of a key and either a deletion or a value's length and flag, the values in order without holes
-- from the start of one buffer". An entry is 40 bytes, so that it has no padding: the key, put, flag, two bytes for a mark, the length in four bytes, low byte first.
use Rattle.std.specs.Prelude.{Bool, true, false, cond, List, [], ◌∷◌, ℕ, ◌+◌, ◌*◌, get_or, take, drop}
use Rattle.std.proofs.Math.Option.{Option, none, some}
use Rattle.leaf_model.specs.Work.{Change}
use Rattle.leaf_work.specs.Tests.{is_set}
use Rattle.row_turns.specs.Changes.{Edit}

-- "a key"
unfoldable pub key_of : List ℕ → List ℕ
key_of c = take 32 c

-- "either a deletion or a value's length and flag": any number but 0 is set
unfoldable pub is_put : List ℕ → Bool
is_put c = is_set (get_or c 32 0)

unfoldable pub flag_of : List ℕ → Bool
flag_of c = is_set (get_or c 33 0)

unfoldable pub length_of : List ℕ → ℕ
length_of c = get_or c 36 0 + 256 * get_or c 37 0 + 65536 * (get_or c 38 0 + 256 * get_or c 39 0)

-- what it takes of the value buffer: a deletion nothing, whatever its length says
unfoldable pub value_length : List ℕ → ℕ
value_length c = cond (is_put c) (length_of c) 0

-- a change, its value being the first of these bytes
abbrev pub change_of : List ℕ → List ℕ → Option Change
change_of c values = elim (is_put c) [ true ↦ some (record { value = take (length_of c) values; flag = flag_of c }) | false ↦ none ]

-- "the values in order without holes from the start of one buffer"
abbrev pub edits_of : List (List ℕ) → List ℕ → List Edit
edits_of [] values = []
edits_of (c ∷ cs) values = record { key = key_of c; change = change_of c values } ∷ edits_of cs (drop (value_length c) values)
