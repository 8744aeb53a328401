-- The structs of numbers that stand for the replies of the core: document 01's number, and the values of each case.
use Rattle.std.specs.Prelude.{cond, ℕ, List, Result, Ok, Err, replicate}
use Rattle.leaf_node.specs.declared.Cell.{Cell}
use Rattle.leaf_page.specs.declared.LeafKey.{LeafKey}
use Rattle.leaf_page.specs.declared.LeafValue.{LeafValue}
use Rattle.leaf_page.specs.declared.LeafSize.{LeafSize}

-- the key of a refusal is zeros
abbrev pub key_out : Result (List ℕ) ℕ → LeafKey
key_out (Ok k) = record { refusal = 0; key = k }
key_out (Err n) = record { refusal = n; key = replicate 32 0 }

-- a refusal: its number, and zeros in every other field
abbrev pub refused_value : ℕ → LeafValue
refused_value n = record { refusal = n; absent = 0; flag = 0; offset = 0; len = 0; position = 0 }

abbrev pub found_value : Cell → LeafValue
found_value c = record { refusal = 0; absent = 0; flag = cond c.flag 1 0; offset = c.offset; len = c.len; position = 0 }

abbrev pub value_out : Result Cell ℕ → LeafValue
value_out (Ok c) = found_value c
value_out (Err n) = refused_value n

-- document 02, M-102: an absent key's position; a refusal and a found key have none
abbrev pub get_out : Result (Result Cell ℕ) ℕ → LeafValue
get_out (Err n) = refused_value n
get_out (Ok (Err i)) = record { refusal = 0; absent = 1; flag = 0; offset = 0; len = 0; position = i }
get_out (Ok (Ok c)) = found_value c

abbrev pub size_out : Result ℕ ℕ → LeafSize
size_out (Ok b) = record { refusal = 0; bytes = b }
size_out (Err n) = record { refusal = n; bytes = 0 }
