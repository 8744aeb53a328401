-- Document 01, "Bench trials", as far as it speaks of pages, by computation. Assumes nothing.
use mathlib.Core.Path.{◌≡◌, refl}
use mathlib.Core.Bool.{Bool, true, false}
use mathlib.Core.List.{List, [], ◌∷◌}
use Prim.Native.Nat.{ℕ}
use lib.ListN.{take, drop, replicate}
use Rattle.leaf_node.specs.Record.{values, total}
use Rattle.leaf_node.specs.Build.{le16, tagged, pointers, build}

-- a page of one record with an empty value
abbrev one_empty : Bool → List ℕ
one_empty flag = build 4096 (record { key = replicate 32 0; value = []; flag = flag } ∷ [])

-- "One empty value: number bytes 00 10; flagged, 00 90."
pub number_bytes_of_an_empty_value : take 2 (drop 34 (one_empty false)) ≡ 0x00 ∷ 0x10 ∷ []
unfolding build pointers le16 tagged values total
number_bytes_of_an_empty_value = refl

pub number_bytes_of_a_flagged_empty_value : take 2 (drop 34 (one_empty true)) ≡ 0x00 ∷ 0x90 ∷ []
unfolding build pointers le16 tagged values total
number_bytes_of_a_flagged_empty_value = refl
