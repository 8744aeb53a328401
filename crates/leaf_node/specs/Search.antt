-- Document 01, "The three modules", No. 2, `get`: the one key search of a page.
use Rattle.std.specs.Prelude.{ℕ, zero, suc, ◌-◌, Bool, true, false, cond, ◌&&◌, List, ltb, Result, Ok, Err}
use Rattle.bit_ops.specs.Key.{lt_key, eq_key}
use Rattle.leaf_node.specs.Page.{count, key_at}

-- from record i on, and m of them at most, the first whose key isn't below k
unfoldable pub place_from : List ℕ → ℕ → ℕ → List ℕ → ℕ
place_from p zero i k = i
place_from p (suc m) i k = elim (lt_key (key_at p i) k) [ true ↦ place_from p m (suc i) k | false ↦ i ]

-- where k stands among the records from `from` on: found at i, or absent, with the index at which it would stand
unfoldable pub search_of : List ℕ → ℕ → List ℕ → Result ℕ ℕ
search_of p from k =
    let i : ℕ = place_from p (count p - from) from k in
    cond (ltb i (count p) && eq_key (key_at p i) k) (Ok i) (Err i)

-- the index of a place, and whether the key stands there
abbrev pub place_index : Result ℕ ℕ → ℕ
place_index (Ok i) = i
place_index (Err i) = i

abbrev pub is_found : Result ℕ ℕ → Bool
is_found (Ok i) = true
is_found (Err i) = false
