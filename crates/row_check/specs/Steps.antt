-- What the functions below the verdicts find, and what they require as plain facts.
use Rattle.std.specs.Prelude.{◌≡◌, cond, List, [], ℕ, ◌+◌, ◌*◌, ◌/◌, ◌≤◌, ◌<◌, ltb, length, get_or, take, drop}
use Rattle.leaf_work.specs.Tests.{key_if}
use Rattle.leaf_work.specs.Verdict.{base_verdict}

-- Nos. 1 to 6 of leaf i of pages and separators
abbrev pub leaf_verdict : ℕ → List ℕ → List (List ℕ) → ℕ → ℕ
leaf_verdict size pages separators i =
    base_verdict size (take size (drop (i * size) pages)) (get_or separators i []) (key_if (ltb (i + 1) (length separators)) (get_or separators (i + 1) []))

-- the pages that area and ticket buffer have room for
abbrev pub pages_lent : ℕ → ℕ → ℕ → ℕ
pages_lent size area tickets = cond (ltb (area / size) (tickets / 65)) (area / size) (tickets / 65)

-- No. 1 was passed: there are as many whole pages as separators
pub record WholeRow (size : ℕ) (pages : List ℕ) (separators : List (List ℕ)) : Type 0 where
  pub whole : length pages ≡ length separators * size
  pub fits : length pages < 18446744073709551616

-- leaf i is one of them
pub record LeafThere (size : ℕ) (pages : List ℕ) (separators : List (List ℕ)) (i : ℕ) : Type 0 where
  pub there : i < length separators
  pub inside : i * size + size ≤ length pages
  pub fits : length pages < 18446744073709551616
