-- The limits of a page size. Document 01 has their numbers for 4,096 bytes, named beside each; all follow from the size.
use Rattle.std.specs.Prelude.{ℕ, ◌+◌, ◌-◌, ◌*◌, ◌/◌, ◌≤◌}

-- the largest page: an offset has 15 bits
abbrev pub most_page_bytes : ℕ
most_page_bytes = 32767

-- the page sizes for which all of this is shown
pub record PageSize (size : ℕ) : Type 0 where
  pub least : 98 ≤ size
  pub most : size ≤ most_page_bytes

-- what a body may be at most: all but the two bytes of the count (4,094)
unfoldable pub body_limit : ℕ → ℕ
body_limit size = size - 2

-- how many records a page may have (120)
unfoldable pub record_limit : ℕ → ℕ
unfolding body_limit
record_limit size = body_limit size / 34

-- what a value may be at most (1,332)
unfoldable pub value_limit : ℕ → ℕ
unfolding body_limit
value_limit size = body_limit size / 3 - 32

-- records that are left with a smaller body wait for a merge, where there is a cutoff (2,047)
unfoldable pub merge_below : ℕ → ℕ
unfolding body_limit
merge_below size = body_limit size / 2

-- pending records with a larger body are cut in bulk (7,369)
unfoldable pub bulk_above : ℕ → ℕ
unfolding body_limit
bulk_above size = body_limit size * 9 / 5

-- the body that a leaf cut in bulk aims at (3,070)
unfoldable pub bulk_target : ℕ → ℕ
unfolding body_limit
bulk_target size = body_limit size * 3 / 4

-- "B / 2047, rounded up, is the number of pages that digest asks for"
abbrev pub pages_asked : ℕ → ℕ → ℕ
pages_asked size b = (b + (merge_below size - 1)) / merge_below size
