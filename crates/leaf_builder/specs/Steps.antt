-- What the builder requires of a lent page of m bytes, as plain facts.
use Rattle.std.specs.Prelude.{ℕ, ◌+◌, ◌-◌, ◌*◌, ◌≤◌, ◌<◌, ◌≡◌, List, ◌++◌, length, take, drop}
use Rattle.leaf_node.specs.Limits.{PageSize}
use Rattle.leaf_node.specs.Page.{count, pointer, key_at, offset_at, flag_at, start, records_between}
use Rattle.leaf_node.specs.Build.{le16, tagged, pointers}
use Rattle.leaf_node.specs.Good.{Good}
use Rattle.leaf_node.specs.Steps.{Laid}

-- n pointers and t bytes of values have room, and n has room in the count
pub record Begins (m n t : ℕ) : Type 0 where
  pub room : pointer n + t ≤ m
  pub count : n < 65536

-- a record has room as number j, with its value, `len` bytes, at byte `at`; an offset has 15 bits
pub record CellFits (m j at len : ℕ) : Type 0 where
  pub room : pointer (j + 1) ≤ at
  pub fits : at + len ≤ m
  pub small : m < 32768

-- pointer i of p has room at byte `place`, and its value's new offset, `first` taken off and `at` put on, has 15 bits
pub record Shift (p : List ℕ) (i m place first at : ℕ) : Type 0 where
  pub inside : pointer (i + 1) ≤ length p
  pub room : place + 34 ≤ m
  pub order : first ≤ offset_at p i
  pub small : at + (offset_at p i - first) < 32768

-- records `from` up to `to` of p have room as records from j on, with their values from byte `at` on
pub record Chunk (p : List ℕ) (from to m j at : ℕ) : Type 0 where
  pub laid : Laid p (count p)
  pub order : from ≤ to
  pub there : to ≤ count p
  pub room : pointer (j + (to - from)) ≤ at
  pub fits : at + (start p to - start p from) ≤ m
  pub small : m < 32768

-- pointer i of p with its final number: the flag, and the value's offset, `first` taken off and `at` put on
abbrev pub pointer_moved : List ℕ → ℕ → ℕ → ℕ → List ℕ
pointer_moved p i first at = key_at p i ++ le16 (tagged (at + (offset_at p i - first)) (flag_at p i))

-- what stands behind the pointers of records `from` up to `i`, which go from pointer j on
abbrev pub behind : List ℕ → ℕ → ℕ → ℕ → List ℕ
behind d from i j = drop (pointer (j + (i - from))) d

-- Document 02, M-103: "after each record the pointers up to it are final and the later ones as before". The records `from` up to `i` of p were
-- gone through, out of those up to `to`; their pointers go from j on into d, which was `before`.
pub record PointersUpTo (p : List ℕ) (from to j at : ℕ) (before : List ℕ) (i : ℕ) (d : List ℕ) : Type 0 where
  -- as they stand in the finished page
  pub final : take (34 * (i - from)) (drop (pointer j) d) ≡ take (34 * (i - from)) (pointers at (records_between p from to))
  pub later : behind d from i j ≡ behind before from i j
  -- and so are the bytes before them
  pub earlier : take (pointer j) d ≡ take (pointer j) before
  pub same_length : length d ≡ length before

-- a good page of m bytes, and a range of its records in two parts
pub record Parts (p : List ℕ) (from mid to m : ℕ) : Type 0 where
  pub sized : PageSize m
  pub good : Good m p
  pub first : from ≤ mid
  pub second : mid ≤ to
  pub there : to ≤ count p
