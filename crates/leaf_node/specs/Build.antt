-- Document 01, "The page", the other way round: the page that a list of records makes, and what pushing records into a lent page does to it.
use Rattle.std.specs.Prelude.{ℕ, ◌+◌, ◌-◌, ◌/◌, ◌%◌, Bool, cond, List, [], ◌∷◌, ◌++◌, length, take, drop}
use Rattle.bit_ops.specs.Steps.{zeros}
use Rattle.leaf_node.specs.Record.{Record, values, total}
use Rattle.leaf_node.specs.Page.{count, start, pointer}

-- a 16-bit number as two bytes, low byte first
unfoldable pub le16 : ℕ → List ℕ
le16 w = w % 256 ∷ w / 256 ∷ []

-- a pointer's number: the offset, with the top bit for a flagged value
unfoldable pub tagged : ℕ → Bool → ℕ
tagged at f = at + cond f 32768 0

-- the pointers of records whose values begin at `at`
unfoldable pub pointers : ℕ → List Record → List ℕ
pointers at [] = []
pointers at (r ∷ rs) = r.key ++ (le16 (tagged at r.flag) ++ pointers (at + length r.value) rs)

-- the page of the records rs: count, pointers, the gap, the values up to the page's end; "built pages hold zeros in the gap"
unfoldable pub build : ℕ → List Record → List ℕ
build size rs =
    let first : ℕ = size - total rs in
    le16 (length rs) ++ (pointers first rs ++ (zeros (first - pointer (length rs)) ++ values rs))

-- "Built pages hold zeros in the gap before the first value": a page with its gap zeroed
unfoldable pub gap_cleared : List ℕ → List ℕ
gap_cleared p = take (pointer (count p)) p ++ (zeros (start p 0 - pointer (count p)) ++ drop (start p 0) p)

-- d with s in the place of as many elements from index `at` on
unfoldable pub put : {A : Type 0} → List A → ℕ → List A → List A
put d at s = take at d ++ s ++ drop (at + length s) d

-- the builder's start: the count, and zeros in the gap of a page that takes n records with t bytes of values
unfoldable pub started : List ℕ → ℕ → ℕ → List ℕ
started d n t = put (put d 0 (le16 n)) (pointer n) (zeros (length d - t - pointer n))

-- pushing records: they become the records from index j on, their values stand from byte `at` on
unfoldable pub pushed : List ℕ → ℕ → ℕ → List Record → List ℕ
pushed d j at rs = put (put d (pointer j) (pointers at rs)) at (values rs)
