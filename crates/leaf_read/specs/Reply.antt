-- Document 01, "The three modules", No. 2: what the calls that read a page answer. A refused call answers its number alone.
use Rattle.std.specs.Prelude.{ℕ, cond, ◌&&◌, List, eqb, ltb, leb, Result, Ok, Err}
use Rattle.refusal.specs.Refusal.{accepted, no_such_index}
use Rattle.leaf_node.specs.declared.Cell.{Cell}
use Rattle.leaf_node.specs.Page.{count, key_at, values_size}
use Rattle.leaf_node.specs.Good.{page_verdict}
use Rattle.leaf_node.specs.Search.{search_of}
use Rattle.leaf_node.specs.Cell.{cell_at}

-- No. 10, after the page's own refusal: "index not below n"
unfoldable pub index_verdict : ℕ → List ℕ → ℕ → ℕ
index_verdict size p i = cond (eqb (page_verdict size p) 0) (cond (ltb i (count p)) accepted no_such_index) (page_verdict size p)

-- No. 10, after the page's own refusal: "an empty or too long range", from >= to or to > n
unfoldable pub range_verdict : ℕ → List ℕ → ℕ → ℕ → ℕ
range_verdict size p from to = cond (eqb (page_verdict size p) 0) (cond (ltb from to && leb to (count p)) accepted no_such_index) (page_verdict size p)

-- "reading a key"
unfoldable pub key_reply : ℕ → List ℕ → ℕ → Result (List ℕ) ℕ
key_reply size p i = cond (eqb (index_verdict size p i) 0) (Ok (key_at p i)) (Err (index_verdict size p i))

-- "a value"
unfoldable pub value_reply : ℕ → List ℕ → ℕ → Result Cell ℕ
value_reply size p i = cond (eqb (index_verdict size p i) 0) (Ok (cell_at p i)) (Err (index_verdict size p i))

-- "`values_size` of a nonempty range"
unfoldable pub size_reply : ℕ → List ℕ → ℕ → ℕ → Result ℕ ℕ
size_reply size p from to = cond (eqb (range_verdict size p from to) 0) (Ok (values_size p from to)) (Err (range_verdict size p from to))

-- "`get` as a value"; "an absent key in `get` is the plain reply "absent"". Document 02, M-102: "Lookup's "absent" gains the position at which the
-- key would stand, 0 to n."
abbrev pub get_of : List ℕ → Result ℕ ℕ → Result Cell ℕ
get_of p (Ok i) = Ok (cell_at p i)
get_of p (Err i) = Err i

unfoldable pub get_reply : ℕ → List ℕ → List ℕ → Result (Result Cell ℕ) ℕ
get_reply size p k = cond (eqb (page_verdict size p) 0) (Ok (get_of p (search_of p 0 k))) (Err (page_verdict size p))
