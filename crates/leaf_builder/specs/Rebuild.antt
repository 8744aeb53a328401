-- `rebuild`: the builder by itself, so that it can be compared with the Rust's.
use Rattle.std.specs.Prelude.{ℕ, cond, ◌&&◌, List, ◌++◌, eqb, leb, length, drop}
use Rattle.refusal.specs.Refusal.{accepted, no_such_index, short_area}
use Rattle.leaf_node.specs.Page.{count, records_between}
use Rattle.leaf_node.specs.Good.{page_verdict}
use Rattle.leaf_node.specs.Build.{build}

-- Nos. 1 to 5 of the page, then No. 10 for a range that isn't from <= mid <= to <= n, then No. 17 for an area shorter than a page
unfoldable pub rebuild_verdict : ℕ → List ℕ → ℕ → ℕ → ℕ → ℕ → ℕ
rebuild_verdict size p from mid to room =
    cond (eqb (page_verdict size p) 0)
    (cond (leb from mid && leb mid to && leb to (count p))
    (cond (leb size room) accepted short_area)
    no_such_index)
    (page_verdict size p)

-- what an area that held `held` has after the call: the page of the records and the rest as it was; where the call is refused, what it held
unfoldable pub rebuild_leaves : ℕ → List ℕ → ℕ → ℕ → ℕ → List ℕ → List ℕ
rebuild_leaves size p from mid to held =
    cond (eqb (rebuild_verdict size p from mid to (length held)) 0) (build size (records_between p from to) ++ drop size held) held
