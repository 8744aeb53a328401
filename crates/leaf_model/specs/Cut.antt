-- Document 01, "Digest, step by step", steps 1 to 3: how the pending records are cut into leaves.
-- Step 3 stands here twice: leaf by leaf, as the paper tells it, and in one pass over the records, which all else uses.
-- `cutting_as_the_paper_says` (proofs/AsThePaperSays) shows that they agree. Limits are those of the page size; at 4,096 they are the paper's numbers.
use Rattle.std.specs.Prelude.{true, false, List, [], ◌∷◌, ◌++◌, ℕ, zero, suc, ◌+◌, ◌/◌, ltb, leb, length}
use Rattle.std.specs.Prelude as std
use Rattle.std.proofs.Math.Option.{Option, none, some}
use Rattle.leaf_node.specs.Limits.{body_limit, bulk_above, bulk_target}
use Rattle.leaf_node.specs.Record.{Record, cost, body}

-- the leaves that were cut, in order, and the records that are left
pub record Cut : Type 0 where
  pub leaves : List (List Record)
  pub left : List Record

abbrev pub nothing_cut : List Record → Cut
nothing_cut rs = record { leaves = []; left = rs }

abbrev pub with_leaf : List Record → Cut → Cut
with_leaf leaf c = record { leaves = leaf ∷ c.leaves; left = c.left }

-- ---- which target

-- steps 1 and 2, for pending records whose body size is b; none: nothing is cut
unfoldable pub target_of : ℕ → ℕ → std.Option ℕ
target_of size b = elim (ltb (bulk_above size) b) [
  -- "If B is over 7,369, cut leaves with target 3,070."
  | true ↦ std.Some (bulk_target size)
  -- "Else, if B is over 4,094, cut leaves with target B / 2, rounded down, fixed once."
  | false ↦ elim (ltb (body_limit size) b) [ true ↦ std.Some (b / 2) | false ↦ std.None ]
]

-- ---- step 3, as the paper tells it

-- a leaf, and the records that remain behind it
pub record Taken : Type 0 where
  pub leaf : List Record
  pub remaining : List Record

-- One leaf off the records, of which `leaf` has been taken so far.
-- "Cutting takes records in order until the leaf's body reaches the target."
unfoldable pub take_until : ℕ → ℕ → List Record → List Record → Option Taken
-- "the remaining records don't reach the target and none overfills": nothing is cut
take_until limit target leaf [] = none
take_until limit target leaf (r ∷ rs) = elim (ltb limit (body leaf + cost r)) [
  -- "A record that would pass 4,094 is left, and ends the leaf below target."
  | true ↦ some (record { leaf = leaf; remaining = r ∷ rs })
  | false ↦ elim (leb target (body leaf + cost r)) [
    -- the target is reached
    | true ↦ some (record { leaf = leaf ++ (r ∷ []); remaining = rs })
    | false ↦ take_until limit target (leaf ++ (r ∷ [])) rs
  ]
]

-- Leaf after leaf. "Cutting stops when the remaining records don't reach the target and none overfills."
-- At most `n` leaves; where no value is longer than a page takes, each has a record, so the number of records is enough.
unfoldable pub take_leaves : ℕ → ℕ → ℕ → List Record → Cut
take_leaves zero limit target rs = nothing_cut rs
take_leaves (suc n) limit target rs = elim (take_until limit target [] rs) [
  | none ↦ nothing_cut rs
  | some t ↦ with_leaf t.leaf (take_leaves n limit target t.remaining)
]

unfoldable pub cut_as_written : ℕ → List Record → Cut
cut_as_written size rs = elim (target_of size (body rs)) [
  | std.None ↦ nothing_cut rs
  | std.Some target ↦ take_leaves (length rs) (body_limit size) target rs
]

-- ---- step 3 in one pass

-- `leaf` has been taken so far, its body is `size`, and `rs` is still to come.
-- A record that would pass the limit ends the leaf and is the first of the next one. A leaf that reaches the target ends.
unfoldable pub cut : ℕ → ℕ → List Record → ℕ → List Record → Cut
cut limit target leaf size [] = nothing_cut leaf
cut limit target leaf size (r ∷ rs) = elim (ltb limit (size + cost r)) [
  | true ↦ with_leaf leaf (elim (leb target (cost r)) [
    | true ↦ with_leaf (r ∷ []) (cut limit target [] 0 rs)
    | false ↦ cut limit target (r ∷ []) (cost r) rs
  ])
  | false ↦ elim (leb target (size + cost r)) [
    | true ↦ with_leaf (leaf ++ (r ∷ [])) (cut limit target [] 0 rs)
    | false ↦ cut limit target (leaf ++ (r ∷ [])) (size + cost r) rs
  ]
]

unfoldable pub cut_all : ℕ → List Record → Cut
cut_all size rs = elim (target_of size (body rs)) [
  | std.None ↦ nothing_cut rs
  | std.Some target ↦ cut (body_limit size) target [] 0 rs
]
