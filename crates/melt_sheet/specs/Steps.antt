-- What the functions below the call require of a row that passed, as plain facts, and what the scale says of a tree.
use Rattle.std.specs.Prelude.{◌≡◌, ◌&&◌, List, ℕ, ◌*◌, ◌≤◌, ◌<◌, eqb, leb, length}
use Rattle.refusal.specs.Refusal.{accepted, bad_weight, odd_tree, heavy_tree}
use Rattle.leaf_node.specs.Limits.{PageSize}
use Rattle.leaf_work.specs.Verdict.{unless}
use Rattle.row_turns.specs.Row.{IsRow}
use Rattle.row_check.specs.Verdict.{row_of}
use Rattle.melt_weight.specs.Weight.{weight_limit}
use Rattle.melt_scale.specs.declared.Scale.{Scale}

-- Nos. 1 to 6 and 18 were passed
pub record RowRight (size : ℕ) (pages : List ℕ) (separators : List (List ℕ)) : Type 0 where
  pub sized : PageSize size
  pub whole : length pages ≡ length separators * size
  pub fits : length pages < 18446744073709551616
  pub row : IsRow size (row_of size pages separators)
  pub few : length separators ≤ 16

-- Nos. 19, 20 and 24, by what lies on the scale
abbrev pub scale_verdict : Scale → ℕ
scale_verdict s = unless bad_weight s.known (unless odd_tree (eqb s.sprues 1 && eqb s.factors 1) (unless heavy_tree (leb s.total weight_limit) accepted))
