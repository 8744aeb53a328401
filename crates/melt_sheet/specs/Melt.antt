-- Document 02, M-104 and M-106: "For one tree in a row, add pieces and sprue as whole milligrams, then multiply". The call whole: its refusal, or its sheet.
use Rattle.std.specs.Prelude.{Bool, cond, ◌&&◌, List, [], ◌∷◌, ◌++◌, ℕ, eqb, leb, length, Float, Option}
use Rattle.std.specs.Float.{binary64}
use Rattle.std.specs.Float.Ieee.{of_bits}
use Rattle.refusal.specs.Refusal.{accepted, bad_weight, odd_tree, heavy_tree}
use Rattle.leaf_node.specs.Record.{Record}
use Rattle.leaf_node.specs.Page.{records}
use Rattle.leaf_work.specs.Verdict.{unless, first}
use Rattle.row_turns.specs.Row.{RowLeaf}
use Rattle.row_check.specs.Verdict.{row_of, lent_row_verdict}
use Rattle.melt_weight.specs.declared.Weight.{Weight}
use Rattle.melt_weight.specs.declared.LeafMelt.{LeafMelt}
use Rattle.melt_weight.specs.Weight.{weight_limit}
use Rattle.melt_weight.specs.Sheet.{sheet_of}
use Rattle.melt_scale.specs.Tree.{weights_in, total, all_known, sprues, factors}

-- the records of all leaves of a row, in order
abbrev pub row_records : List RowLeaf → List Record
row_records [] = []
row_records (x ∷ xs) = records x.page ++ row_records xs

-- the tree's weights in the row that pages and separators are
abbrev pub weights_of : ℕ → List ℕ → List (List ℕ) → List ℕ → List (Option Weight)
weights_of size pages separators tree = weights_in tree (row_records (row_of size pages separators))

-- "then with 19 an unflagged record of that tree with another kind, a wrong length or a factor not from 1 to 32, and then with 20 a tree without exactly
-- one sprue and one factor"
abbrev pub is_whole : List (Option Weight) → Bool
is_whole ws = eqb (sprues ws) 1 && eqb (length (factors ws)) 1

-- M-106: "and with 24, after 23, a tree whose total passes 2 to the 40th, in kinds 1 and 2 as well"
unfoldable pub tree_verdict : List (Option Weight) → ℕ
tree_verdict ws = unless bad_weight (all_known ws) (unless odd_tree (is_whole ws) (unless heavy_tree (leb (total ws) weight_limit) accepted))

-- "It refuses a row as M-101 does, then .."
unfoldable pub melt_verdict : ℕ → List ℕ → List (List ℕ) → List ℕ → ℕ
melt_verdict size pages separators tree = first (lent_row_verdict size pages separators) (tree_verdict (weights_of size pages separators tree))

-- the one factor of a tree that isn't refused
abbrev pub the_factor : List Float → Float
the_factor [] = of_bits binary64 0
the_factor (x ∷ xs) = x

-- document 01: "A refusal returns only its number"
abbrev pub refused_melt : ℕ → LeafMelt
refused_melt n = record { refusal = n; total = 0; factor = of_bits binary64 0; product = of_bits binary64 0; melt = 0 }

unfoldable pub melt_of : ℕ → List ℕ → List (List ℕ) → List ℕ → LeafMelt
melt_of size pages separators tree =
    let ws : List (Option Weight) = weights_of size pages separators tree in
    cond (eqb (melt_verdict size pages separators tree) accepted) (sheet_of (total ws) (the_factor (factors ws))) (refused_melt (melt_verdict size pages separators tree))
