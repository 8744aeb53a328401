-- Document 02, M-104: "For one tree in a row, add pieces and sprue as whole milligrams".
use Rattle.std.specs.Prelude.{Bool, true, false, not, cond, ◌&&◌, List, [], ◌∷◌, ◌++◌, ℕ, ◌+◌, take, Float, Option, Some, None}
use Rattle.leaf_node.specs.Record.{Record}
use Rattle.leaf_work.specs.Tests.{same_bytes}
use Rattle.melt_weight.specs.declared.Weight.{Weight}
use Rattle.melt_weight.specs.declared.Weight.TheVariants.{Piece, Sprue, Factor}
use Rattle.melt_weight.specs.Weight.{body_of, is_kind, weight_of}

-- "The first 24 key bytes name the tree; its flagged records are skipped."
abbrev pub of_tree : List ℕ → Record → Bool
of_tree tree r = not r.flag && same_bytes (take 24 r.key) tree

-- the tree's weights among records, in their order: "Read, a record is a piece, a sprue or a factor with its number."
abbrev pub weights_in : List ℕ → List Record → List (Option Weight)
weights_in tree [] = []
weights_in tree (r ∷ rs) = elim (of_tree tree r) [ true ↦ weight_of r.value ∷ weights_in tree rs | false ↦ weights_in tree rs ]

-- "add pieces and sprue as whole milligrams"
abbrev pub wax_of : Option Weight → ℕ
wax_of (Some (Piece n)) = n
wax_of (Some (Sprue n)) = n
wax_of (Some (Factor x)) = 0
wax_of None = 0

abbrev pub total : List (Option Weight) → ℕ
total [] = 0
total (w ∷ ws) = wax_of w + total ws

-- No. 19, "another kind, a wrong length or a factor not from 1 to 32", M-106: "a kind 4 or 5 weight above the limit": whether no weight is unknown
abbrev pub is_known : Option Weight → Bool
is_known (Some (Piece n)) = true
is_known (Some (Sprue n)) = true
is_known (Some (Factor x)) = true
is_known None = false

abbrev pub all_known : List (Option Weight) → Bool
all_known [] = true
all_known (w ∷ ws) = is_known w && all_known ws

-- No. 20, "exactly one sprue and one factor": how many there are
abbrev pub sprue_of : Option Weight → ℕ
sprue_of (Some (Piece n)) = 0
sprue_of (Some (Sprue n)) = 1
sprue_of (Some (Factor x)) = 0
sprue_of None = 0

abbrev pub sprues : List (Option Weight) → ℕ
sprues [] = 0
sprues (w ∷ ws) = sprue_of w + sprues ws

abbrev pub factors_of : Option Weight → List Float
factors_of (Some (Piece n)) = []
factors_of (Some (Sprue n)) = []
factors_of (Some (Factor x)) = x ∷ []
factors_of None = []

abbrev pub factors : List (Option Weight) → List Float
factors [] = []
factors (w ∷ ws) = factors_of w ++ factors ws

-- "the factor's bits": the body of a value of kind 3, and those of all values of the tree
abbrev pub bits_of : List ℕ → List ℕ
bits_of v = cond (is_kind 3 9 v) (body_of v ∷ []) []

abbrev pub factor_bits : List ℕ → List Record → List ℕ
factor_bits tree [] = []
factor_bits tree (r ∷ rs) = elim (of_tree tree r) [ true ↦ bits_of r.value ++ factor_bits tree rs | false ↦ factor_bits tree rs ]
