-- Document 02, M-104 and M-106: what is to be proved of every sheet.
use Rattle.std.specs.Prelude.{◌≡◌, true, false, List, [], ◌∷◌, ℕ, ◌*◌, ◌^◌, ◌≤◌}
use Rattle.std.specs.Float.{binary64}
use Rattle.std.specs.Float.Ieee.{to_bits}
use Rattle.std.specs.Float.Ieee.Positive.{num, den}
use Rattle.leaf_node.specs.Record.{Record}
use Rattle.melt_weight.specs.declared.LeafMelt.{LeafMelt}
use Rattle.melt_weight.specs.Sheet.{digits_of, shift_of, Near}
use Rattle.melt_weight.specs.Weight.{FourBytes, widened}
use Rattle.melt_scale.specs.Tree.{of_tree, factor_bits}

-- "the rounded product differs from the exact one by at most one part in 2 to the 53rd of it, the exact one taken as whole numbers from the factor's bits":
-- among the records rs the tree has one factor record; the reply's factor is its bits; and the product, as a fraction of whole numbers, is that near to
-- total * digits / 2 ^ shift of those bits
pub record RoundedOnce (tree : List ℕ) (rs : List Record) (m : LeafMelt) : Type 0 where
  pub bits : ℕ
  pub one_factor : factor_bits tree rs ≡ bits ∷ []
  pub own_bits : to_bits binary64 m.factor ≡ bits
  pub near : Near (num m.product) (den m.product) (m.total * digits_of bits) (2 ^ shift_of bits)

-- "the smallest whole milligram not below that product"
pub record LeastWhole (m : LeafMelt) : Type 0 where
  pub not_below : num m.product ≤ m.melt * den m.product
  pub smallest : (k : ℕ) → num m.product ≤ k * den m.product → m.melt ≤ k

-- ---- M-106: "rewriting one as 4 or 5 gives the same weight"

-- the records ss are the records rs with weights of the tree rewritten, as many of them as one likes, from kind 1 to 4 and from 2 to 5; the tree's other
-- unflagged records have the values that they had, and records that aren't the tree's, or are flagged, may come and go
pub data Rewritten (tree : List ℕ) : List Record → List Record → Type 0 where
  no_record : Rewritten tree [] []
  other_before : {r : Record} {rs ss : List Record} → of_tree tree r ≡ false → Rewritten tree rs ss → Rewritten tree (r ∷ rs) ss
  other_after : {s : Record} {rs ss : List Record} → of_tree tree s ≡ false → Rewritten tree rs ss → Rewritten tree rs (s ∷ ss)
  kept : {r s : Record} {rs ss : List Record} → of_tree tree r ≡ true → of_tree tree s ≡ true → s.value ≡ r.value → Rewritten tree rs ss → Rewritten tree (r ∷ rs) (s ∷ ss)
  piece : {r s : Record} {rs ss : List Record} (b : List ℕ) → FourBytes b → of_tree tree r ≡ true → of_tree tree s ≡ true → r.value ≡ 1 ∷ b → s.value ≡ 4 ∷ widened b
      → Rewritten tree rs ss → Rewritten tree (r ∷ rs) (s ∷ ss)
  sprue : {r s : Record} {rs ss : List Record} (b : List ℕ) → FourBytes b → of_tree tree r ≡ true → of_tree tree s ≡ true → r.value ≡ 2 ∷ b → s.value ≡ 5 ∷ widened b
      → Rewritten tree rs ss → Rewritten tree (r ∷ rs) (s ∷ ss)
