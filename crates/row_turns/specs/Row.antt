-- Document 02, M-101: a row of leaves, which the call takes and which it writes.
use Rattle.std.specs.Prelude.{◌≡◌, true, List, [], ◌∷◌, ◌++◌, map, ℕ, ◌≤◌}
use Rattle.std.proofs.Math.Option.{Option, none, some}
use Rattle.leaf_node.specs.Limits.{body_limit, merge_below}
use Rattle.leaf_node.specs.Record.{body}
use Rattle.leaf_node.specs.Page.{records}
use Rattle.leaf_node.specs.Good.{Good}
use Rattle.leaf_node.specs.Fits.{All}
use Rattle.leaf_node.specs.Ticket.{Ticket}
use Rattle.leaf_model.specs.Work.{zero_key, below_cutoff}
use Rattle.leaf_model.specs.Claim.{Le}

-- a leaf of a row: "pages with rising separators"
pub record RowLeaf : Type 0 where
  pub separator : List ℕ
  pub page : List ℕ

-- "each leaf's cutoff being the next separator, the last having none": the cutoff of a leaf, by the leaves behind it
abbrev pub cutoff_by : List RowLeaf → Option (List ℕ)
cutoff_by [] = none
cutoff_by (x ∷ xs) = some x.separator

-- a leaf with the cutoff c as a row has it: a good page, its keys at or above its separator and below the cutoff, which is above the separator
pub record LeafRight (size : ℕ) (x : RowLeaf) (c : Option (List ℕ)) : Type 0 where
  pub good : Good size x.page
  pub above : All (λ r. Le x.separator r.key) (records x.page)
  pub below : All (λ r. below_cutoff c r.key ≡ true) (records x.page)
  pub cut : below_cutoff c x.separator ≡ true

-- "a row .. with rising separators"
pub data IsRow (size : ℕ) : List RowLeaf → Type 0 where
  row[] : IsRow size []
  row∷ : {x : RowLeaf} {xs : List RowLeaf} → LeafRight size x (cutoff_by xs) → IsRow size xs → IsRow size (x ∷ xs)

-- "the first all zeros"
pub data FromZero : List RowLeaf → Type 0 where
  no_leaf : FromZero []
  first_leaf : {x : RowLeaf} {xs : List RowLeaf} → x.separator ≡ zero_key → FromZero (x ∷ xs)

-- ---- the new row

-- "the first remaining leaf gets the zero separator"
abbrev pub is_from_zero : List RowLeaf → List RowLeaf
is_from_zero [] = []
is_from_zero (x ∷ xs) = record { separator = zero_key; page = x.page } ∷ xs

-- "The new row is written as digest's leaves are, its cutoffs its next separators likewise."
abbrev pub row_tickets : List RowLeaf → List Ticket
row_tickets [] = []
row_tickets (x ∷ xs) = record { separator = x.separator; cutoff = cutoff_by xs } ∷ row_tickets xs

-- ---- "Demand 3's lower limit speaks of leaves made, not copied."

pub data Among {A : Type 0} (x : A) : List A → Type 0 where
  here : {xs : List A} → Among x (x ∷ xs)
  there : {y : A} {xs : List A} → Among x xs → Among x (y ∷ xs)

-- a page of the new row is one of the old, or was made: its body is 2,047 to 4,094
pub data OldOrMade (size : ℕ) (old : List (List ℕ)) (p : List ℕ) : Type 0 where
  is_old : Among p old → OldOrMade size old p
  is_made : merge_below size ≤ body (records p) → body (records p) ≤ body_limit size → OldOrMade size old p

-- so are all pages of the new row, but the last may have been made with a smaller body, since it has no cutoff
pub data Bodies (size : ℕ) (old : List (List ℕ)) : List (List ℕ) → Type 0 where
  every_page : {ps : List (List ℕ)} → All (OldOrMade size old) ps → Bodies size old ps
  but_the_last : {ps : List (List ℕ)} (p : List ℕ) → All (OldOrMade size old) ps → body (records p) ≤ body_limit size → Bodies size old (ps ++ (p ∷ []))

abbrev pub pages_of : List RowLeaf → List (List ℕ)
pages_of xs = map (λ x. x.page) xs
