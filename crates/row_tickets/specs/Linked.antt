-- Document 02, M-101: "The new row is written as digest's leaves are, its cutoffs its next separators likewise." What a leaf that comes behind n others writes: its own ticket, which has no
-- cutoff yet, and its separator as the cutoff of the one before it.
use Rattle.std.specs.Prelude.{true, false, List, [], ◌∷◌, map, ℕ, ◌+◌, ◌-◌, ◌*◌, eqb}
use Rattle.std.proofs.Math.Option.{none, some}
use Rattle.leaf_node.specs.Build.{put}
use Rattle.leaf_node.specs.Ticket.{packed_with, read_tickets}
use Rattle.leaf_model.specs.Work.{zero_key}

-- "the first remaining leaf gets the zero separator"
abbrev pub separator_at : ℕ → List ℕ → List ℕ
separator_at n s = elim (eqb n 0) [ true ↦ zero_key | false ↦ s ]

abbrev pub linked : ℕ → List ℕ → List ℕ → List ℕ → List ℕ
linked n last s d = elim (eqb n 0) [
  | true ↦ put d 0 (packed_with zero_key none)
  | false ↦ put (put d (65 * n - 65) (packed_with last (some s))) (65 * n) (packed_with s none)
]

-- leaf after leaf, by their separators
abbrev pub linked_all : ℕ → List ℕ → List (List ℕ) → List ℕ → List ℕ
linked_all n last [] d = d
linked_all n last (s ∷ ss) d = linked_all (n + 1) (separator_at n s) ss (linked n last s d)

abbrev pub last_linked : ℕ → List ℕ → List (List ℕ) → List ℕ
last_linked n last [] = last
last_linked n last (s ∷ ss) = last_linked (n + 1) (separator_at n s) ss

-- the separators of the first tickets of a buffer
abbrev pub separators_read : ℕ → List ℕ → List (List ℕ)
separators_read count bytes = map (λ t. t.separator) (read_tickets count bytes)
