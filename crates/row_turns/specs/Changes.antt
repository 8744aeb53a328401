-- Document 02, M-101: "rising changes", which leaf takes which of them, and what they make of records.
use Rattle.std.specs.Prelude.{◌≡◌, true, false, List, [], ◌∷◌, ℕ, ◌+◌, ◌*◌, ◌≤◌, length}
use Rattle.std.proofs.Math.Option.{Option, some}
use Rattle.leaf_node.specs.Limits.{value_limit, pages_asked}
use Rattle.leaf_node.specs.Record.{Record, body}
use Rattle.leaf_node.specs.Fits.{All}
use Rattle.leaf_model.specs.Work.{Change, below_cutoff, inserted}
use Rattle.leaf_model.specs.Tally.{changed}
use Rattle.leaf_model.specs.Claim.{Lt}

-- "entries of a key and either a deletion or a value's length and flag": a key with a new value and flag, or a deletion
pub record Edit : Type 0 where
  pub key : List ℕ
  pub change : Option Change

-- records under changes, one after another, each as the tally has it
abbrev pub changed_all : List Edit → List Record → List Record
changed_all [] rs = rs
changed_all (e ∷ es) rs = changed_all es (changed e.key e.change rs)

-- "leaves whose range takes a change's key": of rising changes those that a leaf with the cutoff c takes, and those for the leaves behind it
abbrev pub taken : Option (List ℕ) → List Edit → List Edit
taken c [] = []
taken c (e ∷ es) = elim (below_cutoff c e.key) [ true ↦ e ∷ taken c es | false ↦ [] ]

abbrev pub behind : Option (List ℕ) → List Edit → List Edit
behind c [] = []
behind c (e ∷ es) = elim (below_cutoff c e.key) [ true ↦ behind c es | false ↦ e ∷ es ]

-- "the inserted bodies": 34 and the value's length for each new value
abbrev pub inserted_body : List Edit → ℕ
inserted_body [] = 0
inserted_body (e ∷ es) = body (inserted e.key e.change) + inserted_body es

-- "The call asks for twice the old pages, plus the inserted bodies / 2047 rounded up": of n old pages and inserted bodies of b
abbrev pub row_pages_asked : ℕ → ℕ → ℕ → ℕ
row_pages_asked size n b = 2 * n + pages_asked size b

-- ---- what Nos. 12 and 13 leave

-- "rising changes": each key is below all that come after it
pub data RisingEdits : List Edit → Type 0 where
  edits[] : RisingEdits []
  edits∷ : {e : Edit} {es : List Edit} → All (λ x. Lt e.key x.key) es → RisingEdits es → RisingEdits (e ∷ es)

-- changes that are let pass: keys of 32 bytes, which rise, and values that a page takes
pub record EditsRight (size : ℕ) (es : List Edit) : Type 0 where
  pub rising : RisingEdits es
  pub fitting : All (λ e. (c : Change) → e.change ≡ some c → length c.value ≤ value_limit size) es
  pub keyed : All (λ e. length e.key ≡ 32) es
