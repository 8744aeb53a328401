-- Document 02, M-101: what the row call answers and leaves, by `row_check`'s `row_outcome`; primes are what is there after it.
use Rattle.std.specs.Prelude.{◌≡◌, Bool, not, ◌&&◌, List, ℕ, eqb, length, replicate, Result, Ok, Err}
use Rattle.refusal.specs.declared.Refusal.{Refusal}
use Rattle.refusal.specs.Numbers.{number}
use Rattle.bit_ops.specs.Steps.{zeros}
use Rattle.leaf_node.specs.Fits.{All}
use Rattle.leaf_work.specs.declared.Entry.{Entry}
use Rattle.leaf_work.specs.Lent.{blank}
use Rattle.row_turns.specs.Turns.{row_turned}
use Rattle.row_changes.specs.Packed.{edits_of}
use Rattle.row_check.specs.Verdict.{row_of}
use Rattle.row_check.specs.Outcome.{row_outcome}
use Rattle.row_leaf.specs.declared.LentRow.{LentRow}
use Rattle.row_leaf.specs.declared.RowAt.{RowAt}
use Rattle.row_leaves.specs.Turns.{TurnedTo}
use Rattle.row_apply.specs.declared.LeafRow.{LeafRow}

-- "an empty row opens without a base"
abbrev pub is_bare : ℕ → ℕ → Bool
is_bare leaves changes = eqb leaves 0 && not (eqb changes 0)

-- "It answers the page count", for C beside the refusal's number
abbrev pub row_reply : Result ℕ Refusal → LeafRow
row_reply (Ok pages) = record { refusal = 0; pages = pages }
row_reply (Err refusal) = record { refusal = number refusal; pages = 0 }

module _ (list : List Entry) (store pages : List ℕ) (separators changes : List (List ℕ)) (values area tickets : List ℕ) where
  abbrev pub RowTaken : Result RowAt Refusal → List Entry → List ℕ → List ℕ → List ℕ → Type 0
  RowTaken r list' store' area' tickets' =
      TurnedTo area tickets (row_turned 4096 (length list) (length store) (row_of 4096 pages separators) (edits_of changes values)) r list' store' area' tickets'

  -- the contract's words: reply, list, store, area and tickets, refused or not
  pub record RowSays (r : LeafRow) (list' : List Entry) (store' area' tickets' : List ℕ) : Type 0 where
    pub refusal_is : r.refusal ≡ (row_outcome 4096 list store pages separators changes values area tickets).refusal
    pub pages_are : r.pages ≡ (row_outcome 4096 list store pages separators changes values area tickets).count
    pub list_is : list' ≡ (row_outcome 4096 list store pages separators changes values area tickets).list
    pub store_is : store' ≡ (row_outcome 4096 list store pages separators changes values area tickets).store
    pub area_is : area' ≡ (row_outcome 4096 list store pages separators changes values area tickets).area
    pub tickets_are : tickets' ≡ (row_outcome 4096 list store pages separators changes values area tickets).tickets

module _ (list : List Entry) (store : List ℕ) (lent : LentRow) (area tickets : List ℕ) where
  -- the same by what a row call only reads
  abbrev pub TakenTo : Result RowAt Refusal → List Entry → List ℕ → List ℕ → List ℕ → Type 0
  TakenTo r list' store' area' tickets' = RowTaken list store lent.row.pages.now lent.row.separators.now lent.changes.now lent.values.now area tickets r list' store' area' tickets'

  abbrev pub LentSays : Result ℕ Refusal → List Entry → List ℕ → List ℕ → List ℕ → Type 0
  LentSays r list' store' area' tickets' = RowSays list store lent.row.pages.now lent.row.separators.now lent.changes.now lent.values.now area tickets (row_reply r) list' store' area' tickets'

-- keys have 32 bytes, changes 40
pub record RowLent (lent : LentRow) : Type 0 where
  pub keyed : All (λ s. length s ≡ 32) lent.row.separators.now
  pub packed : All (λ c. length c ≡ 40) lent.changes.now

-- "on 15 or 16 in the middle, all else checked, it fills area, tickets, list and store with zeros"
abbrev pub RowClosed : Result RowAt Refusal → List Entry → List ℕ → List ℕ → List ℕ → Result ℕ Refusal → List Entry → List ℕ → List ℕ → List ℕ → Type 0
RowClosed (Ok at) list store area tickets r list' store' area' tickets' = (r ≡ Ok at.leaves) × (list' ≡ list) × (store' ≡ store) × (area' ≡ area) × (tickets' ≡ tickets)
RowClosed (Err refusal) list store area tickets r list' store' area' tickets' =
    (r ≡ Err refusal) × (list' ≡ replicate (length list) blank) × (store' ≡ zeros (length store)) × (area' ≡ zeros (length area)) × (tickets' ≡ zeros (length tickets))
