-- Document 02, M-101: the turns of a row, leaf after leaf, by the definitions of `row_turns`.
use Rattle.std.specs.Prelude.{◌≡◌, true, false, List, ℕ, length, replicate, None, Result, IfOk}
use Rattle.refusal.specs.declared.Refusal.{Refusal}
use Rattle.refusal.specs.Numbers.{number_of}
use Rattle.bit_ops.specs.Steps.{zeros}
use Rattle.leaf_node.specs.Ticket.{packed_all}
use Rattle.leaf_node.specs.Fits.{All}
use Rattle.leaf_model.specs.Basics.{joined}
use Rattle.leaf_model.specs.Work.{zero_key}
use Rattle.leaf_work.specs.declared.Entry.{Entry}
use Rattle.leaf_work.specs.Lent.{blank}
use Rattle.leaf_work.specs.Digest.{overwrite}
use Rattle.row_turns.specs.Row.{RowLeaf, is_from_zero, row_tickets, pages_of}
use Rattle.row_turns.specs.Turns.{Turned, nothing_yet, turns}
use Rattle.row_changes.specs.Packed.{edits_of}
use Rattle.row_check.specs.Verdict.{row_of, row_verdict}
use Rattle.row_leaf.specs.declared.LentRow.{LentRow}
use Rattle.row_leaf.specs.declared.RowAt.{RowAt}
use Rattle.row_leaf.specs.declared.Turn.{Turn}
use Rattle.row_leaf.specs.Leaf.{leaf_at, changes_end, is_loaded, CopyThere, LeafCopied}
use Rattle.row_leaf.specs.Load.{LoadAsked, LoadGiven}

-- ---- one leaf

abbrev pub to_by : RowAt → ℕ → List (List ℕ) → List (List ℕ) → ℕ
to_by at i separators changes = changes_end changes at.change (leaf_at separators i)

abbrev pub turn_by : RowAt → List (List ℕ) → List (List ℕ) → ℕ → Turn
turn_by at separators changes i = record { at = at; leaf = leaf_at separators i; to = to_by at i separators changes }

module _ (t : Turn) (list : List Entry) (store : List ℕ) (lent : LentRow) (area tickets : List ℕ) where
  pub record TurnThere : Type 0 where
    pub loads : is_loaded t.at t.to ≡ true → LoadAsked t list store lent area tickets
    pub copies : is_loaded t.at t.to ≡ false → CopyThere t.at t.leaf lent.row.pages.now area tickets

  -- a copy is never refused, and leaves list and store as they were
  pub record CopiedOnly (r : Result RowAt Refusal) (list' : List Entry) (store' area' tickets' : List ℕ) : Type 0 where
    pub accepted : number_of r ≡ 0
    pub copied : IfOk r (λ x. LeafCopied t.at t.leaf lent.row.pages.now area tickets x area' tickets')
    pub list_is : list' ≡ list
    pub store_is : store' ≡ store

  -- "Load only leaves whose range takes a change's key, or that a merge asks for. Others are copied over with their separators."
  pub record LeafTurned (r : Result RowAt Refusal) (list' : List Entry) (store' area' tickets' : List ℕ) : Type 0 where
    pub loaded : is_loaded t.at t.to ≡ true → LoadGiven t list store lent area tickets r list' store' area' tickets'
    pub copied : is_loaded t.at t.to ≡ false → CopiedOnly r list' store' area' tickets'
    pub list_long : length list' ≡ length list
    pub store_long : length store' ≡ length store
    pub area_long : length area' ≡ length area
    pub tickets_long : length tickets' ≡ length tickets

-- ---- leaf after leaf

abbrev pub nothing_at : RowAt
nothing_at = record { leaves = 0; last = zero_key; change = 0; value = 0; waiting = None }

-- a row that passed, with list and store cleared; keys have 32 bytes, changes 40
pub record RowThere (list : List Entry) (store pages : List ℕ) (separators changes : List (List ℕ)) (values area tickets : List ℕ) : Type 0 where
  pub passed : row_verdict 4096 (length list) (length store) pages separators changes (length values) (length area) (length tickets) ≡ 0
  pub keyed : All (λ s. length s ≡ 32) separators
  pub packed : All (λ c. length c ≡ 40) changes
  pub list_clear : list ≡ replicate (length list) blank
  pub store_clear : store ≡ zeros (length store)

-- the new row is written: "The new row is written as digest's leaves are", "leaves list and store zero"
pub record RowWritten (row : List RowLeaf) (area tickets : List ℕ) (r : RowAt) (list' : List Entry) (store' area' tickets' : List ℕ) : Type 0 where
  pub leaves_are : r.leaves ≡ length row
  pub list_is : list' ≡ replicate (length list') blank
  pub store_is : store' ≡ zeros (length store')
  pub area_is : area' ≡ overwrite (joined (pages_of row)) area
  pub tickets_are : tickets' ≡ overwrite (packed_all (row_tickets row)) tickets

-- of a row by the turns t that it came to
pub record TurnedTo (area tickets : List ℕ) (t : Turned) (r : Result RowAt Refusal) (list' : List Entry) (store' area' tickets' : List ℕ) : Type 0 where
  pub number_is : number_of r ≡ t.number
  pub written : IfOk r (λ x. RowWritten (is_from_zero t.row) area tickets x list' store' area' tickets')

module _ (list : List Entry) (store pages : List ℕ) (separators changes : List (List ℕ)) (values area tickets : List ℕ) where
  -- what the turns of all leaves come to
  abbrev pub turned : Turned
  turned = turns 4096 (length list) (length store) (nothing_yet 4096 (length list) (length store)) (row_of 4096 pages separators) (edits_of changes values)

  abbrev pub RowTurned : Result RowAt Refusal → List Entry → List ℕ → List ℕ → List ℕ → Type 0
  RowTurned r list' store' area' tickets' = TurnedTo area tickets turned r list' store' area' tickets'

-- the same by what a row call only reads
abbrev pub RowAsked : List Entry → List ℕ → LentRow → List ℕ → List ℕ → Type 0
RowAsked list store lent area tickets = RowThere list store lent.row.pages.now lent.row.separators.now lent.changes.now lent.values.now area tickets

abbrev pub RowGiven : List Entry → List ℕ → LentRow → List ℕ → List ℕ → Result RowAt Refusal → List Entry → List ℕ → List ℕ → List ℕ → Type 0
RowGiven list store lent area tickets = RowTurned list store lent.row.pages.now lent.row.separators.now lent.changes.now lent.values.now area tickets
