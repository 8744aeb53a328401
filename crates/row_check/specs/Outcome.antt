-- Document 02, M-101: the row call whole, what it answers and every lent byte after it.
use Rattle.std.specs.Prelude.{true, false, List, map, ℕ, eqb, length, replicate}
use Rattle.refusal.specs.Refusal.{accepted}
use Rattle.bit_ops.specs.Steps.{zeros}
use Rattle.leaf_node.specs.Ticket.{packed_all, read_tickets}
use Rattle.leaf_model.specs.Basics.{joined}
use Rattle.leaf_work.specs.declared.Entry.{Entry}
use Rattle.leaf_work.specs.Lent.{blank}
use Rattle.leaf_work.specs.Digest.{overwrite}
use Rattle.row_turns.specs.Row.{RowLeaf, is_from_zero, row_tickets, pages_of}
use Rattle.row_turns.specs.Turns.{Turned, row_turned}
use Rattle.row_changes.specs.Packed.{edits_of}
use Rattle.row_check.specs.Verdict.{row_of, row_verdict}

-- 0 or a refusal, "the page count", and what is lent and may change
pub record RowOutcome : Type 0 where
  pub refusal : ℕ
  pub count : ℕ
  pub list : List Entry
  pub store : List ℕ
  pub area : List ℕ
  pub tickets : List ℕ

module _ (size : ℕ) (list : List Entry) (store pages : List ℕ) (separators changes : List (List ℕ)) (values area tickets : List ℕ) where
  -- the refusal before any turn is taken, and what the turns come to
  abbrev pub row_number : ℕ
  row_number = row_verdict size (length list) (length store) pages separators changes (length values) (length area) (length tickets)

  abbrev pub row_turns : Turned
  row_turns = row_turned size (length list) (length store) (row_of size pages separators) (edits_of changes values)

  -- demand 1: a refused call changes no byte
  abbrev pub refused_row : ℕ → RowOutcome
  refused_row n = record { refusal = n; count = 0; list = list; store = store; area = area; tickets = tickets }

  -- "on 15 or 16 in the middle, all else checked, it fills area, tickets, list and store with zeros, the one refusal exempt from demand 1's rule"
  abbrev pub cleared_row : ℕ → RowOutcome
  cleared_row n = record {
    refusal = n;
    count = 0;
    list = replicate (length list) blank;
    store = zeros (length store);
    area = zeros (length area);
    tickets = zeros (length tickets);
  }

  -- "The new row is written as digest's leaves are", "leaves list and store zero"; document 01: "Later bytes of both buffers keep what they held."
  abbrev pub written_row : List RowLeaf → RowOutcome
  written_row row = record {
    refusal = accepted;
    count = length row;
    list = replicate (length list) blank;
    store = zeros (length store);
    area = overwrite (joined (pages_of row)) area;
    tickets = overwrite (packed_all (row_tickets row)) tickets;
  }

  unfoldable pub row_outcome : RowOutcome
  row_outcome = elim (eqb row_number accepted) [
    | true ↦ elim (eqb row_turns.number accepted) [ true ↦ written_row (is_from_zero row_turns.row) | false ↦ cleared_row row_turns.number ]
    | false ↦ refused_row row_number
  ]

-- the row that area and tickets hold: their first n pages and tickets
abbrev pub row_in : ℕ → ℕ → List ℕ → List ℕ → List RowLeaf
row_in size n area tickets = row_of size area (map (λ t. t.separator) (read_tickets n tickets))
