-- Document 02, M-101: "the turn-taking of `run_worker`", leaf by leaf, over records.
use Rattle.std.specs.Prelude.{true, false, cond, ◌||◌, List, [], ◌∷◌, ◌++◌, map, ℕ, leb, eqb, length}
use Rattle.std.proofs.Math.Option.{Option, none}
use Rattle.refusal.specs.Refusal.{accepted, list_full, store_full}
use Rattle.leaf_node.specs.Record.{Record, total}
use Rattle.leaf_node.specs.Page.{records}
use Rattle.leaf_node.specs.Build.{build}
use Rattle.leaf_model.specs.Basics.{nonempty}
use Rattle.leaf_model.specs.Cut.{Cut}
use Rattle.leaf_model.specs.Work.{Leaf, zero_key, plan, leaves_by, separator_after}
use Rattle.leaf_model.specs.Tally.{changed}
use Rattle.leaf_work.specs.Verdict.{unless, first}
use Rattle.row_turns.specs.Row.{RowLeaf, cutoff_by}
use Rattle.row_turns.specs.Changes.{Edit, changed_all, taken, behind}

-- what the turns have come to: 0, or the refusal in the middle; the new row so far; the records that wait for a merge, and where their leaf begins
pub record Turned : Type 0 where
  pub number : ℕ
  pub row : List RowLeaf
  pub kept : List Record
  pub separator : List ℕ

-- a leaf that a digest gives, written as its page
abbrev pub made : ℕ → Leaf → RowLeaf
made size l = record { separator = l.separator; page = build size l.records }

-- ---- "on 15 or 16 in the middle"

-- the room that list and store have for what is pending
abbrev pub room_verdict : ℕ → ℕ → List Record → ℕ
room_verdict entries bytes pending = unless list_full (leb (length pending) entries) (unless store_full (leb (total pending) bytes) accepted)

-- after each change
abbrev pub rooms_verdict : ℕ → ℕ → List Edit → List Record → ℕ
rooms_verdict entries bytes [] pending = accepted
rooms_verdict entries bytes (e ∷ es) pending =
    first (room_verdict entries bytes (changed e.key e.change pending)) (rooms_verdict entries bytes es (changed e.key e.change pending))

-- of a leaf with the records rs that takes the changes es: a merge asks for room first, which an opening doesn't
abbrev pub load_verdict : ℕ → ℕ → List Record → List Record → List Edit → ℕ
load_verdict entries bytes kept rs es = first (cond (nonempty kept) (room_verdict entries bytes (kept ++ rs)) accepted) (rooms_verdict entries bytes es (kept ++ rs))

-- ---- the turns: list and store have room for so many entries and bytes

module _ (size entries bytes : ℕ) where
  -- a digest of what is pending, whose first leaf begins at s; "a wiped leaf vanishes", since nothing pending gives no leaf
  abbrev pub digested_to : List RowLeaf → List ℕ → Option (List ℕ) → List Record → Turned
  digested_to row s cutoff pending =
      let p : Cut = plan size cutoff pending in
      record { number = accepted; row = row ++ map (made size) (leaves_by s cutoff p); kept = p.left; separator = separator_after s p.leaves p.left }

  -- a leaf with the separator s and the records rs is loaded behind what waits, and takes the changes es; what waits begins where it began
  abbrev pub loaded : Turned → List ℕ → Option (List ℕ) → List Record → List Edit → Turned
  loaded t s cutoff rs es = elim (eqb (load_verdict entries bytes t.kept rs es) accepted) [
    | true ↦ digested_to t.row (cond (nonempty t.kept) t.separator s) cutoff (changed_all es (t.kept ++ rs))
    | false ↦ record { number = load_verdict entries bytes t.kept rs es; row = t.row; kept = t.kept; separator = t.separator }
  ]

  -- "Load only leaves whose range takes a change's key, or that a merge asks for. Others are copied over with their separators."
  abbrev pub turn : Turned → RowLeaf → Option (List ℕ) → List Edit → Turned
  turn t x cutoff es = elim (nonempty es || nonempty t.kept) [
    | true ↦ loaded t x.separator cutoff (records x.page) es
    | false ↦ record { number = t.number; row = t.row ++ (x ∷ []); kept = []; separator = t.separator }
  ]

  -- leaf after leaf, up to a refusal
  abbrev pub turns : Turned → List RowLeaf → List Edit → Turned
  turns t [] es = t
  turns t (x ∷ xs) es = elim (eqb t.number accepted) [
    | true ↦ turns (turn t x (cutoff_by xs) (taken (cutoff_by xs) es)) xs (behind (cutoff_by xs) es)
    | false ↦ t
  ]

  abbrev pub nothing_yet : Turned
  nothing_yet = record { number = accepted; row = []; kept = []; separator = zero_key }

  -- "an empty row opens without a base"
  abbrev pub row_turned : List RowLeaf → List Edit → Turned
  row_turned [] [] = nothing_yet
  row_turned [] (e ∷ es) = loaded nothing_yet zero_key none [] (e ∷ es)
  row_turned (x ∷ xs) es = turns nothing_yet (x ∷ xs) es
