-- Document 02, M-101: "For every key, lookup in the new row gives the change if there is one, else the old value and flag, or absence."
-- What lookup answers is a value with its flag, as a change has them, or absence.
use Rattle.std.specs.Prelude.{true, false, List, [], ◌∷◌, ℕ, take, drop, Result, Ok, Err}
use Rattle.std.proofs.Math.Option.{Option, none, some}
use Rattle.bit_ops.specs.Key.{eq_key}
use Rattle.leaf_node.specs.declared.Cell.{Cell}
use Rattle.leaf_read.specs.Reply.{get_reply}
use Rattle.leaf_model.specs.Work.{Change, below_cutoff}
use Rattle.row_turns.specs.Row.{RowLeaf, cutoff_by}
use Rattle.row_turns.specs.Changes.{Edit}

-- in a page, by what `leaf_page_get` answers: the bytes at the place that it names
abbrev pub answered : List ℕ → Result (Result Cell ℕ) ℕ → Option Change
answered page (Err n) = none
answered page (Ok (Err i)) = none
answered page (Ok (Ok c)) = some (record { value = take c.len (drop c.offset page); flag = c.flag })

-- in a row: by its leaf in whose range the key lies, the last one whose separator isn't above it
abbrev pub lookup : ℕ → List ℕ → List RowLeaf → Option Change
lookup size k [] = none
lookup size k (x ∷ xs) = elim (below_cutoff (cutoff_by xs) k) [ true ↦ answered x.page (get_reply size x.page k) | false ↦ lookup size k xs ]

-- "the change if there is one, else the old value and flag, or absence": a deletion gives absence
abbrev pub expected : List ℕ → List Edit → Option Change → Option Change
expected k [] old = old
expected k (e ∷ es) old = elim (eq_key k e.key) [ true ↦ e.change | false ↦ expected k es old ]
