-- Document 02, M-101: "on 15 or 16 in the middle". The turns are refused by no other number. Assumes nothing.
use mathlib.Core.Bool.{Bool, true, false, cond, ◌||◌}
use mathlib.Core.Option.{Option, none}
use mathlib.Core.List.{List, [], ◌∷◌, ◌++◌}
use Prim.Native.Nat.{ℕ}
use lib.Dec.{eqb, leb}
use lib.ListN.{length}
use Rattle.leaf_node.specs.Record.{Record, total}
use Rattle.leaf_node.specs.Page.{records}
use Rattle.leaf_model.specs.Basics.{nonempty}
use Rattle.leaf_model.specs.Work.{zero_key}
use Rattle.leaf_model.specs.Tally.{changed}
use Rattle.leaf_work.specs.Verdict.{unless, first}
use Rattle.row_turns.specs.Row.{RowLeaf, cutoff_by}
use Rattle.row_turns.specs.Changes.{Edit, changed_all, taken, behind}
use Rattle.row_turns.specs.Turns.{Turned, room_verdict, rooms_verdict, load_verdict, digested_to, loaded, turn, turns, nothing_yet, row_turned}

pub data InTheMiddle : ℕ → Type 0 where
  not_refused : InTheMiddle 0
  list_full : InTheMiddle 15
  store_full_lem : InTheMiddle 16

first_of : (v w : ℕ) → InTheMiddle v → InTheMiddle w → InTheMiddle (first v w)
first_of v w a b = go (eqb v 0)
  where
    go : (t : Bool) → InTheMiddle (elim t [ true ↦ w | false ↦ v ])
    go true = b
    go false = a

module _ (entries bytes : ℕ) where
  room_number : (pending : List Record) → InTheMiddle (room_verdict entries bytes pending)
  room_number pending = go (leb (length pending) entries) (leb (total pending) bytes)
    where
      go : (a b : Bool) → InTheMiddle (unless 15 a (unless 16 b 0))
      go true true = not_refused
      go true false = store_full_lem
      go false b = list_full

  rooms_number : (es : List Edit) (pending : List Record) → InTheMiddle (rooms_verdict entries bytes es pending)
  rooms_number [] pending = not_refused
  rooms_number (e ∷ es) pending = first_of _ _ (room_number (changed e.key e.change pending)) (rooms_number es (changed e.key e.change pending))

  load_number : (kept rs : List Record) (es : List Edit) → InTheMiddle (load_verdict entries bytes kept rs es)
  load_number kept rs es = first_of _ _ (go (nonempty kept)) (rooms_number es (kept ++ rs))
    where
      go : (b : Bool) → InTheMiddle (cond b (room_verdict entries bytes (kept ++ rs)) 0)
      go true = room_number (kept ++ rs)
      go false = not_refused

  module _ (size : ℕ) where
    abbrev number_of : Turned → ℕ
    number_of t = t.number

    loaded_number : (t : Turned) (s : List ℕ) (c : Option (List ℕ)) (rs : List Record) (es : List Edit) → InTheMiddle (loaded size entries bytes t s c rs es).number
    loaded_number t s c rs es = go (eqb (load_verdict entries bytes t.kept rs es) 0)
      where
        refused : Turned
        refused = record { number = load_verdict entries bytes t.kept rs es; row = t.row; kept = t.kept; separator = t.separator }

        go : (b : Bool) → InTheMiddle (number_of (elim b [
          | true ↦ digested_to size entries bytes t.row (cond (nonempty t.kept) t.separator s) c (changed_all es (t.kept ++ rs))
          | false ↦ refused
        ]))
        go true = not_refused
        go false = load_number t.kept rs es

    turn_number_lem : (t : Turned) (x : RowLeaf) (c : Option (List ℕ)) (es : List Edit) → InTheMiddle t.number → InTheMiddle (turn size entries bytes t x c es).number
    turn_number_lem t x c es h = go (nonempty es || nonempty t.kept)
      where
        copied : Turned
        copied = record { number = t.number; row = t.row ++ (x ∷ []); kept = []; separator = t.separator }

        go : (b : Bool) → InTheMiddle (number_of (elim b [ true ↦ loaded size entries bytes t x.separator c (records x.page) es | false ↦ copied ]))
        go true = loaded_number t x.separator c (records x.page) es
        go false = h

    turns_number : (t : Turned) (xs : List RowLeaf) (es : List Edit) → InTheMiddle t.number → InTheMiddle (turns size entries bytes t xs es).number
    turns_number t [] es h = h
    turns_number t (x ∷ xs) es h =
        go (eqb t.number 0) (turns_number next xs (behind (cutoff_by xs) es) (turn_number_lem t x (cutoff_by xs) (taken (cutoff_by xs) es) h))
      where
        next : Turned
        next = turn size entries bytes t x (cutoff_by xs) (taken (cutoff_by xs) es)

        go : (b : Bool) → InTheMiddle (turns size entries bytes next xs (behind (cutoff_by xs) es)).number
            → InTheMiddle (number_of (elim b [ true ↦ turns size entries bytes next xs (behind (cutoff_by xs) es) | false ↦ t ]))
        go true ih = ih
        go false ih = h

    pub in_the_middle_15_or_16 : (xs : List RowLeaf) (es : List Edit) → InTheMiddle (row_turned size entries bytes xs es).number
    in_the_middle_15_or_16 [] [] = not_refused
    in_the_middle_15_or_16 [] (e ∷ es) = loaded_number (nothing_yet size entries bytes) zero_key none [] (e ∷ es)
    in_the_middle_15_or_16 (x ∷ xs) es = turns_number (nothing_yet size entries bytes) (x ∷ xs) es not_refused
