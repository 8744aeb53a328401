-- The separators of the new row have 32 bytes, as tickets want them. Assumes nothing.
use mathlib.Core.Path.{◌≡◌, refl}
use mathlib.Core.Bool.{Bool, true, false, cond, ◌||◌}
use mathlib.Core.Option.{Option, none}
use mathlib.Core.List.{List, [], ◌∷◌, ◌++◌, map}
use Prim.Native.Nat.{ℕ}
use lib.Dec.{eqb}
use lib.ListN.{length}
use Rattle.bit_ops.proofs.Separators.{separator_has_32_bytes}
use Rattle.leaf_node.specs.Record.{Record}
use Rattle.leaf_node.specs.Page.{records}
use Rattle.leaf_node.specs.Fits.{All, nil, cons}
use Rattle.leaf_model.specs.Basics.{joined, nonempty}
use Rattle.leaf_model.specs.Cut.{Cut}
use Rattle.leaf_model.specs.Work.{zero_key, last_key, next_separator, with_separators, separator_after, plan}
use Rattle.leaf_model.proofs.Lists.{all_append}
use Rattle.row_turns.specs.Row.{RowLeaf, cutoff_by, is_from_zero}
use Rattle.row_turns.specs.Changes.{Edit, changed_all, taken, behind}
use Rattle.row_turns.specs.Turns.{Turned, made, load_verdict, digested_to, loaded, turn, turns, nothing_yet, row_turned}

abbrev pub Separated : List RowLeaf → Type 0
Separated xs = All (λ x. length x.separator ≡ 32) xs

record Long (t : Turned) : Type 0 where
  row : Separated t.row
  separator : length t.separator ≡ 32

next_long : (s : List ℕ) (leaf after : List Record) → length s ≡ 32 → length (next_separator s leaf after) ≡ 32
next_long s leaf [] h = h
next_long s leaf (n ∷ ns) h = separator_has_32_bytes (last_key leaf) n.key

pub after_long : (s : List ℕ) (ls : List (List Record)) (left : List Record) → length s ≡ 32 → length (separator_after s ls left) ≡ 32
after_long s [] left h = h
after_long s (l ∷ ls) left h = after_long (next_separator s l (joined ls ++ left)) ls left (next_long s l (joined ls ++ left) h)

pub leaves_long : (size : ℕ) (s : List ℕ) (c : Option (List ℕ)) (m : Bool) (ls : List (List Record)) (left : List Record) → length s ≡ 32 → Separated (map (made size) (with_separators s c m ls left))
leaves_long size s c m [] left h = nil
leaves_long size s c m (l ∷ ls) left h = cons h (leaves_long size (next_separator s l (joined ls ++ left)) c m ls left (next_long s l (joined ls ++ left) h))

module _ (size entries bytes : ℕ) where
  digested_long : (row : List RowLeaf) (s : List ℕ) (c : Option (List ℕ)) (pending : List Record) → Separated row → length s ≡ 32 → Long (digested_to size entries bytes row s c pending)
  digested_long row s c pending a h =
      let p : Cut = plan size c pending in
      record { row = all_append a (leaves_long size s c (nonempty p.left) p.leaves p.left h); separator = after_long s p.leaves p.left h }

  loaded_long : (t : Turned) (s : List ℕ) (c : Option (List ℕ)) (rs : List Record) (es : List Edit) → Long t → length s ≡ 32 → Long (loaded size entries bytes t s c rs es)
  loaded_long t s c rs es w h = go (eqb (load_verdict entries bytes t.kept rs es) 0)
    where
      own : (b : Bool) → length (cond b t.separator s) ≡ 32
      own true = w.separator
      own false = h

      go : (b : Bool) → Long (elim b [
        | true ↦ digested_to size entries bytes t.row (cond (nonempty t.kept) t.separator s) c (changed_all es (t.kept ++ rs))
        | false ↦ record { number = load_verdict entries bytes t.kept rs es; row = t.row; kept = t.kept; separator = t.separator }
      ])
      go true = digested_long t.row _ c (changed_all es (t.kept ++ rs)) w.row (own (nonempty t.kept))
      go false = record { row = w.row; separator = w.separator }

  turn_long : (t : Turned) (x : RowLeaf) (c : Option (List ℕ)) (es : List Edit) → Long t → length x.separator ≡ 32 → Long (turn size entries bytes t x c es)
  turn_long t x c es w h = go (nonempty es || nonempty t.kept)
    where
      go : (b : Bool) → Long (elim b [
        | true ↦ loaded size entries bytes t x.separator c (records x.page) es
        | false ↦ record { number = t.number; row = t.row ++ (x ∷ []); kept = []; separator = t.separator }
      ])
      go true = loaded_long t x.separator c (records x.page) es w h
      go false = record { row = all_append w.row (cons h nil); separator = w.separator }

  turns_long : (t : Turned) {xs : List RowLeaf} (es : List Edit) → Long t → Separated xs → Long (turns size entries bytes t xs es)
  turns_long t es w nil = w
  turns_long t es w (cons {x} {xs} h a) =
      go (eqb t.number 0) (turns_long (turn size entries bytes t x (cutoff_by xs) (taken (cutoff_by xs) es)) (behind (cutoff_by xs) es) (turn_long t x (cutoff_by xs) (taken (cutoff_by xs) es) w h) a)
    where
      go : (b : Bool) → Long (turns size entries bytes (turn size entries bytes t x (cutoff_by xs) (taken (cutoff_by xs) es)) xs (behind (cutoff_by xs) es))
          → Long (elim b [ true ↦ turns size entries bytes (turn size entries bytes t x (cutoff_by xs) (taken (cutoff_by xs) es)) xs (behind (cutoff_by xs) es) | false ↦ t ])
      go true ih = ih
      go false ih = w

  nothing_long : Long (nothing_yet size entries bytes)
  nothing_long = record { row = nil; separator = refl }

  first_long : {xs : List RowLeaf} → Separated xs → Separated (is_from_zero xs)
  first_long nil = nil
  first_long (cons h a) = cons refl a

  pub separators_of_the_new_row_have_32_bytes : (xs : List RowLeaf) (es : List Edit) → Separated xs → Separated (is_from_zero (row_turned size entries bytes xs es).row)
  separators_of_the_new_row_have_32_bytes [] [] a = nil
  separators_of_the_new_row_have_32_bytes [] (e ∷ es) a = first_long (loaded_long (nothing_yet size entries bytes) zero_key none [] (e ∷ es) nothing_long refl).row
  separators_of_the_new_row_have_32_bytes (x ∷ xs) es a = first_long (turns_long (nothing_yet size entries bytes) es nothing_long a).row
