-- The leaf of a row by its index, and which changes it takes, in the bytes that are lent and in the definitions. Assumes nothing.
use Rattle.std.specs.Prelude as std
use mathlib.Core.Path.{◌≡◌, refl, sym, ap, ◌∙◌}
use mathlib.Core.Bool.{Bool, true, false}
use mathlib.Core.Option.{Option}
use mathlib.Core.List.{List, [], ◌∷◌}
use Prim.Native.Nat.{ℕ, zero, suc, ◌+◌, ◌*◌, ◌≤◌, ◌<◌}
use native.Mathlib.Omega.{arith}
use lib.Dec.{ltb}
use lib.ListN.{length, get_or, take, drop}
use lib.Seq.{drop-drop}
use borrow.Author.Tests.{lt-ltb, le-ltb}
use Rattle.leaf_node.specs.Fits.{All, nil, cons}
use Rattle.leaf_model.specs.Basics.{nonempty}
use Rattle.leaf_model.specs.Work.{zero_key, below_cutoff}
use Rattle.leaf_work.specs.Tests.{key_if}
use Rattle.row_turns.specs.Row.{RowLeaf, cutoff_by, IsRow, row∷}
use Rattle.row_turns.specs.Row as row
use Rattle.row_turns.specs.Changes.{Edit, taken, behind}
use Rattle.row_changes.specs.Packed.{key_of, value_length, change_of, edits_of}
use Rattle.row_changes.specs.Tests.{values_length}
use Rattle.row_check.specs.Verdict.{row_of}
use Rattle.row_leaf.specs.Leaf.{count_below}

-- ---- the leaf

-- leaf i, and those behind it
pub the_leaf : (size : ℕ) (pages : List ℕ) (ss : List (List ℕ)) (i : ℕ) → i < length ss
    → drop i (row_of size pages ss) ≡ record { separator = get_or ss i []; page = take size (drop (i * size) pages) } ∷ drop (i + 1) (row_of size pages ss)
the_leaf size pages [] i h = absurd (omega arith)
the_leaf size pages (s ∷ ss) zero h = let z : 0 ≡ 0 * size = omega arith in ap (λ (k : ℕ). record { separator = s; page = take size (drop k pages) } ∷ row_of size (drop size pages) ss) z
the_leaf size pages (s ∷ ss) (suc i) h =
    let n : suc (i + 1) ≡ suc i + 1 = omega arith in
    let m : size + i * size ≡ suc i * size = omega arith in
    the_leaf size (drop size pages) ss i (omega arith)
    ∙ ap (λ (p : List ℕ). record { separator = get_or ss i []; page = take size p } ∷ drop (i + 1) (row_of size (drop size pages) ss)) (drop-drop (i * size) size pages ∙ ap (λ (k : ℕ). drop k pages) m)
    ∙ ap (λ (k : ℕ). record { separator = get_or ss i []; page = take size (drop (suc i * size) pages) } ∷ drop k (row_of size pages (s ∷ ss))) n

-- "each leaf's cutoff being the next separator, the last having none"
pub the_cutoff : (size : ℕ) (pages : List ℕ) (ss : List (List ℕ)) (k : ℕ) → cutoff_by (drop k (row_of size pages ss)) ≡ key_if (std.is_some (std.slice_get ss k)) (std.unwrap_or (std.slice_get ss k) zero_key)
the_cutoff size pages [] zero = refl
the_cutoff size pages [] (suc k) = refl
the_cutoff size pages (s ∷ ss) zero = refl
the_cutoff size pages (s ∷ ss) (suc k) = the_cutoff size (drop size pages) ss k

pub the_next_is_long : (ss : List (List ℕ)) → All (λ s. length s ≡ 32) ss → (k : ℕ) → length (std.unwrap_or (std.slice_get ss k) zero_key) ≡ 32
the_next_is_long [] a k = refl
the_next_is_long (s ∷ ss) (cons l a) zero = l
the_next_is_long (s ∷ ss) (cons l a) (suc k) = the_next_is_long ss a k

pub row_behind : {size : ℕ} (i : ℕ) {xs : List RowLeaf} → IsRow size xs → IsRow size (drop i xs)
row_behind zero h = h
row_behind (suc i) row.row[] = row.row[]
row_behind (suc i) (row∷ l h) = row_behind i h

pub row_head : {size : ℕ} {x : RowLeaf} {xs : List RowLeaf} → IsRow size (x ∷ xs) → row.LeafRight size x (cutoff_by xs)
row_head (row∷ l h) = l

pub one_of : {P : List ℕ → Type 0} {ss : List (List ℕ)} → All P ss → (i : ℕ) → i < length ss → P (get_or ss i [])
one_of nil i h = absurd (omega arith)
one_of (cons p a) zero h = p
one_of (cons p a) (suc i) h = one_of a i (omega arith)

-- ---- its changes

module _ (c : Option (List ℕ)) where
  pub no_more_than_there_are : (cs : List (List ℕ)) → count_below c cs ≤ length cs
  no_more_than_there_are [] = omega arith
  no_more_than_there_are (x ∷ xs) = go (no_more_than_there_are xs) (below_cutoff c (key_of x)) refl
    where
      go : count_below c xs ≤ length xs → (b : Bool) → below_cutoff c (key_of x) ≡ b → count_below c (x ∷ xs) ≤ length (x ∷ xs)
      go ih true e = rw (e, count_below) (omega (arith, ih))
      go ih false e = rw (e, count_below) (omega arith)

  pub the_edits_taken : (cs : List (List ℕ)) (vs : List ℕ) → edits_of (take (count_below c cs) cs) vs ≡ taken c (edits_of cs vs)
  the_edits_taken [] vs = refl
  the_edits_taken (x ∷ xs) vs = go (the_edits_taken xs (drop (value_length x) vs)) (below_cutoff c (key_of x)) refl
    where
      go : edits_of (take (count_below c xs) xs) (drop (value_length x) vs) ≡ taken c (edits_of xs (drop (value_length x) vs)) → (b : Bool) → below_cutoff c (key_of x) ≡ b
          → edits_of (take (count_below c (x ∷ xs)) (x ∷ xs)) vs ≡ taken c (edits_of (x ∷ xs) vs)
      go ih true e = rw (e, count_below, taken) (ap (λ (es : List Edit). record { key = key_of x; change = change_of x vs } ∷ es) ih)
      go ih false e = rw (e, count_below, taken)

  pub the_edits_behind : (cs : List (List ℕ)) (vs : List ℕ) → edits_of (drop (count_below c cs) cs) (drop (values_length (take (count_below c cs) cs)) vs) ≡ behind c (edits_of cs vs)
  the_edits_behind [] vs = refl
  the_edits_behind (x ∷ xs) vs = go (the_edits_behind xs (drop (value_length x) vs)) (below_cutoff c (key_of x)) refl
    where
      go : edits_of (drop (count_below c xs) xs) (drop (values_length (take (count_below c xs) xs)) (drop (value_length x) vs)) ≡ behind c (edits_of xs (drop (value_length x) vs)) → (b : Bool) → below_cutoff c (key_of x) ≡ b
          → edits_of (drop (count_below c (x ∷ xs)) (x ∷ xs)) (drop (values_length (take (count_below c (x ∷ xs)) (x ∷ xs))) vs) ≡ behind c (edits_of (x ∷ xs) vs)
      go ih true e = rw (e, count_below, behind) (ap (edits_of (drop (count_below c xs) xs)) (sym (drop-drop (values_length (take (count_below c xs) xs)) (value_length x) vs)) ∙ ih)
      go ih false e = rw (e, count_below, behind)

  pub some_are_taken : (cs : List (List ℕ)) (vs : List ℕ) (a : ℕ) → ltb a (a + count_below c cs) ≡ nonempty (taken c (edits_of cs vs))
  some_are_taken [] vs a = le-ltb a (a + 0) (omega arith)
  some_are_taken (x ∷ xs) vs a = go (below_cutoff c (key_of x)) refl
    where
      go : (b : Bool) → below_cutoff c (key_of x) ≡ b → ltb a (a + count_below c (x ∷ xs)) ≡ nonempty (taken c (edits_of (x ∷ xs) vs))
      go true e = rw (e, count_below, taken) (lt-ltb a (a + suc (count_below c xs)) (omega arith))
      go false e = rw (e, count_below, taken) (le-ltb a (a + 0) (omega arith))

  pub values_in_two : (cs : List (List ℕ)) (k : ℕ) → values_length (take k cs) + values_length (drop k cs) ≡ values_length cs
  values_in_two [] zero = refl
  values_in_two [] (suc k) = refl
  values_in_two (x ∷ xs) zero = omega arith
  values_in_two (x ∷ xs) (suc k) = omega (arith, values_in_two xs k)
