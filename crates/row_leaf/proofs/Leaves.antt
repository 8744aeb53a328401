-- Which changes a leaf takes, and its page. Assumes nothing.
use mathlib.Core.Path.{◌≡◌, refl, sym, ap, ◌∙◌}
use mathlib.Core.Bool.{Bool, true, false, cond, not}
use mathlib.Core.Option.{none, some}
use mathlib.Core.List.{List, [], ◌∷◌}
use Prim.Native.Nat.{ℕ, suc, ◌+◌, ◌-◌, ◌≤◌, ◌<◌}
use native.Mathlib.Omega.{arith}
use native.Mathlib.Decide.{dec_lt}
use lib.ListN.{length, take, drop, length-drop}
use lib.Seq.{take-length}
use Rattle.std.proofs.lemmas.List.{length-take}
use Rattle.std.specs.Prelude as std
use Rattle.std.specs.List.{position_or_len}
use borrow.Author.Tests.{lt-ltb, le-ltb}
use Rattle.bit_ops.specs.Key.{lt_key}
use Rattle.leaf_node.specs.Page.{count}
use Rattle.leaf_node.specs.Good.{Good}
use Rattle.leaf_node.specs.Steps.{Counted}
use Rattle.leaf_node.proofs.Reading.{good_pages_are_laid}
use Rattle.leaf_model.proofs.Tests.{clash}
use Rattle.leaf_open.proofs.Openings.{a_page_has_4096_bytes}
use Rattle.row_changes.specs.Packed.{key_of}
use Rattle.row_leaf.specs.declared.LeafAt.{LeafAt}
use Rattle.row_leaf.specs.Leaf.{page_in, count_below, changes_end}

-- ---- its changes

pub all_are_below : (xs : List (List ℕ)) → count_below none xs ≡ length xs
all_are_below [] = refl
all_are_below (x ∷ xs) = ap suc (all_are_below xs)

pub without_a_cutoff_all_are_taken : (changes : List (List ℕ)) (from : ℕ) (leaf : LeafAt) → from ≤ length changes → leaf.cutoff ≡ std.None → length changes ≡ changes_end changes from leaf
without_a_cutoff_all_are_taken changes from leaf h e = rw e (omega (arith, h, all_are_below (drop from changes), length-drop from changes))

-- a change that a leaf with this cutoff doesn't take
abbrev pub is_above : List ℕ → List ℕ → Bool
is_above k c = not (lt_key (key_of c) k)

below_are_counted : (k : List ℕ) (xs : List (List ℕ)) → (count_below (some k) xs ≡ position_or_len (is_above k) xs) × (count_below (some k) xs ≤ length xs)
below_are_counted k [] = (refl, omega arith)
below_are_counted k (x ∷ xs) = go (lt_key (key_of x) k) (below_are_counted k xs)
  where
    go : (b : Bool) → (count_below (some k) xs ≡ position_or_len (is_above k) xs) × (count_below (some k) xs ≤ length xs)
        → ((elim b [ true ↦ suc (count_below (some k) xs) | false ↦ 0 ]) ≡ cond (not (not b)) (1 + position_or_len (is_above k) xs) 0) × ((elim b [ true ↦ suc (count_below (some k) xs) | false ↦ 0 ]) ≤ suc (length xs))
    go true h = (omega (arith, h.0), omega (arith, h.1))
    go false h = (refl, omega arith)

-- r is where the first change from `from` on stands that isn't below the cutoff k
module _ (changes : List (List ℕ)) (from : ℕ) (leaf : LeafAt) (k : List ℕ) (h : from ≤ length changes) (e : leaf.cutoff ≡ std.Some k)
    (r : std.Option ℕ) (f : r ≡ std.position (is_above k) (take (length changes - from) (drop from changes))) where
  part_is : take (length changes - from) (drop from changes) ≡ drop from changes
  part_is = ap (λ (x : ℕ). take x (drop from changes)) (sym (length-drop from changes)) ∙ take-length (drop from changes)

  abbrev n : ℕ
  n = position_or_len (is_above k) (drop from changes)

  abbrev most : ℕ
  most = length (drop from changes)

  found : n < most → r ≡ std.Some n
  found l = rw (part_is, lt-ltb n most l) at f

  not_found : most ≤ n → r ≡ std.None
  not_found l = rw (part_is, le-ltb n most l) at f

  ends : changes_end changes from leaf ≡ from + n
  ends = rw e (ap (λ (x : ℕ). from + x) (below_are_counted k (drop from changes)).0)

  few : n ≤ most
  few = let b = below_are_counted k (drop from changes) in omega (arith, b.0, b.1)

  pub all_are_taken : r ≡ std.None → length changes ≡ changes_end changes from leaf
  all_are_taken z = elim (dec_lt n most) [
    | yes l ↦ clash (ap std.is_some (found l)) (ap std.is_some z)
    | no l ↦ omega (arith, l, ends, few, h, length-drop from changes)
  ]

  pub so_many_are_taken : (i : ℕ) → r ≡ std.Some i → from + i ≡ changes_end changes from leaf
  so_many_are_taken i z = elim (dec_lt n most) [
    | yes l ↦ let x : n ≡ i = ap (λ (o : std.Option ℕ). std.unwrap_or o 0) (sym (found l) ∙ z) in
        omega (arith, x, ends)
    | no l ↦ clash (ap std.is_some z) (ap std.is_some (not_found (omega (arith, l))))
  ]

-- ---- its page

pub a_page_is_no_longer : (leaf : LeafAt) (pages : List ℕ) → length (page_in leaf pages) ≤ 4096
a_page_is_no_longer leaf pages = go leaf.page refl
  where
    go : (o : std.Option ℕ) → leaf.page ≡ o → length (page_in leaf pages) ≤ 4096
    go (std.Some from) e = rw e (omega (arith, length-take 4096 (drop from pages)))
    go std.None e = rw e (omega arith)

pub a_good_page_is_counted : (p : List ℕ) → Good 4096 p → (n : ℕ) → n ≡ count p → Counted p n
a_good_page_is_counted p g n e = rw e (record { counted = refl; laid = λ h. good_pages_are_laid 4096 p a_page_has_4096_bytes g; short = omega (arith, g.sized) })
