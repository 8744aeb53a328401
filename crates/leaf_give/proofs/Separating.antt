-- The separators and tickets of a row of leaves: what one more leaf adds to them. Assumes nothing.
use mathlib.Core.Path.{◌≡◌, refl, sym, ap, ◌∙◌}
use mathlib.Core.Bool.{Bool, true, false}
use mathlib.Core.Option.{Option, some}
use mathlib.Core.List.{List, [], ◌∷◌, ◌++◌, append-nil, append_assoc, map}
use Prim.Native.Nat.{ℕ}
use native.Mathlib.Omega.{arith}
use borrow.Author.Tests.{ne_eqb, ltb-true}
use Rattle.bit_ops.specs.Key.{num, lt_key, eq_key}
use Rattle.bit_ops.specs.Separate.{separate_of, separate_leaves}
use Rattle.leaf_node.specs.Record.{Record}
use Rattle.leaf_node.specs.Build.{build}
use Rattle.leaf_node.specs.Ticket.{packed_with}
use Rattle.leaf_model.specs.Basics.{joined, nonempty}
use Rattle.leaf_model.specs.Work.{zero_key, or_else, leaf_cutoff, next_separator, last_key, with_separators, separator_after, is_rising}
use Rattle.leaf_model.proofs.Tests.{and_left, and_right, clash}
use Rattle.leaf_model.proofs.Lists.{joined_append}
use Rattle.leaf_work.specs.Digest.{pages_of, tickets_of}
use Rattle.leaf_write.specs.Filling.{first_key}
use Rattle.leaf_give.specs.Steps.{between, first_of}

-- ---- between a leaf and what follows it

pub a_lower_key_is_another : (a b : List ℕ) → lt_key a b ≡ true → eq_key a b ≡ false
unfolding lt_key eq_key
a_lower_key_is_another a b h = let l = ltb-true (num a) (num b) h in ne_eqb (num a) (num b) (λ (e : num a ≡ num b). omega (arith, l))

pub the_next_key_is_above_a_leaf : (l : List Record) (r : Record) (rs : List Record) → nonempty l ≡ true → is_rising (l ++ (r ∷ rs)) ≡ true → lt_key (last_key l) r.key ≡ true
the_next_key_is_above_a_leaf [] r rs n h = clash n refl
the_next_key_is_above_a_leaf (x ∷ []) r rs n h = and_left (lt_key x.key r.key) (is_rising (r ∷ rs)) h
the_next_key_is_above_a_leaf (x ∷ y ∷ ys) r rs n h =
    the_next_key_is_above_a_leaf (y ∷ ys) r rs refl (and_right (lt_key x.key y.key) (is_rising ((y ∷ ys) ++ (r ∷ rs))) h)

-- by the first of the records that follow
module _ (l : List Record) (last : List ℕ) where
  pub the_cutoff_of_a_leaf : (cutoff : Option (List ℕ)) (b : List Record) → ((r : Record) (rs : List Record) → b ≡ r ∷ rs → separate_leaves last r.key zero_key ≡ separate_of (last_key l) r.key)
      → first_of (between last (first_key b)) cutoff ≡ leaf_cutoff l b cutoff
  the_cutoff_of_a_leaf cutoff [] f = refl
  the_cutoff_of_a_leaf cutoff (r ∷ rs) f = ap some (f r rs refl)

  pub the_separator_behind_a_leaf : (s : List ℕ) (b : List Record) → ((r : Record) (rs : List Record) → b ≡ r ∷ rs → separate_leaves last r.key zero_key ≡ separate_of (last_key l) r.key)
      → or_else (between last (first_key b)) s ≡ next_separator s l b
  the_separator_behind_a_leaf s [] f = refl
  the_separator_behind_a_leaf s (r ∷ rs) f = f r rs refl

-- ---- one more leaf

-- what followed the others is the leaf and what follows it
module _ (l left : List Record) where
  pub followed : (ls : List (List Record)) → joined (ls ++ (l ∷ [])) ++ left ≡ joined ls ++ (l ++ left)
  followed ls = simp (joined_append, append-nil, append_assoc)

  pub one_more_separator : (s : List ℕ) (ls : List (List Record)) → separator_after s (ls ++ (l ∷ [])) left ≡ next_separator (separator_after s ls (l ++ left)) l left
  one_more_separator s [] = refl
  one_more_separator s (x ∷ ls) =
      ap (λ (b : List Record). separator_after (next_separator s x b) (ls ++ (l ∷ [])) left) (followed ls) ∙ one_more_separator (next_separator s x (joined ls ++ (l ++ left))) ls

  -- whether the digest answers a merge request is no matter for tickets and pages
  pub one_more_ticket : (c : Option (List ℕ)) (m m' : Bool) (s : List ℕ) (ls : List (List Record))
      → tickets_of (with_separators s c m (ls ++ (l ∷ [])) left) ≡ tickets_of (with_separators s c m' ls (l ++ left)) ++ packed_with (separator_after s ls (l ++ left)) (leaf_cutoff l left c)
  one_more_ticket c m m' s [] = append-nil (packed_with s (leaf_cutoff l left c))
  one_more_ticket c m m' s (x ∷ ls) =
      let b : List Record = joined ls ++ (l ++ left) in
      let s' : List ℕ = next_separator s x b in
      let T : List ℕ = tickets_of (with_separators s' c m' ls (l ++ left)) in
      ap (λ (b : List Record). packed_with s (leaf_cutoff x b c) ++ tickets_of (with_separators (next_separator s x b) c m (ls ++ (l ∷ [])) left)) (followed ls)
      ∙ ap (λ (t : List ℕ). packed_with s (leaf_cutoff x b c) ++ t) (one_more_ticket c m m' s' ls)
      ∙ sym (append_assoc (packed_with s (leaf_cutoff x b c)) T (packed_with (separator_after s' ls (l ++ left)) (leaf_cutoff l left c)))

-- ---- pages

pub the_pages_are_those_of_the_records : (size : ℕ) (s : List ℕ) (c : Option (List ℕ)) (m : Bool) (ls : List (List Record)) (left : List Record)
    → pages_of size (with_separators s c m ls left) ≡ joined (map (build size) ls)
the_pages_are_those_of_the_records size s c m [] left = refl
the_pages_are_those_of_the_records size s c m (l ∷ ls) left =
    ap (λ (x : List ℕ). build size l ++ x) (the_pages_are_those_of_the_records size (next_separator s l (joined ls ++ left)) c m ls left)

pub one_more_page : (size : ℕ) (ls : List (List Record)) (l : List Record) → joined (map (build size) (ls ++ (l ∷ []))) ≡ joined (map (build size) ls) ++ build size l
one_more_page size [] l = append-nil (build size l)
one_more_page size (x ∷ ls) l =
    ap (λ (y : List ℕ). build size x ++ y) (one_more_page size ls l) ∙ sym (append_assoc (build size x) (joined (map (build size) ls)) (build size l))
