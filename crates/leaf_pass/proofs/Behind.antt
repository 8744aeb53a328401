-- The entries behind the used ones: the pass over all entries comes to what the pass over the used ones and the look at the others come to.
-- Assumes nothing.
use mathlib.Core.Path.{◌≡◌, refl, sym, ap, ◌∙◌}
use mathlib.Core.Bool.{Bool, true, false, ◌&&◌, cond}
use mathlib.Core.List.{List, [], ◌∷◌}
use Prim.Native.Nat.{ℕ, zero, suc, ◌+◌, ◌-◌, ◌≤◌, ◌<◌, min}
use native.Mathlib.Omega.{arith}
use lib.Dec.{ltb}
use lib.ListN.{length, length-drop, take, drop}
use lib.Seq.{take_all}
use Rattle.std.specs.Bool.{then_some}
use Rattle.std.specs.List.{list_all}
use Rattle.std.specs.Option.{option_map}
use Rattle.std.specs.Prelude.{Option, Some, None, option_and_then}
use Rattle.std.proofs.lemmas.Option.{cond_some}
use borrow.Author.Tests.{le-ltb, ltb-false}
use Rattle.leaf_work.specs.declared.Entry.{Entry}
use Rattle.leaf_work.specs.Tests.{every}
use Rattle.leaf_work.specs.Lent.{an_insert}
use Rattle.leaf_work.specs.Sound.{is_blank}
use Rattle.leaf_pass.specs.declared.Tally.{Tally}
use Rattle.leaf_pass.specs.declared.Pass.{Pass}
use Rattle.leaf_pass.specs.declared.Bounds.{Bounds}
use Rattle.leaf_pass.specs.Pass.{insert_right, chunk_right, with_insert, with_chunk, passed_by, passed, passed_all}
use Rattle.leaf_pass.proofs.Entries.{tallied}

module _ (b : Bounds) (page : List ℕ) where
  -- behind the used ones the pass stays what it is
  pub blanks_pass : (z : Tally) → b.used ≤ z.seen → (list : List Entry) → passed_all b page z list ≡ cond (every is_blank list) (Some z) None
  unfolding passed
  blanks_pass z h [] = refl
  blanks_pass z h (e ∷ es) = rw (le-ltb z.seen b.used h) (go (blanks_pass z h es) (is_blank e) refl)
    where
      go : passed_all b page z es ≡ cond (every is_blank es) (Some z) None → (t : Bool) → is_blank e ≡ t
          → option_and_then (λ y. passed_all b page y es) (cond t (Some z) None) ≡ cond (elim t [ true ↦ every is_blank es | false ↦ false ]) (Some z) None
      go more true f = more
      go more false f = refl

  -- of an entry that is right: one more is seen, or all used ones were seen before
  grows : (z y : Tally) (e : Entry) → passed b page z e ≡ Some y → (k : ℕ) → b.used ≤ z.seen + suc k → b.used ≤ y.seen + k
  unfolding passed
  grows z y e h k m = go (ltb z.seen b.used) refl (an_insert e) h
    where
      enough : (x : Tally) → x ≡ y → b.used ≤ x.seen + k → b.used ≤ y.seen + k
      enough x q l = rw (← q) l

      go : (t : Bool) → ltb z.seen b.used ≡ t → (i : Bool) → passed_by b page z e t i ≡ Some y → b.used ≤ y.seen + k
      go false q i p = enough z (cond_some (is_blank e) z y p).1 (omega (arith, ltb-false z.seen b.used q))
      go true q true p = enough (with_insert z e) (cond_some (insert_right b z e) (with_insert z e) y p).1 (omega (arith, m))
      go true q false p = enough (with_chunk page z e) (cond_some (chunk_right b page z e) (with_chunk page z e) y p).1 (omega (arith, m))

  -- the first k, then the others
  pub the_pass_in_two : (k : ℕ) (z : Tally) (list : List Entry) → (k < length list → b.used ≤ z.seen + k)
      → passed_all b page z list ≡ option_and_then (λ y. cond (every is_blank (drop k list)) (Some y) None) (passed_all b page z (take k list))
  the_pass_in_two zero z [] h = refl
  the_pass_in_two (suc k) z [] h = refl
  the_pass_in_two zero z (e ∷ es) h = blanks_pass z (omega (arith, h (omega arith))) (e ∷ es)
  the_pass_in_two (suc k) z (e ∷ es) h = go (passed b page z e) (λ y q. the_pass_in_two k y es (λ l. grows z y e q k (h (omega (arith, l)))))
    where
      go : (o : Option Tally) → ((y : Tally) → o ≡ Some y → passed_all b page y es ≡ option_and_then (λ x. cond (every is_blank (drop k es)) (Some x) None) (passed_all b page y (take k es)))
          → option_and_then (λ y. passed_all b page y es) o
          ≡ option_and_then (λ y. cond (every is_blank (drop k es)) (Some y) None) (option_and_then (λ y. passed_all b page y (take k es)) o)
      go None ih = refl
      go (Some y) ih = ih y refl

-- ---- all entries, by the used ones

every_all : (list : List Entry) → list_all is_blank list ≡ every is_blank list
every_all [] = refl
every_all (e ∷ es) = go (is_blank e) (every_all es)
  where
    go : (b : Bool) → list_all is_blank es ≡ every is_blank es → ◌≡◌ {A = Bool} (b && list_all is_blank es) (elim b [ true ↦ every is_blank es | false ↦ false ])
    go true h = h
    go false h = refl

-- of any first ones that are all of the list, or as many as are used
module _ (b : Bounds) (page : List ℕ) (start : Tally) (list : List Entry) (n : ℕ) (used : n < length list → b.used ≤ start.seen + n) (o : Option Tally)
    (e : o ≡ passed_all b page start (take n list)) where
  pub the_pass_over_all : (t : Bool) → t ≡ list_all is_blank (take (length list - n) (drop n list))
      → passed_all b page start list ≡ option_and_then (λ y. cond t (Some y) None) o
  the_pass_over_all t q =
      let all : take (length list - n) (drop n list) ≡ drop n list = take_all _ (drop n list) (omega (arith, length-drop n list)) in
      let look : t ≡ every is_blank (drop n list) = rw all at q ∙ every_all (drop n list) in
      rw (e, look) (the_pass_in_two b page n start list used)

module _ (b : Bounds) (page : List ℕ) (start : Tally) (list : List Entry) (n : ℕ) (m : n ≡ min b.used (length list)) (o : Option Pass)
    (e : option_map (λ y. y.tally) o ≡ passed_all b page start (take n list)) where
  pub those_are_the_used_ones : n < length list → b.used ≤ start.seen + n
  those_are_the_used_ones l = omega (arith, m)

  pub a_wrong_used_one : (r : Option Pass) → o ≡ None → r ≡ None → option_map (λ y. y.tally) r ≡ passed_all b page start list
  a_wrong_used_one r h f =
      rw (f, the_pass_over_all b page start list n those_are_the_used_ones (option_map (λ (y : Pass). y.tally) o) e _ refl, h)

  pub the_others_decide : (z : Pass) (t : Bool) (r : Option Pass) → o ≡ Some z → t ≡ list_all is_blank (take (length list - n) (drop n list)) → r ≡ then_some t z
      → option_map (λ y. y.tally) r ≡ passed_all b page start list
  the_others_decide z t r h q f =
      ap (option_map (λ (y : Pass). y.tally)) f ∙ tallied t z
      ∙ sym (rw h at (the_pass_over_all b page start list n those_are_the_used_ones (option_map (λ (y : Pass). y.tally) o) e t q))
