-- New elements in the places right below an index: what they leave as it was, and how they come one below the other. Assumes nothing.
use mathlib.Core.Path.{◌≡◌, sym, ap, ◌∙◌}
use mathlib.Core.List.{List, [], ◌∷◌, ◌++◌, map, append_assoc, map-append}
use Prim.Native.Nat.{ℕ, ◌+◌, ◌-◌, ◌≤◌, ◌<◌}
use native.Mathlib.Omega.{arith}
use native.Mathlib.Numerals.{add-one}
use lib.ListN.{length, get_or, set, take, drop, length-append, length-drop, length-map, take-append-drop}
use lib.Seq.{length-take-le, take-append-le, take-take, drop_at, get_or-take, set_split}
use Rattle.std.proofs.lemmas.List.{take-map, drop-map}
use Rattle.leaf_node.specs.Build.{put}
use Rattle.leaf_builder.proofs.Putting.{take_drop}
use Rattle.leaf_move.specs.Moving.{under}

-- what a function makes of each element
pub map_under : {A B : Type 0} (f : A → B) (xs : List A) (t : ℕ) (new : List A) → map f (under xs t new) ≡ under (map f xs) t (map f new)
unfolding under
map_under {A} {B} f xs t new =
    map-append f (take (t - length new) xs ++ new) (drop t xs) ∙ ap (λ (l : List B). l ++ map f (drop t xs)) (map-append f (take (t - length new) xs) new)
    ∙ rw (length-map new f, take-map f (t - length new) xs, drop-map f t xs)

module _ {A : Type 0} where
  pub under_is : (xs : List A) (t : ℕ) (new : List A) → under xs t new ≡ take (t - length new) xs ++ (new ++ drop t xs)
  unfolding under
  under_is xs t new = append_assoc (take (t - length new) xs) new (drop t xs)

  pub under_none : (xs : List A) (t : ℕ) → under xs t [] ≡ xs
  under_none xs t = let e : t - 0 ≡ t = omega arith in under_is xs t [] ∙ rw e (take-append-drop t xs)

  module _ (xs : List A) (t : ℕ) (new : List A) (few : length new ≤ t) (there : t ≤ length xs) where
    below : length (take (t - length new) xs) ≡ t - length new
    below = length-take-le (t - length new) xs (omega arith)

    pub length_under : length (under xs t new) ≡ length xs
    length_under = rw (under_is xs t new) (simp (length-append, length-drop) (omega (arith, below)))

    pub take_under : (n : ℕ) → n ≤ t - length new → take n (under xs t new) ≡ take n xs
    take_under n h =
        rw (under_is xs t new) (take-append-le n (take (t - length new) xs) (new ++ drop t xs) (omega (arith, below)) ∙ take-take n (t - length new) xs h)

    pub drop_under : drop (t - length new) (under xs t new) ≡ new ++ drop t xs
    drop_under = rw (under_is xs t new) (drop_at (take (t - length new) xs) (new ++ drop t xs) (t - length new) below)

    pub get_d_under : (i : ℕ) (d : A) → i < t - length new → get_or (under xs t new) i d ≡ get_or xs i d
    get_d_under i d h =
        sym (get_or-take (t - length new) (under xs t new) i d h) ∙ ap (λ (l : List A). get_or l i d) (take_under (t - length new) (omega arith))
        ∙ get_or-take (t - length new) xs i d h

    pub part_under : (from n : ℕ) → from + n ≤ t - length new → take n (drop from (under xs t new)) ≡ take n (drop from xs)
    part_under from n h = take_drop from n (under xs t new) ∙ ap (drop from) (take_under (from + n) h) ∙ sym (take_drop from n xs)

  -- a below b
  pub under_under : (xs : List A) (t : ℕ) (a b : List A) → length a + length b ≤ t → t ≤ length xs → under (under xs t b) (t - length b) a ≡ under xs t (a ++ b)
  under_under xs t a b h k =
      let e : t - length b - length a ≡ t - length (a ++ b) = rw (length-append a b) (omega arith) in
      under_is (under xs t b) (t - length b) a
      ∙ rw (take_under xs t b (omega arith) k (t - length b - length a) (omega arith), drop_under xs t b (omega arith) k, e, under_is xs t (a ++ b), append_assoc a b (drop t xs))

  pub under_one : (xs : List A) (i : ℕ) (x : A) → i < length xs → set xs i x ≡ under xs (i + 1) (x ∷ [])
  under_one xs i x h =
      let e : i + 1 - 1 ≡ i = omega arith in
      set_split xs i x h ∙ sym (under_is xs (i + 1) (x ∷ []) ∙ rw (e, add-one i))

pub put_under : (d : List ℕ) (at : ℕ) (s : List ℕ) → put d at s ≡ under d (at + length s) s
unfolding put under
put_under d at s = let e : at + length s - length s ≡ at = omega arith in rw e
