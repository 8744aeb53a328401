-- Parts of a record. Assumes nothing.
use mathlib.Core.Path.{◌≡◌, refl, sym, ◌∙◌}
use mathlib.Core.Bool.{Bool, true, false, ◌&&◌}
use mathlib.Core.List.{List, [], ◌∷◌}
use Prim.Native.Nat.{ℕ, ◌+◌, ◌-◌, ◌≤◌, ◌<◌}
use native.Mathlib.Omega.{arith}
use lib.Dec.{eqb, leb}
use lib.ListN.{length, take, drop, replicate, length-take, length-drop}
use lib.Pointwise.{pointwise}
use borrow.Author.Tests.{eq-eqb, ne_eqb, eqb-true, eqb-false, le-leb, lt-leb, leb-false}
use Rattle.std.specs.Prelude.{IsTrue}
use Rattle.std.specs.List.{starts_with}
use Rattle.std.proofs.lemmas.List.{take_all}
use Rattle.leaf_work.specs.Tests.{same_bytes}
use Rattle.replay.specs.Parts.{key_from, has_at, has_part}

-- a key from a place on

module _ (s : List ℕ) (at : ℕ) where
  pub a_short_record_has_no_key : length s < 32 → replicate 32 0 ≡ key_from s at
  unfolding key_from
  a_short_record_has_no_key h = rw (lt-leb (at + 32) (length s) (omega arith))

  pub no_key_behind_the_end : 32 ≤ length s → length s - 32 < at → replicate 32 0 ≡ key_from s at
  unfolding key_from
  no_key_behind_the_end h k = rw (lt-leb (at + 32) (length s) (omega arith))

  pub the_key_is_copied : 32 ≤ length s → at ≤ length s - 32 → (k : List ℕ) → k ≡ take (at + 32 - at) (drop at s) → k ≡ key_from s at
  unfolding key_from
  the_key_is_copied h l k e =
      let n : at + 32 - at ≡ 32 = omega arith in
      rw (le-leb (at + 32) (length s) (omega arith)) (e ∙ rw n)

-- two lists of bytes

pub stops_at_false : (a b c : Bool) → b ≡ c → (a && b) ≡ elim a [ true ↦ c | false ↦ false ]
stops_at_false true b c e = e
stops_at_false false b c e = refl

turned : (x y : ℕ) → eqb y x ≡ eqb x y
turned x y = go (eqb x y) refl
  where
    go : (b : Bool) → eqb x y ≡ b → eqb y x ≡ b
    go true e = eq-eqb y x (sym (eqb-true x y e))
    go false e = ne_eqb y x (λ q. eqb-false x y e (sym q))

-- the library compares the needle's bytes with the others
pub prefixes_are_compared : (xs ys : List ℕ) → pointwise eqb ys xs ≡ same_bytes xs ys
prefixes_are_compared [] [] = refl
prefixes_are_compared [] (y ∷ ys) = refl
prefixes_are_compared (x ∷ xs) [] = refl
prefixes_are_compared (x ∷ xs) (y ∷ ys) = rw (turned x y) (stops_at_false (eqb x y) (pointwise eqb ys xs) (same_bytes xs ys) (prefixes_are_compared xs ys))

-- bytes at a place

module _ (s : List ℕ) (at : ℕ) (bytes : List ℕ) where
  pub the_record_ends_before : length s < at → false ≡ has_at s at bytes
  unfolding has_at
  the_record_ends_before h = rw (lt-leb (at + length bytes) (length s) (omega arith))

  pub the_bytes_decide : at ≤ length s → (r : Bool) → (IsTrue r → length bytes ≤ length (take (length s - at) (drop at s)))
      → r ≡ starts_with eqb (take (length s - at) (drop at s)) bytes → r ≡ has_at s at bytes
  unfolding has_at
  the_bytes_decide h r b e = go r (leb (at + length bytes) (length s)) refl b (e ∙ rw whole (prefixes_are_compared (take (length bytes) (drop at s)) bytes))
    where
      whole : take (length s - at) (drop at s) ≡ drop at s
      whole = take_all (length s - at) (drop at s) (omega (arith, length-drop at s))

      go : (r d : Bool) → leb (at + length bytes) (length s) ≡ d → (IsTrue r → length bytes ≤ length (take (length s - at) (drop at s)))
          → r ≡ same_bytes (take (length bytes) (drop at s)) bytes → r ≡ (leb (at + length bytes) (length s) && same_bytes (take (length bytes) (drop at s)) bytes)
      go r true q b e = rw q e
      go false false q b e = rw q
      go true false q b e = absurd (omega (arith, b refl, length-take (length s - at) (drop at s), length-drop at s, leb-false (at + length bytes) (length s) q))

-- bytes of another buffer

module _ (s : List ℕ) (at : ℕ) (other : List ℕ) (from n : ℕ) where
  pub the_other_is_shorter : length other < n → false ≡ has_part s at other from n
  unfolding has_part
  the_other_is_shorter h = rw (lt-leb (from + n) (length other) (omega arith))

  pub the_other_ends_before : n ≤ length other → length other - n < from → false ≡ has_part s at other from n
  unfolding has_part
  the_other_ends_before h k = rw (lt-leb (from + n) (length other) (omega arith))

  pub the_part_decides : n ≤ length other → from ≤ length other - n → (r : Bool) → r ≡ has_at s at (take (from + n - from) (drop from other)) → r ≡ has_part s at other from n
  unfolding has_part
  the_part_decides h k r e =
      let m : from + n - from ≡ n = omega arith in
      rw (le-leb (from + n) (length other) (omega arith)) (e ∙ rw m)
