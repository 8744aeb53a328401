-- Bytes that still hold what a buffer was filled with. Assumes nothing.
use mathlib.Core.Path.{◌≡◌, refl, ap, ◌∙◌}
use mathlib.Core.Bool.{Bool, true}
use mathlib.Core.List.{List, [], ◌∷◌}
use Prim.Native.Nat.{ℕ, ◌-◌, ◌<◌}
use native.Mathlib.Omega.{arith}
use lib.Dec.{eqb}
use lib.ListN.{length, take, drop, length-drop, drop_of_length-le}
use Rattle.std.specs.List.{list_all}
use Rattle.std.proofs.lemmas.List.{take_all}
use Rattle.leaf_work.specs.Tests.{every}
use Rattle.replay.specs.Parts.{is_held}
use Rattle.replay.proofs.Parts.{stops_at_false}

pub all_is_every : (f : ℕ → Bool) (xs : List ℕ) → list_all f xs ≡ every f xs
all_is_every f [] = refl
all_is_every f (x ∷ xs) = stops_at_false (f x) (list_all f xs) (every f xs) (all_is_every f xs)

module _ (s : List ℕ) (from : ℕ) where
  pub all_are_held : (r : Bool) → r ≡ list_all (λ x. eqb x 0x5a) (take (length s - from) (drop from s)) → r ≡ every is_held (drop from s)
  unfolding is_held
  all_are_held r e =
      let whole : take (length s - from) (drop from s) ≡ drop from s = take_all (length s - from) (drop from s) (omega (arith, length-drop from s)) in
      e ∙ all_is_every is_held (take (length s - from) (drop from s)) ∙ ap (every is_held) whole

  pub none_is_left : length s < from → true ≡ every is_held (drop from s)
  none_is_left h = rw (drop_of_length-le s {i = from} (omega arith))
