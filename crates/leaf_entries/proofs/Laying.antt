-- A list emptied from an index on. Assumes nothing.
use mathlib.Core.Path.{◌≡◌, refl, sym, ◌∙◌}
use mathlib.Core.List.{List, [], append-nil}
use Prim.Native.Nat.{ℕ, ◌+◌, ◌-◌, ◌≤◌, ◌<◌}
use native.Mathlib.Omega.{arith}
use lib.ListN.{length, take, drop, replicate, length-replicate, drop_of_length-le}
use lib.Seq.{take_all}
use borrow.Rule.Slice.PartMut.{put_mid}
use Rattle.std.proofs.lemmas.Slice.{put_mid-paste}
use Rattle.leaf_model.specs.Basics.{cleared}

module _ {A : Type 0} (z : A) (l : List A) (from : ℕ) where
  -- by the library's fill
  pub emptied : (x : List A) (n : ℕ) → from < length l → x ≡ replicate n z → n ≡ length l - from → put_mid from (length l - from) l x ≡ cleared z l from
  unfolding cleared
  emptied x n h e q =
      let m : ℕ = length l - from in
      let k : length (replicate m z) ≡ m = length-replicate m z in
      let d : drop (from + m) l ≡ [] = drop_of_length-le l {i = from + m} (omega arith) in
      let t : take m (replicate m z) ≡ replicate m z = take_all m (replicate m z) (omega (arith, k)) in
      put_mid-paste from m l x (replicate m z) m (rw q at e) refl (sym k) ∙ rw (t, d, append-nil) refl

  pub nothing_to_empty : length l ≤ from → l ≡ cleared z l from
  unfolding cleared
  nothing_to_empty h =
      let m : length l - from ≡ 0 = omega arith in
      let t : take from l ≡ l = take_all from l h in
      rw (m, t, append-nil) refl
