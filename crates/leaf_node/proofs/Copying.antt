-- Bytes put into a buffer: what the loop of a copy writes, and what lies beside it. Assumes nothing.
use Prim.Native.Nat.{ℕ, ◌+◌, ◌≤◌, ◌<◌}
use mathlib.Core.Path.{◌≡◌, refl, sym, ap, ◌∙◌}
use mathlib.Core.List.{List, ◌++◌, append-nil, append_assoc}
use native.Mathlib.Omega.{arith}
use native.Mathlib.Nat.{zero-add, add_assoc}
use native.Mathlib.Numerals.{add-one}
use lib.ListN.{length, get_or, set}
use lib.Seq.{paste, paste-suc, take-length, drop-length, drop_at, take-append-add, drop-append-add}
use borrow.Rule.Slice.PartMut.{put_mid}
use Rattle.std.proofs.lemmas.Slice.{put_mid-paste}
use Rattle.leaf_node.specs.Build.{put}

-- a copy, byte by byte, of s into d from `at` on
module _ (d : List ℕ) (at : ℕ) (s : List ℕ) where
  pub put_more : (x : List ℕ) (j : ℕ) → x ≡ paste d at s j → at + length s ≤ length d → j < length s → set x (at + j) (get_or s j 0) ≡ paste d at s (j + 1)
  put_more x j e h l = rw (e, add-one) (paste-suc d at s j 0 (omega arith) l)

  pub put_done : (x : List ℕ) (j : ℕ) → x ≡ paste d at s j → j ≤ length s → length s ≤ j → x ≡ put d at s
  unfolding put
  put_done x j e l h = let q : j ≡ length s = omega arith in e ∙ ap (λ (k : ℕ). paste d at s k) q ∙ simp take-length

-- a part of a buffer, after the library has copied s over it
pub put_mid_is_put : {A : Type 0} (d : List A) (at k : ℕ) (x s : List A) → x ≡ s → k ≡ length s → put_mid at k d x ≡ put d at s
unfolding put
put_mid_is_put d at k x s e l = put_mid-paste at k d x s (length s) e (sym l) refl ∙ simp take-length

-- all of a buffer
pub put_all : (d s : List ℕ) → length s ≡ length d → put d 0 s ≡ s
unfolding put
put_all d s e = rw (zero-add, e, drop-length) (append-nil s)

-- what is put behind a list, and what is put in the place of the front
pub put_past : (a x s : List ℕ) (n m : ℕ) → n ≡ length a + m → put (a ++ x) n s ≡ a ++ put x m s
unfolding put
put_past a x s n m e = rw (e, take-append-add, add_assoc, drop-append-add) (simp append_assoc)

pub put_front : (b c s : List ℕ) → length b ≡ length s → put (b ++ c) 0 s ≡ s ++ c
unfolding put
put_front b c s e = rw (zero-add) (ap (λ l. s ++ l) (drop_at b c (length s) e))
