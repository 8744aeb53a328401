-- Pages as they are written: their length, and the first page of what is left, by its two counts. Assumes nothing.
use mathlib.Core.Path.{◌≡◌, refl}
use mathlib.Core.Bool.{Bool, true, false}
use mathlib.Core.List.{List, [], ◌∷◌}
use Prim.Native.Nat.{ℕ, suc, ◌+◌, ◌-◌, ◌*◌, ◌≤◌, min}
use native.Mathlib.Omega.{arith}
use lib.Dec.{leb}
use lib.ListN.{length, take, drop, length-append, length-take, drop_of_length-le}
use lib.Seq.{take_all, take-length, drop-length}
use borrow.Author.Tests.{leb-true, leb-false}
use Rattle.leaf_node.proofs.Lengths.{length_zeros}
use Rattle.overflow.specs.Count.{body_bytes, most_numbers}
use Rattle.overflow.specs.Written.{page_of, pages_of}
use Rattle.overflow.specs.Read.{numbers_here, bytes_here}
use Rattle.overflow.proofs.Numbers.{length_low, numbers_long}

pub length_page : (ns bs : List ℕ) → 4 * length ns + length bs ≤ body_bytes → length (page_of ns bs) ≡ 4096
unfolding page_of
length_page ns bs h = simp (length-append, length_low, numbers_long, length_zeros) (omega arith)

-- as many as are there
take_there : {A : Type 0} (k : ℕ) (xs : List A) → take (min k (length xs)) xs ≡ take k xs
take_there k xs = go (leb k (length xs)) refl
  where
    go : (b : Bool) → leb k (length xs) ≡ b → take (min k (length xs)) xs ≡ take k xs
    go true e = let m : min k (length xs) ≡ k = omega (arith, leb-true k (length xs) e) in rw m
    go false e =
        let f = leb-false k (length xs) e in
        let m : min k (length xs) ≡ length xs = omega arith in
        rw (m, take-length xs, take_all k xs (omega arith))

drop_there : {A : Type 0} (k : ℕ) (xs : List A) → drop (min k (length xs)) xs ≡ drop k xs
drop_there k xs = go (leb k (length xs)) refl
  where
    go : (b : Bool) → leb k (length xs) ≡ b → drop (min k (length xs)) xs ≡ drop k xs
    go true e = let m : min k (length xs) ≡ k = omega (arith, leb-true k (length xs) e) in rw m
    go false e =
        let f = leb-false k (length xs) e in
        let m : min k (length xs) ≡ length xs = omega arith in
        rw (m, drop-length xs, drop_of_length-le xs {i = k} (omega arith))

next_page : (t : ℕ) (ns v : List ℕ)
    → pages_of (suc t) ns v ≡ page_of (take most_numbers ns) (take (body_bytes - 4 * length (take most_numbers ns)) v) ∷ pages_of t (drop most_numbers ns) (drop (body_bytes - 4 * length (take most_numbers ns)) v)
unfolding pages_of
next_page t ns v = refl

pub a_page_by_its_counts : (t : ℕ) (ns v : List ℕ) (a b : ℕ) → a ≡ numbers_here (length ns) → b ≡ bytes_here (length ns) (length v)
    → pages_of (suc t) ns v ≡ page_of (take a ns) (take b v) ∷ pages_of t (drop a ns) (drop b v)
a_page_by_its_counts t ns v a b ea eb =
    let r : body_bytes - 4 * length (take most_numbers ns) ≡ body_bytes - 4 * min most_numbers (length ns) = rw (length-take most_numbers ns) in
    rw (
      next_page t ns v,
      r,
      ea,
      eb,
      take_there most_numbers ns,
      take_there (body_bytes - 4 * min most_numbers (length ns)) v,
      drop_there most_numbers ns,
      drop_there (body_bytes - 4 * min most_numbers (length ns)) v,
    )

pub no_page : (ns v : List ℕ) → pages_of 0 ns v ≡ []
unfolding pages_of
no_page ns v = refl
