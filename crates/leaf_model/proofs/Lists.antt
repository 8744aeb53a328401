-- Laws of `All`, `joined`, `nonempty` and `body`. Assumes nothing.
use mathlib.Core.Path.{◌≡◌, refl, sym}
use mathlib.Core.Bool.{true}
use mathlib.Core.List.{List, [], ◌∷◌, ◌++◌, append_assoc}
use Prim.Native.Nat.{◌+◌}
use native.Mathlib.Omega.{arith}
use Rattle.leaf_node.specs.Record.{Record, body}
use Rattle.leaf_node.specs.Fits.{All, nil, cons}
use Rattle.leaf_model.specs.Basics.{joined, nonempty}
use Rattle.leaf_model.proofs.Tests.{clash}

module _ {A : Type 0} {P : A → Type 0} where
  pub all_append : {xs ys : List A} → All P xs → All P ys → All P (xs ++ ys)
  all_append nil k = k
  all_append (cons p h) k = cons p (all_append h k)

  pub all_left : (xs ys : List A) → All P (xs ++ ys) → All P xs
  all_left [] ys h = nil
  all_left (x ∷ xs) ys (cons p h) = cons p (all_left xs ys h)

  pub all_right_lem : (xs ys : List A) → All P (xs ++ ys) → All P ys
  all_right_lem [] ys h = h
  all_right_lem (x ∷ xs) ys (cons p h) = all_right_lem xs ys h

  pub all_head : {x : A} {xs : List A} → All P (x ∷ xs) → P x
  all_head (cons p h) = p

  pub all_tail : {x : A} {xs : List A} → All P (x ∷ xs) → All P xs
  all_tail (cons p h) = h

pub all_map : {A : Type 0} {P Q : A → Type 0} → ((x : A) → P x → Q x) → {xs : List A} → All P xs → All Q xs
all_map f nil = nil
all_map f (cons {x} p h) = cons (f x p) (all_map f h)

pub all_both : {A : Type 0} {P Q : A → Type 0} {xs : List A} → All P xs → All Q xs → All (λ x. P x × Q x) xs
all_both nil nil = nil
all_both (cons p h) (cons q k) = cons (p, q) (all_both h k)

pub joined_append : {A : Type 0} (xs ys : List (List A)) → joined (xs ++ ys) ≡ joined xs ++ joined ys
joined_append [] ys = refl
joined_append (x ∷ xs) ys = rw (joined_append xs ys) (sym (append_assoc x (joined xs) (joined ys)))

pub nonempty_append : {A : Type 0} (xs ys : List A) → nonempty xs ≡ true → nonempty (xs ++ ys) ≡ true
nonempty_append [] ys e = clash e refl
nonempty_append (x ∷ xs) ys e = refl

pub body_append : (xs ys : List Record) → body (xs ++ ys) ≡ body xs + body ys
body_append [] ys = omega arith
body_append (x ∷ xs) ys = omega (arith, body_append xs ys)
