-- Rows of the table that were passed, tests over lists, flags, and keys that are there or not. Assumes nothing.
use mathlib.Core.Path.{◌≡◌, refl, sym, ap}
use mathlib.Core.Bool.{Bool, true, false, not, ◌&&◌, true≢false, false≢true, cond}
use mathlib.Core.Option.{Option, none, some}
use mathlib.Core.List.{List, [], ◌∷◌, ◌++◌, map}
use Prim.Native.Nat.{ℕ, zero, suc, ◌≤◌}
use native.Mathlib.Omega.{arith}
use lib.Dec.{eqb}
use lib.ListN.{length, replicate}
use borrow.Author.Tests.{eqb-true, eqb-false, eq-eqb}
use Rattle.leaf_node.specs.Fits.{All, nil, cons}
use Rattle.leaf_model.specs.Work.{zero_key}
use Rattle.leaf_model.proofs.Tests.{clash}
use Rattle.leaf_work.specs.Tests.{every, same_bytes, implies, is_set, bit, key_if}
use Rattle.leaf_work.specs.Verdict.{unless, first}

pub and_both : {a b : Bool} → a ≡ true → b ≡ true → (a && b) ≡ true
and_both h k = rw (h, k)

pub not-true : {b : Bool} → b ≡ false → not b ≡ true
not-true h = rw h

pub implies_if : (b x : Bool) → (b ≡ true → x ≡ true) → implies b x ≡ true
implies_if true x h = h refl
implies_if false x h = refl

pub implied : (a b : Bool) → implies a b ≡ true → a ≡ true → b ≡ true
implied true b h e = h
implied false b h e = absurd (false≢true e)

-- two tests that follow from each other are one
pub one_test : (a b : Bool) → (a ≡ true → b ≡ true) → (b ≡ true → a ≡ true) → a ≡ b
one_test true true f g = refl
one_test true false f g = sym (f refl)
one_test false true f g = g refl
one_test false false f g = refl

-- ---- rows

-- a row that didn't refuse
pub passed : (n : ℕ) (b : Bool) (v : ℕ) → unless (suc n) b v ≡ 0 → (b ≡ true) × (v ≡ 0)
passed n true v e = (refl, e)
passed n false v e = absurd (omega arith)

pub first_passed : (v w : ℕ) → first v w ≡ 0 → (v ≡ 0) × (w ≡ 0)
first_passed v w e = go (eqb v 0) refl e
  where
    go : (b : Bool) → eqb v 0 ≡ b → ◌≡◌ {A = ℕ} (elim b [ true ↦ w | false ↦ v ]) 0 → (v ≡ 0) × (w ≡ 0)
    go true q e = (eqb-true v 0 q, e)
    go false q e = absurd (eqb-false v 0 q e)

pub first_zero : (v w : ℕ) → v ≡ 0 → first v w ≡ w
first_zero v w e = rw (eq-eqb v 0 e, first)

-- ---- every element

pub every_all : {A : Type 0} (f : A → Bool) (xs : List A) → every f xs ≡ true → All (λ x. f x ≡ true) xs
every_all f [] h = nil
every_all f (x ∷ xs) h = go (every_all f xs) (f x) refl h
  where
    go : (every f xs ≡ true → All (λ x. f x ≡ true) xs) → (b : Bool) → f x ≡ b → ◌≡◌ {A = Bool} (elim b [ true ↦ every f xs | false ↦ false ]) true
        → All (λ x. f x ≡ true) (x ∷ xs)
    go rec true e h = cons e (rec h)
    go rec false e h = clash h refl

pub all_every : {A : Type 0} (f : A → Bool) {xs : List A} → All (λ x. f x ≡ true) xs → every f xs ≡ true
all_every f nil = refl
all_every f (cons {x} p h) = rw (p, every) (all_every f h)

pub all_replicate : {A : Type 0} (P : A → Type 0) (n : ℕ) (x : A) → P x → All P (replicate n x)
all_replicate P zero x p = nil
all_replicate P (suc n) x p = cons p (all_replicate P n x p)

pub map-append : {A B : Type 0} (f : A → B) (xs ys : List A) → map f (xs ++ ys) ≡ map f xs ++ map f ys
map-append f [] ys = refl
map-append {B} f (x ∷ xs) ys = ap {B = List B} (λ r. f x ∷ r) (map-append f xs ys)

pub same_bytes_lem : {xs ys : List ℕ} → xs ≡ ys → same_bytes xs ys ≡ true
same_bytes_lem {xs} {ys} e = rw (← e) (same xs)
  where
    same : (xs : List ℕ) → same_bytes xs xs ≡ true
    same [] = refl
    same (x ∷ xs) = rw (eq-eqb x x refl, same_bytes) (same xs)

pub same_bytes_are_equal : (xs ys : List ℕ) → same_bytes xs ys ≡ true → xs ≡ ys
same_bytes_are_equal [] [] e = refl
same_bytes_are_equal [] (y ∷ ys) e = absurd (false≢true e)
same_bytes_are_equal (x ∷ xs) [] e = absurd (false≢true e)
same_bytes_are_equal (x ∷ xs) (y ∷ ys) e = go (same_bytes_are_equal xs ys) (eqb x y) refl e
  where
    go : (same_bytes xs ys ≡ true → xs ≡ ys) → (b : Bool) → eqb x y ≡ b → ◌≡◌ {A = Bool} (elim b [ true ↦ same_bytes xs ys | false ↦ false ]) true
        → Path (List ℕ) (x ∷ xs) (y ∷ ys)
    go ih true f h = let a : x ≡ y = eqb-true x y f in let b : xs ≡ ys = ih h in λ j. a j ∷ b j
    go ih false f h = absurd (false≢true h)

-- ---- flags

pub set_bit : (b : Bool) → is_set (bit b) ≡ b
set_bit true = refl
set_bit false = refl

pub bit_small : (b : Bool) → bit b ≤ 1
bit_small true = omega arith
bit_small false = omega arith

pub bit_of : (n : ℕ) → n ≤ 1 → n ≡ bit (is_set n)
bit_of n h = go (eqb n 0) refl
  where
    go : (b : Bool) → eqb n 0 ≡ b → n ≡ bit (is_set n)
    go true e = rw e (eqb-true n 0 e)
    go false e = let z : (n ≡ 0) → ⊥ = eqb-false n 0 e in let y : n ≡ 1 = omega (arith, z) in rw y

-- ---- keys that are there or not

pub key_is_there : (b : Bool) (k c : List ℕ) → key_if b k ≡ some c → (b ≡ true) × (k ≡ c)
key_is_there true k c e = (refl, ap (λ (o : Option (List ℕ)). elim o [ none ↦ k | some x ↦ x ]) e)
key_is_there false k c e = let z : ◌≡◌ {A = ℕ} 0 1 = ap (λ (o : Option (List ℕ)). elim o [ none ↦ 0 | some x ↦ 1 ]) e in absurd (omega arith)

pub no_key : (b : Bool) (k : List ℕ) → (b ≡ true → ⊥) → key_if b k ≡ none
no_key true k h = absurd (h refl)
no_key false k h = refl

-- a key that is stored with its flag is the same key
pub kept_key : (b : Bool) (k : List ℕ) → key_if (is_set (bit b)) (cond b k zero_key) ≡ key_if b k
kept_key true k = refl
kept_key false k = refl

pub kept_key_long : (b : Bool) (k : List ℕ) → length k ≡ 32 → length (cond b k zero_key) ≡ 32
kept_key_long true k h = h
kept_key_long false k h = refl

pub kept_key_absent : (b : Bool) (k : List ℕ) → is_set (bit b) ≡ false → cond b k zero_key ≡ zero_key
kept_key_absent true k e = absurd (true≢false e)
kept_key_absent false k e = refl
