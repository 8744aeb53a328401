-- Tests on keys as orders of their numbers, and lists of records whose keys rise. Assumes nothing.
use mathlib.Core.Path.{◌≡◌}
use mathlib.Core.Bool.{true, false, not}
use mathlib.Core.Option.{Option, some}
use mathlib.Core.List.{List, [], ◌∷◌, ◌++◌}
use Prim.Native.Nat.{ℕ}
use borrow.Author.Tests.{ltb-true, ltb-false, lt-ltb, le-ltb, not-true}
use Rattle.bit_ops.specs.Key.{num, lt_key}
use Rattle.leaf_node.specs.Record.{Record}
use Rattle.leaf_node.specs.Fits.{All, nil, cons, Rising, rise[], rise∷}
use Rattle.leaf_model.specs.Work.{below_cutoff}
use Rattle.leaf_model.specs.Claim.{Lt, Le}
use Rattle.leaf_model.proofs.Lists.{all_append, all_left, all_right_lem}

pub lt_of_test : (a b : List ℕ) → lt_key a b ≡ true → Lt a b
unfolding lt_key
lt_of_test a b h = ltb-true (num a) (num b) h

pub le_of_test : (a b : List ℕ) → lt_key b a ≡ false → Le a b
unfolding lt_key
le_of_test a b h = ltb-false (num b) (num a) h

pub le_of_not : (a b : List ℕ) → not (lt_key b a) ≡ true → Le a b
le_of_not a b h = le_of_test a b (not-true (lt_key b a) h)

pub test_of_lt : (a b : List ℕ) → Lt a b → lt_key a b ≡ true
unfolding lt_key
test_of_lt a b h = lt-ltb (num a) (num b) h

pub test_of_le : (a b : List ℕ) → Le a b → lt_key b a ≡ false
unfolding lt_key
test_of_le a b h = le-ltb (num b) (num a) h

-- a key below a cutoff
pub lt_of_cutoff : (o : Option (List ℕ)) (k c : List ℕ) → below_cutoff o k ≡ true → o ≡ some c → Lt k c
lt_of_cutoff o k c h e = lt_of_test k c (rw e at h)

-- ---- rising keys

pub rising_head : {x : Record} {xs : List Record} → Rising (x ∷ xs) → All (λ y. Lt x.key y.key) xs
rising_head (rise∷ a h) = a

pub rising_tail : {x : Record} {xs : List Record} → Rising (x ∷ xs) → Rising xs
rising_tail (rise∷ a h) = h

-- each of `xs` is below each of `ys`
abbrev pub Before : List Record → List Record → Type 0
Before xs ys = All (λ x. All (λ y. Lt x.key y.key) ys) xs

pub rising_append : {xs ys : List Record} → Rising xs → Rising ys → Before xs ys → Rising (xs ++ ys)
rising_append rise[] k b = k
rising_append (rise∷ a h) k (cons p b) = rise∷ (all_append a p) (rising_append h k b)

pub rising_left : (xs ys : List Record) → Rising (xs ++ ys) → Rising xs
rising_left [] ys h = rise[]
rising_left (x ∷ xs) ys (rise∷ a h) = rise∷ (all_left xs ys a) (rising_left xs ys h)

pub rising_right : (xs ys : List Record) → Rising (xs ++ ys) → Rising ys
rising_right [] ys h = h
rising_right (x ∷ xs) ys (rise∷ a h) = rising_right xs ys h

pub rising_before : (xs ys : List Record) → Rising (xs ++ ys) → Before xs ys
rising_before [] ys h = nil
rising_before (x ∷ xs) ys (rise∷ a h) = cons (all_right_lem xs ys a) (rising_before xs ys h)
