-- Records whose keys rise behind a given one: part by part, in a page, and as the rules say it. Assumes nothing.
use mathlib.Core.Path.{◌≡◌, refl, ap, ◌∙◌}
use mathlib.Core.Bool.{Bool, true, false, not, ◌&&◌, ◌||◌}
use mathlib.Core.Option.{Option, none, some}
use mathlib.Core.List.{List, [], ◌∷◌, ◌++◌}
use Prim.Native.Nat.{ℕ, zero, suc, ◌+◌, ◌-◌, ◌≤◌, ◌<◌}
use native.Mathlib.Numerals.{add-one}
use native.Mathlib.Omega.{arith}
use native.Mathlib.Nat.{lt_trans, lt_of_le_of_lt, le_of_lt}
use Rattle.bit_ops.specs.Key.{num, lt_key}
use Rattle.leaf_node.specs.Record.{Record}
use Rattle.leaf_node.specs.Page.{count, key_at, record_at, run, records_between}
use Rattle.leaf_node.specs.Good.{KeysRise}
use Rattle.leaf_node.specs.Fits.{All, nil, cons}
use Rattle.leaf_model.specs.Basics.{nonempty}
use Rattle.leaf_model.specs.Work.{above_last, below_cutoff, is_rising}
use Rattle.leaf_model.proofs.Tests.{and_left, and_right}
use Rattle.leaf_model.proofs.Lists.{all_map}
use Rattle.leaf_model.proofs.Keys.{lt_of_test, le_of_not, test_of_lt}
use Rattle.leaf_work.specs.declared.Work.{Work}
use Rattle.leaf_work.specs.Tests.{is_zero}
use Rattle.leaf_work.specs.Sound.{lets_in, past_all}
use Rattle.leaf_work.proofs.Tests.{and_both}
use Rattle.leaf_pass.specs.Pass.{is_behind}

-- behind a key: above it where it is a record's, else at or above it
abbrev pub behind : Bool → List ℕ → List ℕ → Bool
behind true l k = lt_key l k
behind false l k = not (lt_key k l)

abbrev pub rises : Bool → List ℕ → List Record → Bool
rises s l [] = true
rises s l (r ∷ rs) = behind s l r.key && rises true r.key rs

-- the last key, or the given one
abbrev pub last_from : List ℕ → List Record → List ℕ
last_from l [] = l
last_from l (r ∷ rs) = last_from r.key rs

abbrev pub is_some : ℕ → Bool
is_some n = not (is_zero n)

pub is_behind_lem : (n : ℕ) (l k : List ℕ) → is_behind n l k ≡ behind (is_some n) l k
is_behind_lem n l k = go (is_zero n) refl
  where
    go : (b : Bool) → is_zero n ≡ b → is_behind n l k ≡ behind (is_some n) l k
    go true e = rw (e, is_behind)
    go false e = rw (e, is_behind)

-- ---- part by part

pub rises_left : (s : Bool) (l : List ℕ) (xs ys : List Record) → rises s l (xs ++ ys) ≡ true → rises s l xs ≡ true
rises_left s l [] ys h = refl
rises_left s l (x ∷ xs) ys h = and_both (and_left (behind s l x.key) _ h) (rises_left true x.key xs ys (and_right (behind s l x.key) _ h))

pub rises_right : (s : Bool) (l : List ℕ) (xs ys : List Record) → rises s l (xs ++ ys) ≡ true → rises (s || nonempty xs) (last_from l xs) ys ≡ true
rises_right true l [] ys h = h
rises_right false l [] ys h = h
rises_right true l (x ∷ xs) ys h = rises_right true x.key xs ys (and_right (behind true l x.key) _ h)
rises_right false l (x ∷ xs) ys h = rises_right true x.key xs ys (and_right (behind false l x.key) _ h)

pub rises_append : (s : Bool) (l : List ℕ) (xs ys : List Record) → rises s l xs ≡ true → rises (s || nonempty xs) (last_from l xs) ys ≡ true → rises s l (xs ++ ys) ≡ true
rises_append true l [] ys h k = k
rises_append false l [] ys h k = k
rises_append true l (x ∷ xs) ys h k = and_both (and_left (behind true l x.key) _ h) (rises_append true x.key xs ys (and_right (behind true l x.key) _ h) k)
rises_append false l (x ∷ xs) ys h k = and_both (and_left (behind false l x.key) _ h) (rises_append true x.key xs ys (and_right (behind false l x.key) _ h) k)

pub last_append : (l : List ℕ) (xs ys : List Record) → last_from l (xs ++ ys) ≡ last_from (last_from l xs) ys
last_append l [] ys = refl
last_append l (x ∷ xs) ys = last_append x.key xs ys

-- ---- in a page

module _ (p : List ℕ) (k : KeysRise p) where
  run_rises : (m i : ℕ) → i + suc m ≤ count p → rises true (key_at p i) (run m (suc i) (record_at p)) ≡ true
  unfolding run record_at
  run_rises zero i h = refl
  run_rises (suc m) i h =
      let e : key_at p (i + 1) ≡ key_at p (suc i) = ap (key_at p) (add-one i) in
      let f : lt_key (key_at p i) (key_at p (suc i)) ≡ true = rw (← e) (test_of_lt (key_at p i) (key_at p (i + 1)) (k i (omega arith))) in
      and_both {a = lt_key (key_at p i) (key_at p (suc i))} f (run_rises m (suc i) (omega arith))

  run_last : (m i : ℕ) → last_from (key_at p i) (run m (suc i) (record_at p)) ≡ key_at p (i + m)
  unfolding run record_at
  run_last zero i = ap (key_at p) (omega arith)
  run_last (suc m) i = run_last m (suc i) ∙ ap (key_at p) (omega arith)

  module _ (from to : ℕ) (h : from < to) (t : to ≤ count p) where
    pub between_is : records_between p from to ≡ record_at p from ∷ run (to - from - 1) (suc from) (record_at p)
    unfolding records_between run
    between_is = let e : to - from ≡ suc (to - from - 1) = omega arith in ap (λ (m : ℕ). run m from (record_at p)) e

    pub between_rises : (s : Bool) (l : List ℕ) → behind s l (key_at p from) ≡ true → rises s l (records_between p from to) ≡ true
    unfolding record_at
    between_rises s l b = rw between_is (and_both b (run_rises (to - from - 1) from (omega arith)))

    pub between_first : (s : Bool) (l : List ℕ) → rises s l (records_between p from to) ≡ true → behind s l (key_at p from) ≡ true
    unfolding record_at
    between_first s l b = and_left (behind s l (key_at p from)) _ (rw between_is at b)

    pub between_last : (l : List ℕ) → last_from l (records_between p from to) ≡ key_at p (to - 1)
    unfolding record_at
    between_last l = rw between_is (run_last (to - from - 1) from ∙ ap (key_at p) (omega arith))

    pub between_some : nonempty (records_between p from to) ≡ true
    between_some = rw between_is

-- ---- as the rules say it

pub above_all : (l : List ℕ) (xs : List Record) → rises true l xs ≡ true → All (λ r. num l < num r.key) xs
above_all l [] h = nil
above_all l (x ∷ xs) h =
    let a = lt_of_test l x.key (and_left (lt_key l x.key) _ h) in
    cons a (all_map (λ r b. lt_trans a b) (above_all x.key xs (and_right (lt_key l x.key) _ h)))

-- keys that rise behind a separator rise, and are at or above it
pub rise_of : (l : List ℕ) (xs : List Record) → rises false l xs ≡ true → is_rising xs ≡ true
rise_of l [] h = refl
rise_of l (x ∷ xs) h = go x.key xs (and_right (not (lt_key x.key l)) _ h) x refl
  where
    go : (k : List ℕ) (ys : List Record) → rises true k ys ≡ true → (y : Record) → y.key ≡ k → is_rising (y ∷ ys) ≡ true
    go k [] h y e = refl
    go k (z ∷ zs) h y e = rw e (and_both (and_left (lt_key k z.key) _ h) (go z.key zs (and_right (lt_key k z.key) _ h) z refl))

pub at_or_above_of : (l : List ℕ) (xs : List Record) → rises false l xs ≡ true → All (λ r. num l ≤ num r.key) xs
at_or_above_of l [] h = nil
at_or_above_of l (x ∷ xs) h =
    let a = le_of_not l x.key (and_left (not (lt_key x.key l)) _ h) in
    cons a (all_map (λ r b. le_of_lt (lt_of_le_of_lt a b)) (above_all x.key xs (and_right (not (lt_key x.key l)) _ h)))

-- and the other way
rises_on : (k : List ℕ) (y : Record) (ys : List Record) → y.key ≡ k → is_rising (y ∷ ys) ≡ true → rises true k ys ≡ true
rises_on k y [] e h = refl
rises_on k y (z ∷ zs) e h = and_both {a = lt_key k z.key} (rw (← e) (and_left (lt_key y.key z.key) _ h)) (rises_on z.key z zs refl (and_right (lt_key y.key z.key) _ h))

pub rises_of : (l : List ℕ) (xs : List Record) → is_rising xs ≡ true → All (λ r. not (lt_key r.key l) ≡ true) xs → rises false l xs ≡ true
rises_of l [] h a = refl
rises_of l (x ∷ xs) h (cons a az) = and_both a (rises_on x.key x xs refl h)

all_true : (xs : List Record) → All (λ r. true ≡ true) xs
all_true [] = nil
all_true (x ∷ xs) = cons refl (all_true xs)

-- ---- the last key decides what is below a cutoff, the first what is above the last key taken, the last what is past

pub below_all : (s : Bool) (l : List ℕ) (c : Option (List ℕ)) (xs : List Record) → rises s l xs ≡ true → below_cutoff c (last_from l xs) ≡ true → All (λ r. below_cutoff c r.key ≡ true) xs
below_all s l none xs h b = all_true xs
below_all s l (some c) [] h b = nil
below_all s l (some c) (x ∷ xs) h b =
    let k = and_right (behind s l x.key) _ h in
    cons (test_of_lt x.key c (last_below_lem x.key xs k (lt_of_test (last_from x.key xs) c b))) (below_all true x.key (some c) xs k b)
  where
    last_below_lem : (k : List ℕ) (ys : List Record) → rises true k ys ≡ true → num (last_from k ys) < num c → num k < num c
    last_below_lem k [] h b = b
    last_below_lem k (y ∷ ys) h b = lt_trans (lt_of_test k y.key (and_left (lt_key k y.key) _ h)) (last_below_lem y.key ys (and_right (lt_key k y.key) _ h) b)

pub last_is_below : (l : List ℕ) (c : Option (List ℕ)) (x : Record) (xs : List Record) → All (λ r. below_cutoff c r.key ≡ true) (x ∷ xs) → below_cutoff c (last_from l (x ∷ xs)) ≡ true
last_is_below l c x [] (cons a nil) = a
last_is_below l c x (y ∷ ys) (cons a az) = last_is_below x.key c y ys az

pub above_last_all : (o : Option (List ℕ)) (s : Bool) (l : List ℕ) (x : Record) (xs : List Record) → rises s l (x ∷ xs) ≡ true → above_last o x.key ≡ true
    → All (λ r. above_last o r.key ≡ true) (x ∷ xs)
above_last_all none s l x xs h a = all_true (x ∷ xs)
above_last_all (some t) s l x xs h a =
    cons a (all_map (λ r b. test_of_lt t r.key (lt_trans (lt_of_test t x.key a) b)) (above_all x.key xs (and_right (behind s l x.key) _ h)))

pub past_is : (w : Work) (l : List ℕ) (x : Record) (xs : List Record) → past_all w (x ∷ xs) ≡ not (lets_in w (last_from l (x ∷ xs)))
past_is w l x [] = refl
past_is w l x (y ∷ ys) = past_is w x.key y ys
