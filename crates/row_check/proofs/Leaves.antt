-- Nos. 1 to 6 of a row, leaf by leaf: the lowest number. Assumes nothing.
use Rattle.std.specs.Prelude as std
use Rattle.std.specs.Prelude.{Result, Ok, Err}
use Rattle.std.specs.Borrow.{Bor}
use Rattle.std.specs.Slice.{IsItemAt}
use Rattle.refusal.specs.declared.Refusal.{Refusal}
use Rattle.refusal.specs.Numbers.{number, number_of}
use Rattle.refusal.proofs.Numbers.{not_accepted}
use mathlib.Core.Path.{◌≡◌, refl, sym, ap, ◌∙◌}
use mathlib.Core.Bool.{true, ◌&&◌}
use mathlib.Core.List.{List, [], ◌∷◌}
use Prim.Native.Nat.{ℕ, ◌+◌, ◌*◌, ◌/◌, ◌%◌, ◌≤◌, ◌<◌}
use native.Mathlib.Omega.{arith}
use native.Mathlib.Decide.{dec_lt}
use native.Mathlib.Numerals.{add-one}
use native.Mathlib.Nat.{mul-div_cancel, div-add-mod'}
use lib.Dec.{eqb, ltb}
use lib.ListN.{length, get_or, take, drop, length-drop}
use lib.Seq.{drop-cons, drop-drop}
use borrow.Author.Tests.{eq-eqb, eqb-true, lt-ltb, le-ltb}
use Rattle.leaf_node.specs.Limits.{PageSize}
use Rattle.leaf_model.proofs.Tests.{and_left, and_right}
use Rattle.leaf_work.specs.Tests.{key_if, lent_key}
use Rattle.leaf_work.proofs.Tests.{and_both, one_test}
use Rattle.row_turns.specs.Row.{cutoff_by}
use Rattle.row_check.specs.Steps.{leaf_verdict}
use Rattle.row_check.specs.Verdict.{row_of, whole_pages, lower, leaves_verdict}

-- ---- No. 1

pub whole_pages_are_counted : (size pages n : ℕ) → PageSize size → (eqb (pages % size) 0 && eqb (pages / size) n) ≡ whole_pages size pages n
whole_pages_are_counted size pages n q = one_test (eqb (pages % size) 0 && eqb (pages / size) n) (eqb pages (n * size)) counts fills
  where
    some_size : 0 < size
    some_size = omega (arith, q.least)

    counts : (eqb (pages % size) 0 && eqb (pages / size) n) ≡ true → eqb pages (n * size) ≡ true
    counts h =
        let r = eqb-true (pages % size) 0 (and_left (eqb (pages % size) 0) _ h) in
        let d = eqb-true (pages / size) n (and_right (eqb (pages % size) 0) _ h) in
        let e : n * size + 0 ≡ pages = rw (r, d) at (div-add-mod' pages size) in
        eq-eqb pages (n * size) (omega (arith, e))

    fills : eqb pages (n * size) ≡ true → (eqb (pages % size) 0 && eqb (pages / size) n) ≡ true
    fills h =
        let e : pages ≡ n * size = eqb-true pages (n * size) h in
        let d : pages / size ≡ n = rw e (mul-div_cancel n some_size) in
        let m : n * size + pages % size ≡ pages = rw d at (div-add-mod' pages size) in
        and_both (eq-eqb (pages % size) 0 (omega (arith, m, e))) (eq-eqb (pages / size) n d)

-- ---- the lower of two

module _ (v w : Result (Unit {0}) Refusal) where
  pub none_before : (x : Unit {0}) → v ≡ Ok x → number_of w ≡ lower (number_of v) (number_of w)
  unfolding lower
  none_before x e = rw e

  module _ (r : Refusal) (e : v ≡ Err r) where
    pub none_behind : (x : Unit {0}) → w ≡ Ok x → number r ≡ lower (number_of v) (number_of w)
    unfolding lower
    none_behind x f = rw (e, f, not_accepted r)

    module _ (q : Refusal) (f : w ≡ Err q) (a b : ℕ) (ea : a ≡ number q) (eb : b ≡ number r) where
      pub the_second_is_lower : a < b → number q ≡ lower (number_of v) (number_of w)
      unfolding lower
      the_second_is_lower l = rw (e, f, not_accepted r, not_accepted q, lt-ltb (number q) (number r) (omega (arith, l, ea, eb)))

      pub the_first_is_lower : b ≤ a → number r ≡ lower (number_of v) (number_of w)
      unfolding lower
      the_first_is_lower l = rw (e, f, not_accepted r, not_accepted q, le-ltb (number q) (number r) (omega (arith, l, ea, eb)))

-- ---- one leaf

module _ (size : ℕ) (pages : List ℕ) (separators : List (List ℕ)) (i : ℕ) where
  next_separator : (c : std.Option (Bor (List ℕ))) → IsItemAt separators (i + 1) c → lent_key c ≡ key_if (ltb (i + 1) (length separators)) (get_or separators (i + 1) [])
  next_separator std.None h = rw (← h.0)
  next_separator (std.Some k) h = rw (← h.0, h.4 (omega arith) [])

-- ---- leaf after leaf

drop_past : {A : Type 0} (i : ℕ) (xs : List A) → length xs ≤ i → drop i xs ≡ []
drop_past i xs h = none_left (drop i xs) (omega (arith, length-drop i xs))
  where
    none_left : {A : Type 0} (ys : List A) → length ys ≤ 0 → ys ≡ []
    none_left [] h = refl
    none_left (y ∷ ys) h = absurd (omega arith)

cutoff_of_lem : (size : ℕ) (pages : List ℕ) (ss : List (List ℕ)) (i : ℕ) → cutoff_by (row_of size pages (drop i ss)) ≡ key_if (ltb i (length ss)) (get_or ss i [])
cutoff_of_lem size pages ss i = elim (dec_lt i (length ss)) [
  | yes h ↦ rw (drop-cons ss i [] h, lt-ltb i (length ss) h)
  | no h ↦ rw (drop_past i ss (omega arith), le-ltb i (length ss) (omega arith))
]

module _ (size : ℕ) (pages : List ℕ) (separators : List (List ℕ)) where
  -- the lowest of all is that of the leaves from i on, v being that of those before
  pub record Lowest (v i : ℕ) : Type 0 where
    pub within : i ≤ length separators
    pub same : leaves_verdict size v (row_of size (drop (i * size) pages) (drop i separators)) ≡ leaves_verdict size 0 (row_of size pages separators)

  module _ (v i : ℕ) (h : Lowest v i) where
    pub one_leaf_more : i < length separators → (x : ℕ) → x ≡ leaf_verdict size pages separators i → (w : ℕ) → w ≡ lower v x → Lowest w (i + 1)
    one_leaf_more l x ex w ew =
        let next : (i + 1) * size ≡ i * size + size = omega arith in
        let rest : drop size (drop (i * size) pages) ≡ drop ((i + 1) * size) pages = drop-drop size (i * size) pages ∙ ap (λ (n : ℕ). drop n pages) (sym next) in
        let row : row_of size (drop (i * size) pages) (drop i separators)
        ≡ record { separator = get_or separators i []; page = take size (drop (i * size) pages) } ∷ row_of size (drop ((i + 1) * size) pages) (drop (i + 1) separators) =
        rw (drop-cons separators i [] l, rest, add-one i) in
        record {
          within = omega arith;
          same = rw (ew, ex, ← cutoff_of_lem size (drop ((i + 1) * size) pages) separators (i + 1)) (ap (leaves_verdict size v) (sym row) ∙ h.same);
        }
