-- Linking the leaves of the new row writes its tickets, "later bytes" as they were. Assumes nothing.
use mathlib.Core.Path.{◌≡◌, refl, sym, ap, ◌∙◌}
use mathlib.Core.Bool.{false}
use mathlib.Core.Option.{none, some}
use mathlib.Core.List.{List, [], ◌∷◌, ◌++◌, map, append-nil, append_assoc}
use Prim.Native.Nat.{ℕ, suc, ◌+◌, ◌-◌, ◌*◌, ◌≤◌}
use native.Mathlib.Omega.{arith}
use lib.Dec.{eqb}
use lib.ListN.{length, drop, length-append, length-drop}
use lib.Seq.{drop-drop, take_at, drop_at}
use borrow.Author.Tests.{ne_eqb}
use Rattle.leaf_node.specs.Build.{put}
use Rattle.leaf_node.specs.Ticket.{packed_with, packed_all}
use Rattle.leaf_node.specs.Fits.{nil, cons}
use Rattle.leaf_model.specs.Work.{zero_key}
use Rattle.leaf_model.proofs.Lists.{all_append}
use Rattle.leaf_work.specs.Digest.{overwrite}
use Rattle.leaf_builder.proofs.Putting.{put_put, put_parts}
use Rattle.row_turns.specs.Row.{RowLeaf, is_from_zero, row_tickets}
use Rattle.row_turns.proofs.Separators.{Separated}
use Rattle.row_tickets.specs.Linked.{separator_at, linked, linked_all, last_linked}

-- the tickets of a row, packed
abbrev pub packed_row : List RowLeaf → List ℕ
packed_row xs = packed_all (row_tickets xs)

-- the last separator of a row
abbrev pub last_of : List ℕ → List RowLeaf → List ℕ
last_of s [] = s
last_of s (x ∷ xs) = last_of x.separator xs

-- ---- a row's tickets end with that of its last leaf, which another leaf gives a cutoff

record Ends (x : RowLeaf) (xs : List RowLeaf) : Type 0 where
  before : List ℕ
  before_long : length before ≡ 65 * length xs
  is : packed_row (x ∷ xs) ≡ before ++ packed_with (last_of x.separator xs) none
  more : (y : RowLeaf) → packed_row (x ∷ xs ++ (y ∷ [])) ≡ before ++ (packed_with (last_of x.separator xs) (some y.separator) ++ packed_with y.separator none)

ends : (x : RowLeaf) (xs : List RowLeaf) → Separated (x ∷ xs) → Ends x xs
ends x [] h = record { before = []; before_long = refl; is = append-nil (packed_with x.separator none); more = λ y. ap (λ (z : List ℕ). packed_with x.separator (some y.separator) ++ z) (append-nil (packed_with y.separator none)) }
ends x (y ∷ ys) (cons p (cons q a)) =
    let e = ends y ys (cons q a) in
    let first : List ℕ = packed_with x.separator (some y.separator) in
    record {
      before = first ++ e.before;
      before_long = omega (arith, length-append first e.before, length-append x.separator y.separator, p, q, e.before_long);
      is = ap (λ (z : List ℕ). first ++ z) e.is ∙ sym (append_assoc first e.before _);
      more = λ z. ap (λ (u : List ℕ). first ++ u) (e.more z) ∙ sym (append_assoc first e.before _);
    }

-- ---- bytes

put_behind : (A R u : List ℕ) (n : ℕ) → length A ≡ n → put (A ++ R) n u ≡ A ++ (u ++ drop (length u) R)
put_behind A R u n e =
    put_parts (A ++ R) n u
    ∙ ap (λ (t : List ℕ). t ++ (u ++ drop (n + length u) (A ++ R))) (take_at A R n e)
    ∙ ap (λ (t : List ℕ). A ++ (u ++ t)) (sym (drop-drop (length u) n (A ++ R)) ∙ ap (drop (length u)) (drop_at A R n e))

-- ---- one leaf more

module _ (T : List ℕ) where
  first_leaf : (last : List ℕ) (y : RowLeaf) → linked 0 last y.separator T ≡ overwrite (packed_row (is_from_zero (y ∷ []))) T
  first_leaf last y = put_behind [] T (packed_with zero_key none) 0 refl

  module _ (x : RowLeaf) (xs : List RowLeaf) (h : Separated (x ∷ xs)) (y : RowLeaf) (hy : length y.separator ≡ 32) (long : 65 * (length xs + 2) ≤ length T) where
    e : Ends x xs
    e = ends x xs h

    abbrev l : List ℕ
    l = last_of x.separator xs

    last_long : (s : List ℕ) {zs : List RowLeaf} → length s ≡ 32 → Separated zs → length (last_of s zs) ≡ 32
    last_long s p nil = p
    last_long s p (cons {x = z} q a) = last_long z.separator q a

    l_long : length l ≡ 32
    l_long = at h
      where
        at : Separated (x ∷ xs) → length l ≡ 32
        at (cons p a) = last_long x.separator p a

    abbrev old : List ℕ
    old = packed_row (x ∷ xs)

    abbrev u : List ℕ
    u = packed_with l (some y.separator) ++ packed_with y.separator none

    first_long : length (packed_with l (some y.separator)) ≡ 65
    first_long = omega (arith, length-append l y.separator, l_long, hy)

    u_long : length u ≡ 98
    u_long = omega (arith, length-append (packed_with l (some y.separator)) (packed_with y.separator none), first_long, hy)

    old_long : length old ≡ length e.before + 33
    old_long = ap length e.is ∙ omega (arith, length-append e.before (packed_with l none), l_long)

    new_long : length (packed_row (x ∷ xs ++ (y ∷ []))) ≡ length old + 65
    new_long = ap length (e.more y) ∙ omega (arith, length-append e.before u, u_long, old_long)

    abbrev D : List ℕ
    D = drop (length old) T

    parts : overwrite old T ≡ e.before ++ (packed_with l none ++ D)
    parts = ap (λ (z : List ℕ). z ++ D) e.is ∙ append_assoc e.before (packed_with l none) D

    rest_is : drop (length u) (packed_with l none ++ D) ≡ drop (length (packed_row (x ∷ xs ++ (y ∷ [])))) T
    rest_is =
        let m : length u ≡ 33 + 65 = u_long in
        let k : length old + 65 ≡ length (packed_row (x ∷ xs ++ (y ∷ []))) = sym new_long in
        ap (λ (i : ℕ). drop i (packed_with l none ++ D)) m
        ∙ sym (drop-drop 65 33 (packed_with l none ++ D))
        ∙ ap (drop 65) (drop_at (packed_with l none) D 33 (ap suc l_long))
        ∙ drop-drop 65 (length old) T
        ∙ ap (λ (i : ℕ). drop i T) k

    abbrev n : ℕ
    n = length (x ∷ xs)

    at_is : length e.before ≡ 65 * n - 65
    at_is = omega (arith, e.before_long)

    within : 65 * n - 65 ≤ length (overwrite old T)
    within = omega (arith, length-append old D, length-drop (length old) T, old_long, at_is, long)

    next_leaf : linked n l y.separator (overwrite old T) ≡ overwrite (packed_row (x ∷ xs ++ (y ∷ []))) T
    next_leaf =
        let z : eqb n 0 ≡ false = ne_eqb n 0 (λ (q : n ≡ 0). absurd (omega (arith, q))) in
        let s' : List ℕ = packed_with l (some y.separator) in
        let b : 65 * n ≡ 65 * n - 65 + length s' = omega (arith, first_long) in
        rw (linked, z)
        (put_put (overwrite old T) (65 * n - 65) s' (65 * n) (packed_with y.separator none) b within
        ∙ ap (λ (d : List ℕ). put d (65 * n - 65) u) parts
        ∙ put_behind e.before (packed_with l none ++ D) u (65 * n - 65) at_is
        ∙ ap (λ (t : List ℕ). e.before ++ (u ++ t)) rest_is
        ∙ sym (append_assoc e.before u _)
        ∙ ap (λ (t : List ℕ). t ++ drop (length (packed_row (x ∷ xs ++ (y ∷ [])))) T) (sym (e.more y)))

  -- ---- leaf after leaf

  -- where the row so far ends
  pub record Linked (row : List RowLeaf) (n : ℕ) (last tickets : List ℕ) : Type 0 where
    pub count_is : n ≡ length row
    pub last_is : last ≡ last_of zero_key (is_from_zero row)
    pub tickets_are : tickets ≡ overwrite (packed_row (is_from_zero row)) T
    pub long : Separated row

  pub no_leaf_is_linked : Linked [] 0 zero_key T
  no_leaf_is_linked = record { count_is = refl; last_is = refl; tickets_are = refl; long = nil }

  from_zero_long : {row : List RowLeaf} → Separated row → Separated (is_from_zero row)
  from_zero_long nil = nil
  from_zero_long (cons h a) = cons refl a

  last_of_more : (s : List ℕ) (xs : List RowLeaf) (y : RowLeaf) → last_of s (xs ++ (y ∷ [])) ≡ y.separator
  last_of_more s [] y = refl
  last_of_more s (x ∷ xs) y = last_of_more x.separator xs y

  pub one_leaf_is_linked : (row : List RowLeaf) (n : ℕ) (last tickets : List ℕ) → Linked row n last tickets → (y : RowLeaf) → length y.separator ≡ 32 → 65 * (n + 1) ≤ length T
      → Linked (row ++ (y ∷ [])) (n + 1) (separator_at n y.separator) (linked n last y.separator tickets)
  one_leaf_is_linked [] n last tickets h y p r =
      let z : n ≡ 0 = h.count_is in
      let d : tickets ≡ T = h.tickets_are in
      record {
        count_is = omega (arith, z);
        last_is = ap (λ (m : ℕ). separator_at m y.separator) z;
        tickets_are = ap (λ (m : ℕ). linked m last y.separator tickets) z ∙ ap (linked 0 last y.separator) d ∙ first_leaf last y;
        long = cons p nil;
      }
  one_leaf_is_linked (x ∷ xs) n last tickets h y p r =
      let x₀ : RowLeaf = record { separator = zero_key; page = x.page } in
      let z : eqb n 0 ≡ false = ne_eqb n 0 (λ (q : n ≡ 0). absurd (omega (arith, q, h.count_is))) in
      let f : Separated (x₀ ∷ xs) = from_zero_long h.long in
      record {
        count_is = omega (arith, h.count_is, length-append (x ∷ xs) (y ∷ []));
        last_is = rw (separator_at, z) (sym (last_of_more zero_key (x₀ ∷ xs) y));
        tickets_are =
            ap (λ (m : ℕ). linked m last y.separator tickets) h.count_is
            ∙ ap (λ (l : List ℕ). linked (length (x ∷ xs)) l y.separator tickets) h.last_is
            ∙ ap (linked (length (x ∷ xs)) (last_of zero_key (x₀ ∷ xs)) y.separator) h.tickets_are
            ∙ next_leaf x₀ xs f y p (omega (arith, r, h.count_is));
        long = all_append h.long (cons p nil);
      }

  pub leaves_are_linked : (row : List RowLeaf) (n : ℕ) (last tickets : List ℕ) → Linked row n last tickets → (ys : List RowLeaf) → Separated ys → 65 * (n + length ys) ≤ length T
      → Linked (row ++ ys) (n + length ys) (last_linked n last (map (λ y. y.separator) ys)) (linked_all n last (map (λ y. y.separator) ys) tickets)
  leaves_are_linked row n last tickets h [] nil r = let m : n + 0 ≡ n = omega arith in rw (append-nil row, m) h
  leaves_are_linked row n last tickets h (y ∷ ys) (cons p a) r =
      let m : n + 1 + length ys ≡ n + length (y ∷ ys) = omega arith in
      let g = leaves_are_linked (row ++ (y ∷ [])) (n + 1) (separator_at n y.separator) (linked n last y.separator tickets) (one_leaf_is_linked row n last tickets h y p (omega (arith, r))) ys a (omega (arith, r)) in
      rw (← m, ← append_assoc row (y ∷ []) ys) g
