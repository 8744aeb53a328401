-- The leaves of a row, laid on the scale one after another. Assumes nothing.
use mathlib.Core.Path.{◌≡◌, refl, sym, ap, ◌∙◌}
use mathlib.Core.List.{List, [], ◌∷◌, ◌++◌}
use Prim.Native.Nat.{ℕ, zero, suc, ◌+◌, ◌-◌, ◌*◌, ◌≤◌, ◌<◌}
use native.Mathlib.Nat.{mul-le-mul_right}
use native.Mathlib.Numerals.{add-one}
use native.Mathlib.Omega.{arith}
use lib.Dec.{leb}
use lib.ListN.{length, take, drop, drop_of_length-le}
use lib.Seq.{drop-cons, drop-drop}
use borrow.Author.Tests.{eqb-true, leb-true}
use Rattle.leaf_node.specs.Record.{Record}
use Rattle.leaf_node.specs.Limits.{PageSize, body_limit, record_limit}
use Rattle.leaf_node.specs.Page.{count, records}
use Rattle.leaf_node.specs.Good.{Good}
use Rattle.leaf_node.specs.Steps.{Laid}
use Rattle.leaf_node.proofs.Reading.{good_pages_are_laid}
use Rattle.leaf_model.proofs.Tests.{and_left}
use Rattle.leaf_work.proofs.Tests.{passed, first_passed}
use Rattle.row_turns.specs.Row.{IsRow, row∷}
use Rattle.row_check.specs.Verdict.{row_of, whole_pages, leaves_verdict, short_from_zero, lent_row_verdict}
use Rattle.row_check.proofs.Facts.{leaves_that_pass_are_a_row}
use Rattle.melt_scale.specs.declared.Scale.{Scale}
use Rattle.melt_scale.specs.Steps.{empty_scale, weighed_record, weighed_all, page_room, Light, Heavier}
use Rattle.melt_scale.proofs.Scales.{more_weights, at_most_so_many, one_is_a_factor}
use Rattle.melt_sheet.specs.Melt.{row_records}
use Rattle.melt_sheet.specs.Steps.{RowRight}

-- ---- a row that passed

pub a_row_that_passes_is_right : (size : ℕ) (pages : List ℕ) (separators : List (List ℕ)) → PageSize size → length pages < 18446744073709551616 → (v : ℕ)
    → v ≡ lent_row_verdict size pages separators → v ≡ 0 → RowRight size pages separators
unfolding lent_row_verdict
a_row_that_passes_is_right size pages separators q f v e z =
    let a = passed 0 (whole_pages size (length pages) (length separators)) _ (sym e ∙ z) in
    let b = first_passed (leaves_verdict size 0 (row_of size pages separators)) _ a.1 in
    let c = passed 17 (short_from_zero separators) _ b.1 in
    record {
      sized = q;
      whole = eqb-true (length pages) (length separators * size) a.0;
      fits = f;
      row = (leaves_that_pass_are_a_row size q 0 (row_of size pages separators) b.0).1;
      few = leb-true (length separators) 16 (and_left (leb (length separators) 16) _ c.0);
    }

-- ---- its leaves

page_is_good : (size : ℕ) (pages : List ℕ) (ss : List (List ℕ)) (i : ℕ) → IsRow size (row_of size pages ss) → i < length ss → Good size (take size (drop (i * size) pages))
page_is_good size pages [] i r h = absurd (omega arith)
page_is_good size pages (s ∷ ss) zero (row∷ l r) h = let e : 0 * size ≡ 0 = omega arith in rw e l.good
page_is_good size pages (s ∷ ss) (suc i) (row∷ l r) h =
    let e : size + i * size ≡ suc i * size = omega arith in
    let d : drop (i * size) (drop size pages) ≡ drop (suc i * size) pages = drop-drop (i * size) size pages ∙ ap (λ (n : ℕ). drop n pages) e in
    rw (← d) (page_is_good size (drop size pages) ss i r (omega arith))

module _ (size : ℕ) (pages : List ℕ) (separators : List (List ℕ)) (r : RowRight size pages separators) (i : ℕ) (h : i < length separators) where
  pub a_leaf_lies_in_the_pages : i * size + size ≤ length pages
  a_leaf_lies_in_the_pages = omega (arith, r.whole, mul-le-mul_right size h)

  pub a_leafs_start_is_a_place : i * size < 18446744073709551616
  a_leafs_start_is_a_place = omega (arith, a_leaf_lies_in_the_pages, r.fits, r.sized.least)

  pub a_leafs_end_is_a_place : i * size + size < 18446744073709551616
  a_leafs_end_is_a_place = omega (arith, a_leaf_lies_in_the_pages, r.fits)

  good : Good size (take size (drop (i * size) pages))
  good = page_is_good size pages separators i r.row h

  same_page : take (i * size + size - i * size) (drop (i * size) pages) ≡ take size (drop (i * size) pages)
  same_page = let e : i * size + size - i * size ≡ size = omega arith in ap (λ (n : ℕ). take n (drop (i * size) pages)) e

  pub a_leaf_is_laid : Laid (take (i * size + size - i * size) (drop (i * size) pages)) (count (take (i * size + size - i * size) (drop (i * size) pages)))
  a_leaf_is_laid = rw same_page (good_pages_are_laid size (take size (drop (i * size) pages)) r.sized good)

  pub a_leaf_has_few_records : count (take size (drop (i * size) pages)) ≤ 1024
  unfolding record_limit body_limit
  a_leaf_has_few_records = omega (arith, good.few, r.sized.most)

-- ---- leaf after leaf

weighed_behind : (tree : List ℕ) (s : Scale) (xs ys : List Record) → weighed_all tree s (xs ++ ys) ≡ weighed_all tree (weighed_all tree s xs) ys
weighed_behind tree s [] ys = refl
weighed_behind tree s (x ∷ xs) ys = weighed_behind tree (weighed_record tree s x) xs ys

-- s is the scale after the first i leaves
pub record AfterLeaves (size : ℕ) (pages : List ℕ) (separators : List (List ℕ)) (tree : List ℕ) (s : Scale) (i : ℕ) : Type 0 where
  pub within : i ≤ length separators
  pub same : weighed_all tree s (row_records (row_of size (drop (i * size) pages) (drop i separators))) ≡ weighed_all tree empty_scale (row_records (row_of size pages separators))
  pub heavier : Heavier (i * 1024) empty_scale s

module _ (size : ℕ) (pages : List ℕ) (separators : List (List ℕ)) (tree : List ℕ) where
  pub before_the_first_leaf : (s : Scale) → s ≡ empty_scale → AfterLeaves size pages separators tree s 0
  before_the_first_leaf s e =
      let z : 0 * size ≡ 0 = omega arith in
      record {
        within = omega arith;
        same = rw (z, e) refl;
        heavier = rw e (record { total = omega arith; sprues = omega arith; factors = omega arith; factor = one_is_a_factor });
      }

  module _ (r : RowRight size pages separators) (s : Scale) (i : ℕ) (a : AfterLeaves size pages separators tree s i) where
    pub room_for_a_leaf : i < length separators → Light page_room s
    room_for_a_leaf h = record {
      total = omega (arith, h, r.few, a.heavier.total);
      sprues = omega (arith, h, r.few, a.heavier.sprues);
      factors = omega (arith, h, r.few, a.heavier.factors);
      factor = a.heavier.factor;
    }

    pub one_leaf_more : i < length separators → (t : Scale) → t ≡ weighed_all tree s (records (take (i * size + size - i * size) (drop (i * size) pages)))
        → Heavier (count (take (i * size + size - i * size) (drop (i * size) pages))) s t → AfterLeaves size pages separators tree t (i + 1)
    one_leaf_more h t e g =
        let page : List ℕ = take size (drop (i * size) pages) in
        let p : take (i * size + size - i * size) (drop (i * size) pages) ≡ page = same_page size pages separators r i h in
        let next : (i + 1) * size ≡ i * size + size = omega arith in
        let rest : drop size (drop (i * size) pages) ≡ drop ((i + 1) * size) pages = drop-drop size (i * size) pages ∙ ap (λ (n : ℕ). drop n pages) (sym next) in
        let row : row_records (row_of size (drop (i * size) pages) (drop i separators)) ≡ records page ++ row_records (row_of size (drop ((i + 1) * size) pages) (drop (i + 1) separators)) =
        rw (drop-cons separators i [] h, rest, add-one i) in
        let heavy : Heavier 1024 s t = at_most_so_many s t t (count page) 1024 (a_leaf_has_few_records size pages separators r i h) (rw p at g) in
        let more : i * 1024 + 1024 ≡ (i + 1) * 1024 = omega arith in
        record {
          within = omega arith;
          same = rw (e, p) (sym (weighed_behind tree s (records page) (row_records (row_of size (drop ((i + 1) * size) pages) (drop (i + 1) separators)))) ∙ ap (weighed_all tree s) (sym row) ∙ a.same);
          heavier = rw (← more) (more_weights empty_scale s t (i * 1024) 1024 a.heavier heavy);
        }

    pub all_leaves : length separators ≤ i → (s ≡ weighed_all tree empty_scale (row_records (row_of size pages separators))) × Heavier 16384 empty_scale s
    all_leaves h = (rw (drop_of_length-le separators {i = i} h) at a.same, at_most_so_many empty_scale s s (i * 1024) 16384 (omega (arith, r.few, a.within)) a.heavier)
