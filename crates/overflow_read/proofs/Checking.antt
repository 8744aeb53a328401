-- The check of the pages: bytes, a page, all pages, and the number of a reading. Assumes nothing.
use mathlib.Core.Path.{◌≡◌, refl, sym, ◌∙◌}
use mathlib.Core.Bool.{Bool, true, false, not, ◌&&◌}
use mathlib.Core.List.{List, [], ◌∷◌}
use Prim.Native.Nat.{ℕ, suc, ◌+◌, ◌-◌, ◌*◌, ◌≤◌, ◌<◌, min}
use native.Mathlib.Nat.{add-sub_cancel_left, sub-zero}
use native.Mathlib.Omega.{arith}
use native.Mathlib.Numerals.{add-one}
use lib.Dec.{leb, eqb}
use lib.ListN.{length, get_or, take, drop, length-take, length-drop, drop_of_length-le}
use lib.Seq.{take_all, drop-cons, drop-drop}
use borrow.Author.Tests.{eqb-true, eqb-false, eq-eqb, ne_eqb, not-true, not-false}
use Rattle.refusal.specs.declared.Refusal.{Refusal}
use Rattle.refusal.specs.Numbers.{number}
use Rattle.leaf_node.specs.Page.{word}
use Rattle.leaf_node.proofs.Rules.{true_is_not_false}
use Rattle.overflow.specs.Read.{all_zero, page_right, pages_in, pages_right}
use Rattle.overflow.specs.Verdict.{all_right, read_verdict}
use Rattle.overflow.specs.Steps.{RightCell, WrongCell}
use Rattle.overflow.proofs.Reading.{next_page_in, no_page_in, next_page_right, no_page_right}
use Rattle.overflow_read.specs.Steps.{decoded_verdict}

-- ---- bytes

-- all are zeros just where those from i on are and the sum of those before is 0
pub record Summed (bs : List ℕ) (i sum : ℕ) : Type 0 where
  pub small : sum ≤ 255 * i
  pub same : (eqb sum 0 && all_zero (drop i bs)) ≡ all_zero bs

next_zero : (b : ℕ) (bs : List ℕ) → all_zero (b ∷ bs) ≡ (eqb b 0 && all_zero bs)
unfolding all_zero
next_zero b bs = refl

nothing : all_zero [] ≡ true
unfolding all_zero
nothing = refl

both_zero : (x y : ℕ) (r : Bool) → (eqb (x + y) 0 && r) ≡ (eqb x 0 && (eqb y 0 && r))
both_zero x y r = go (eqb x 0) (eqb y 0) refl refl
  where
    go : (a b : Bool) → eqb x 0 ≡ a → eqb y 0 ≡ b → (eqb (x + y) 0 && r) ≡ (eqb x 0 && (eqb y 0 && r))
    go true true e f = rw (e, f, eq-eqb (x + y) 0 (omega (arith, eqb-true x 0 e, eqb-true y 0 f)))
    go true false e f = rw (e, f, ne_eqb (x + y) 0 (λ h. eqb-false y 0 f (omega (arith, h))))
    go false b e f = rw (e, ne_eqb (x + y) 0 (λ h. eqb-false x 0 e (omega (arith, h))))

module _ (bs : List ℕ) where
  pub no_byte_is_seen : Summed bs 0 0
  no_byte_is_seen = record { small = omega arith; same = refl }

  module _ (i sum : ℕ) (h : Summed bs i sum) where
    pub the_sum_decides : length bs ≤ i → eqb sum 0 ≡ all_zero bs
    the_sum_decides l =
        let e : all_zero (drop i bs) ≡ true = rw (drop_of_length-le bs {i = i} l) nothing in
        sym (rw e (and_true (eqb sum 0))) ∙ h.same
      where
        and_true : (b : Bool) → (b && true) ≡ b
        and_true true = refl
        and_true false = refl

    pub one_more_byte_is_summed : i < length bs → (x : ℕ) → x ≡ get_or bs i 0 → x < 256 → Summed bs (i + 1) (sum + x)
    one_more_byte_is_summed l x e k =
        let p : drop i bs ≡ x ∷ drop (i + 1) bs = drop-cons bs i 0 l ∙ rw (add-one i, e) in
        record {
          small = omega (arith, h.small, k);
          same = both_zero sum x (all_zero (drop (i + 1) bs)) ∙ sym (rw (p, next_zero x (drop (i + 1) bs))) ∙ h.same;
        }

-- ---- a page

module _ (p : List ℕ) (n b x : ℕ) (ex : x ≡ word p 0) where
  pub other_numbers : (x ≡ n → ⊥) → false ≡ page_right n b p
  unfolding page_right
  other_numbers h = rw (← ex, ne_eqb x n h)

  module _ (y : ℕ) (ey : y ≡ word p 2) (h : x ≡ n) where
    pub other_bytes : (y ≡ b → ⊥) → false ≡ page_right n b p
    unfolding page_right
    other_bytes k = rw (← ex, eq-eqb x n h, ← ey, ne_eqb y b k)

    pub the_tail_decides : y ≡ b → (r : Bool) → r ≡ all_zero (take (length p - (4 + 4 * n + b)) (drop (4 + 4 * n + b) p)) → r ≡ page_right n b p
    unfolding page_right
    the_tail_decides k r e = rw (← ex, eq-eqb x n h, ← ey, eq-eqb y b k, e, take_all (length p - (4 + 4 * n + b)) (drop (4 + 4 * n + b) p) (simp length-drop (omega arith)))

-- ---- all pages

pub counts_fit : (n v a b : ℕ) → a ≡ min 1023 n → b ≡ min (4092 - 4 * min 1023 n) v → 4 * a + b ≤ 4092
counts_fit n v a b ea eb = omega arith

pub a_page_is_whole : (pages : List ℕ) (t i : ℕ) → 4096 * t ≤ length pages → i < t → length (take (4096 * i + 4096 - 4096 * i) (drop (4096 * i) pages)) ≡ 4096
a_page_is_whole pages t i h l = rw (add-sub_cancel_left (4096 * i) 4096) (simp (length-take, length-drop) (omega arith))

-- the pages from page i on decide
pub record Passed (pages : List ℕ) (t n₀ b₀ n b i : ℕ) : Type 0 where
  pub within : i ≤ t
  pub same : pages_right n b (pages_in (t - i) (drop (4096 * i) pages)) ≡ pages_right n₀ b₀ (pages_in t pages)

module _ (pages : List ℕ) (t n₀ b₀ : ℕ) where
  pub no_page_is_passed : (n : ℕ) → n ≡ n₀ → Passed pages t n₀ b₀ n b₀ 0
  no_page_is_passed n e = record { within = omega arith; same = rw (sub-zero t, e) }

  module _ (n b i : ℕ) (h : Passed pages t n₀ b₀ n b i) where
    pub all_pages_are_passed : t ≤ i → true ≡ pages_right n₀ b₀ (pages_in t pages)
    all_pages_are_passed l =
        let e : t - i ≡ 0 = omega arith in
        sym (rw (e, no_page_in (drop (4096 * i) pages)) (no_page_right n b)) ∙ h.same

    module _ (l : i < t) (x y : ℕ) (ex : x ≡ min 1023 n) (ey : y ≡ min (4092 - 4 * min 1023 n) b) (r : Bool)
        (er : r ≡ page_right x y (take (4096 * i + 4096 - 4096 * i) (drop (4096 * i) pages))) where
      here : pages_right n b (pages_in (t - i) (drop (4096 * i) pages)) ≡ (r && pages_right (n - x) (b - y) (pages_in (t - (i + 1)) (drop (4096 * (i + 1)) pages)))
      here =
          let k : t - i ≡ suc (t - (i + 1)) = omega arith in
          let a : 4096 * i + 4096 ≡ 4096 * (i + 1) = omega arith in
          rw (
            k,
            next_page_in (t - (i + 1)) (drop (4096 * i) pages),
            next_page_right n b (take 4096 (drop (4096 * i) pages)) (pages_in (t - (i + 1)) (drop 4096 (drop (4096 * i) pages))),
            drop-drop 4096 (4096 * i) pages,
            a,
            er,
            add-sub_cancel_left (4096 * i) 4096,
            ex,
            ey,
          )

      pub a_page_is_wrong : not r ≡ true → false ≡ pages_right n₀ b₀ (pages_in t pages)
      a_page_is_wrong q = sym (here ∙ rw (not-true r q)) ∙ h.same

      pub one_more_page_is_passed : not r ≡ false → Passed pages t n₀ b₀ (n - x) (b - y) (i + 1)
      one_more_page_is_passed q = record { within = omega arith; same = sym (here ∙ rw (not-false r q)) ∙ h.same }

-- ---- the number

module _ (size t : ℕ) (pages : List ℕ) (fits : Bool) where
  pub a_short_buffer : not (fits && leb (4096 * t) (length pages)) ≡ true → 22 ≡ decoded_verdict size t pages fits
  unfolding decoded_verdict
  a_short_buffer k = rw (not-true (fits && leb (4096 * t) (length pages)) k)

  module _ (k : not (fits && leb (4096 * t) (length pages)) ≡ false) where
    pub the_pages_are_there : 4096 * t ≤ length pages
    the_pages_are_there =
        borrow.Author.Tests.leb-true (4096 * t) (length pages) (Rattle.leaf_node.proofs.Rules.both fits (leb (4096 * t) (length pages)) (not-false (fits && leb (4096 * t) (length pages)) k)).1

    module _ (r : Bool) (e : r ≡ pages_right (t - 15) size (pages_in t pages)) where
      pub wrong_pages : not r ≡ true → 23 ≡ decoded_verdict size t pages fits
      unfolding decoded_verdict
      wrong_pages q = rw (not-false (fits && leb (4096 * t) (length pages)) k, ← e, not-true r q)

      pub no_refusal : not r ≡ false → 0 ≡ decoded_verdict size t pages fits
      unfolding decoded_verdict
      no_refusal q = rw (not-false (fits && leb (4096 * t) (length pages)) k, ← e, not-false r q)

-- of the cell itself
pub the_number_of_a_wrong_cell : (c : List ℕ) (r : Refusal) → WrongCell c r → (pages : List ℕ) (also : Bool) → number r ≡ read_verdict c pages also
unfolding read_verdict
the_number_of_a_wrong_cell c r w pages also = rw (w.refused, w.wrong)

pub the_number_of_a_reading : (c : List ℕ) (size t : ℕ) (pages : List ℕ) (fits also : Bool) → RightCell c size t → fits ≡ also → decoded_verdict size t pages fits ≡ read_verdict c pages also
unfolding decoded_verdict read_verdict all_right
the_number_of_a_reading c size t pages fits also r same = rw (r.right, same, r.sized, r.counted)
