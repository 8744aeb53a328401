-- Cutting (steps 1 to 3): no record is lost, and no leaf is too large or too small. Assumes nothing.
use mathlib.Core.Path.{◌≡◌, refl, sym, ◌∙◌}
use Rattle.std.specs.Prelude.{Option, None, Some}
use Rattle.std.proofs.lemmas.Option.{none-some, same_Some}
use mathlib.Core.Bool.{Bool, true, false}
use mathlib.Core.List.{List, [], ◌∷◌, ◌++◌, append-nil, append_assoc}
use Prim.Native.Nat.{ℕ, ◌+◌, ◌/◌, ◌≤◌, ◌<◌}
use native.Mathlib.Omega.{arith}
use borrow.Author.Tests.{ltb-true, ltb-false, leb-true, leb-false, lt-ltb, le-ltb, le-leb, lt-leb}
use lib.Dec.{ltb, leb}
use lib.ListN.{length}
use Rattle.leaf_node.specs.Limits.{body_limit, merge_below, bulk_above, bulk_target, value_limit, PageSize}
use Rattle.leaf_node.specs.Record.{Record, cost, body}
use Rattle.leaf_node.specs.Fits.{All, nil, cons}
use Rattle.leaf_model.specs.Basics.{joined, nonempty}
use Rattle.leaf_model.specs.Cut.{Cut, nothing_cut, with_leaf, target_of, cut, cut_all}
use Rattle.leaf_model.proofs.Lists.{all_head, all_tail, all_map, body_append}

-- ---- the clauses of `cut`, with the tests as orders

module _ (limit target : ℕ) (leaf : List Record) (size : ℕ) (r : Record) (rs : List Record) where
  pub cut_over_reaching : limit < size + cost r → target ≤ cost r → cut limit target leaf size (r ∷ rs) ≡ with_leaf leaf (with_leaf (r ∷ []) (cut limit target [] 0 rs))
  unfolding cut
  cut_over_reaching h k = rw (lt-ltb limit (size + cost r) h, le-leb target (cost r) k, cut)

  pub cut_over : limit < size + cost r → cost r < target → cut limit target leaf size (r ∷ rs) ≡ with_leaf leaf (cut limit target (r ∷ []) (cost r) rs)
  unfolding cut
  cut_over h k = rw (lt-ltb limit (size + cost r) h, lt-leb target (cost r) k, cut)

  pub cut_reaching : size + cost r ≤ limit → target ≤ size + cost r → cut limit target leaf size (r ∷ rs) ≡ with_leaf (leaf ++ (r ∷ [])) (cut limit target [] 0 rs)
  unfolding cut
  cut_reaching h k = rw (le-ltb limit (size + cost r) h, le-leb target (size + cost r) k, cut)

  pub cut_further : size + cost r ≤ limit → size + cost r < target → cut limit target leaf size (r ∷ rs) ≡ cut limit target (leaf ++ (r ∷ [])) (size + cost r) rs
  unfolding cut
  cut_further h k = rw (le-ltb limit (size + cost r) h, lt-leb target (size + cost r) k, cut)

-- ---- induction along the definitions: a case for each outcome

module _ (limit target : ℕ) (P : List Record → ℕ → List Record → Cut → Type 0)
    (stop : (leaf : List Record) (size : ℕ) → P leaf size [] (nothing_cut leaf))
    (over-reaching : (leaf : List Record) (size : ℕ) (r : Record) (rs : List Record) (c : Cut) → limit < size + cost r → target ≤ cost r
    → P [] 0 rs c → P leaf size (r ∷ rs) (with_leaf leaf (with_leaf (r ∷ []) c)))
    (over : (leaf : List Record) (size : ℕ) (r : Record) (rs : List Record) (c : Cut) → limit < size + cost r → cost r < target
    → P (r ∷ []) (cost r) rs c → P leaf size (r ∷ rs) (with_leaf leaf c))
    (reaching : (leaf : List Record) (size : ℕ) (r : Record) (rs : List Record) (c : Cut) → size + cost r ≤ limit → target ≤ size + cost r
    → P [] 0 rs c → P leaf size (r ∷ rs) (with_leaf (leaf ++ (r ∷ [])) c))
    (further : (leaf : List Record) (size : ℕ) (r : Record) (rs : List Record) (c : Cut) → size + cost r ≤ limit → size + cost r < target
    → P (leaf ++ (r ∷ [])) (size + cost r) rs c → P leaf size (r ∷ rs) c) where
  pub cut_induction : (leaf : List Record) (size : ℕ) (rs : List Record) → P leaf size rs (cut limit target leaf size rs)
  cut_induction leaf size [] = unfold cut in stop leaf size
  cut_induction leaf size (r ∷ rs) =
      test (cut_induction [] 0 rs) (cut_induction (r ∷ []) (cost r) rs) (cut_induction (leaf ++ (r ∷ [])) (size + cost r) rs)
      (ltb limit (size + cost r)) (leb target (cost r)) (leb target (size + cost r)) refl refl refl
    where
      test : P [] 0 rs (cut limit target [] 0 rs) → P (r ∷ []) (cost r) rs (cut limit target (r ∷ []) (cost r) rs)
          → P (leaf ++ (r ∷ [])) (size + cost r) rs (cut limit target (leaf ++ (r ∷ [])) (size + cost r) rs)
          → (b d f : Bool) → ltb limit (size + cost r) ≡ b → leb target (cost r) ≡ d → leb target (size + cost r) ≡ f
          → P leaf size (r ∷ rs) (cut limit target leaf size (r ∷ rs))
      test h₁ h₂ h₃ true true f e₁ e₂ e₃ =
          let o = ltb-true limit (size + cost r) e₁ in
          let d = leb-true target (cost r) e₂ in
          rw (cut_over_reaching limit target leaf size r rs o d) (over-reaching leaf size r rs _ o d h₁)
      test h₁ h₂ h₃ true false f e₁ e₂ e₃ =
          let o = ltb-true limit (size + cost r) e₁ in
          let d = leb-false target (cost r) e₂ in
          rw (cut_over limit target leaf size r rs o d) (over leaf size r rs _ o d h₂)
      test h₁ h₂ h₃ false d true e₁ e₂ e₃ =
          let o = ltb-false limit (size + cost r) e₁ in
          let d = leb-true target (size + cost r) e₃ in
          rw (cut_reaching limit target leaf size r rs o d) (reaching leaf size r rs _ o d h₁)
      test h₁ h₂ h₃ false d false e₁ e₂ e₃ =
          let o = ltb-false limit (size + cost r) e₁ in
          let d = leb-false target (size + cost r) e₃ in
          rw (cut_further limit target leaf size r rs o d) (further leaf size r rs _ o d h₃)

module _ (size b : ℕ) (P : Option ℕ → Type 0) (bulk : bulk_above size < b → P (Some (bulk_target size)))
    (halved : b ≤ bulk_above size → body_limit size < b → P (Some (b / 2))) (uncut : b ≤ body_limit size → P None) where
  pub target_cases : P (target_of size b)
  unfolding target_of
  target_cases = test (ltb (bulk_above size) b) (ltb (body_limit size) b) refl refl
    where
      test : (t u : Bool) → ltb (bulk_above size) b ≡ t → ltb (body_limit size) b ≡ u → P (target_of size b)
      test true u e f = rw (e, target_of) (bulk (ltb-true _ _ e))
      test false true e f = rw (e, f, target_of) (halved (ltb-false _ _ e) (ltb-true _ _ f))
      test false false e f = rw (e, f, target_of) (uncut (ltb-false _ _ f))

module _ (size : ℕ) (rs : List Record) (P : Cut → Type 0) (uncut : target_of size (body rs) ≡ None → P (nothing_cut rs))
    (leaves : (target : ℕ) → target_of size (body rs) ≡ Some target → P (cut (body_limit size) target [] 0 rs)) where
  pub cut_all_cases : P (cut_all size rs)
  unfolding cut_all
  cut_all_cases = test (target_of size (body rs)) refl
    where
      test : (o : Option ℕ) → target_of size (body rs) ≡ o → P (cut_all size rs)
      test None e = rw (e, cut_all) (uncut e)
      test (Some target) e = rw (e, cut_all) (leaves target e)

-- ---- no record is lost

-- the records of a cut, in order
abbrev pub whole : Cut → List Record
whole c = joined c.leaves ++ c.left

pub cut_loses_nothing : (limit target : ℕ) (leaf : List Record) (size : ℕ) (rs : List Record) → whole (cut limit target leaf size rs) ≡ leaf ++ rs
cut_loses_nothing limit target =
    cut_induction limit target (λ leaf size rs c. whole c ≡ leaf ++ rs)
    (λ leaf size. sym (append-nil leaf))
    (λ leaf size r rs c o d h. simp (append_assoc, h))
    (λ leaf size r rs c o d h. simp (append_assoc, h))
    (λ leaf size r rs c o d h. simp (append_assoc, h))
    (λ leaf size r rs c o d h. simp (append_assoc, h))

pub cut_leaves_and_rest_are_the_records : (size : ℕ) (rs : List Record) → joined (cut_all size rs).leaves ++ (cut_all size rs).left ≡ rs
cut_leaves_and_rest_are_the_records size rs =
    cut_all_cases size rs (λ c. whole c ≡ rs) (λ e. refl) (λ target e. cut_loses_nothing _ _ [] 0 rs)

-- ---- how large the leaves are

-- a body within two bounds
record Between (least most : ℕ) (rs : List Record) : Type 0 where
  enough : least ≤ body rs
  fits : body rs ≤ most

record CutWithin (least most target : ℕ) (c : Cut) : Type 0 where
  leaves : All (Between least most) c.leaves
  left : body c.left < target

-- Where each record costs at most `dear`, a leaf that can take no more has at least `limit - dear`.
module _ (limit target least dear : ℕ) (room : dear + least ≤ limit) (aim : least ≤ target) (positive : 0 < target) where
  cut_within : (leaf : List Record) (size : ℕ) (rs : List Record) → size ≡ body leaf → size < target → size ≤ limit → All (λ r. cost r ≤ dear) rs
      → CutWithin least limit target (cut limit target leaf size rs)
  cut_within =
      cut_induction limit target
      (λ leaf size rs c. size ≡ body leaf → size < target → size ≤ limit → All (λ r. cost r ≤ dear) rs → CutWithin least limit target c)
      (λ leaf size e t l a. record { leaves = nil; left = omega arith })
      (λ leaf size r rs c o d h e t l a.
      let p : cost r ≤ dear = all_head a in
      let g = h refl positive (omega arith) (all_tail a) in
      record { leaves = cons (record { enough = omega arith; fits = omega arith }) (cons (record { enough = omega arith; fits = omega arith }) g.leaves); left = g.left })
      (λ leaf size r rs c o d h e t l a.
      let p : cost r ≤ dear = all_head a in
      let g = h (omega arith) d (omega arith) (all_tail a) in
      record { leaves = cons (record { enough = omega arith; fits = omega arith }) g.leaves; left = g.left })
      (λ leaf size r rs c o d h e t l a.
      let g = h refl positive (omega arith) (all_tail a) in
      let b = body_append leaf (r ∷ []) in
      record { leaves = cons (record { enough = omega arith; fits = omega arith }) g.leaves; left = g.left })
      (λ leaf size r rs c o d h e t l a.
      let b = body_append leaf (r ∷ []) in
      h (omega arith) d o (all_tail a))

-- the limits of a page size, as far as cutting needs them
pub record LimitsAgree (size : ℕ) : Type 0 where
  pub room : 34 + value_limit size + merge_below size ≤ body_limit size
  pub bulk_enough : merge_below size ≤ bulk_target size
  pub bulk_fits : bulk_target size ≤ body_limit size
  pub half_enough : (b : ℕ) → body_limit size < b → merge_below size ≤ b / 2
  pub half_fits : (b : ℕ) → b ≤ bulk_above size → b / 2 ≤ body_limit size
  pub some_body : 0 < merge_below size

pub limits_agree : (size : ℕ) → PageSize size → LimitsAgree size
unfolding body_limit merge_below bulk_above bulk_target value_limit
limits_agree size h =
    record {
      room = omega arith;
      bulk_enough = omega arith;
      bulk_fits = omega arith;
      half_enough = λ b l. omega arith;
      half_fits = λ b l. omega arith;
      some_body = omega arith;
    }

-- a value that isn't too long
abbrev pub Fitting : ℕ → Record → Type 0
Fitting size r = length r.value ≤ value_limit size

-- a leaf of the right size, which needs no merge
pub record LeafSized (size : ℕ) (l : List Record) : Type 0 where
  pub some_record : nonempty l ≡ true
  pub enough : merge_below size ≤ body l
  pub fits : body l ≤ body_limit size

pub record CutFits (size : ℕ) (c : Cut) : Type 0 where
  pub leaves : All (LeafSized size) c.leaves
  pub left : body c.left ≤ body_limit size

has_record : (l : List Record) → 0 < body l → nonempty l ≡ true
has_record [] h = absurd (omega arith)
has_record (r ∷ rs) h = refl

module _ (size : ℕ) (p : PageSize size) where
  leaf_sized : (l : List Record) → Between (merge_below size) (body_limit size) l → LeafSized size l
  leaf_sized l b = record { some_record = has_record l (omega (arith, b.enough, (limits_agree size p).some_body)); enough = b.enough; fits = b.fits }

  -- a target lies between the merge threshold and the body limit
  pub target_enough : (b t : ℕ) → target_of size b ≡ Some t → merge_below size ≤ t
  target_enough b =
      let s = limits_agree size p in
      target_cases size b (λ o. (t : ℕ) → o ≡ Some t → merge_below size ≤ t)
      (λ h t e. rw (← same_Some _ _ e) s.bulk_enough)
      (λ h k t e. rw (← same_Some _ _ e) (s.half_enough b k))
      (λ h t e. absurd (none-some _ e))

  pub target_fits : (b t : ℕ) → target_of size b ≡ Some t → t ≤ body_limit size
  target_fits b =
      let s = limits_agree size p in
      target_cases size b (λ o. (t : ℕ) → o ≡ Some t → t ≤ body_limit size)
      (λ h t e. rw (← same_Some _ _ e) s.bulk_fits)
      (λ h k t e. rw (← same_Some _ _ e) (s.half_fits b h))
      (λ h t e. absurd (none-some _ e))

  uncut_fits : (b : ℕ) → target_of size b ≡ None → b ≤ body_limit size
  uncut_fits b =
      target_cases size b (λ o. o ≡ None → b ≤ body_limit size) (λ h e. absurd (none-some _ (sym e))) (λ h k e. absurd (none-some _ (sym e))) (λ h e. h)

  cut_to : (rs : List Record) (target : ℕ) → target_of size (body rs) ≡ Some target → All (Fitting size) rs
      → CutWithin (merge_below size) (body_limit size) target (cut (body_limit size) target [] 0 rs)
  cut_to rs target e a =
      let s = limits_agree size p in
      let h = target_enough (body rs) target e in
      let w : All (λ r. cost r ≤ 34 + value_limit size) rs = all_map (λ r h. omega arith) a in
      cut_within (body_limit size) target (merge_below size) (34 + value_limit size) s.room h (omega (arith, s.some_body)) [] 0 rs refl
      (omega (arith, s.some_body)) (omega arith) w

  pub cut_leaves_fit : (rs : List Record) → All (Fitting size) rs → CutFits size (cut_all size rs)
  cut_leaves_fit rs a =
      cut_all_cases size rs (CutFits size)
      (λ e. record { leaves = nil; left = uncut_fits (body rs) e })
      (λ target e. let g = cut_to rs target e a in
      record { leaves = all_map leaf_sized g.leaves; left = omega (arith, g.left, target_fits (body rs) target e) })

  -- where leaves are cut, what is left doesn't reach their target
  pub rest_is_below_the_target : (rs : List Record) (target : ℕ) → target_of size (body rs) ≡ Some target → All (Fitting size) rs
      → body (cut_all size rs).left < target
  rest_is_below_the_target rs target e a =
      cut_all_cases size rs (λ c. body c.left < target)
      (λ f. absurd (none-some _ (sym f ∙ e)))
      (λ t f. let g = cut_to rs t f a in omega (arith, g.left, same_Some t target (sym f ∙ e)))
