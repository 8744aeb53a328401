-- The leaves of a digest before they get their separators (steps 1 to 4): no record is lost, each leaf has a right size, and they are
-- no more than the pages asked for. Assumes nothing.
use mathlib.Core.Path.{◌≡◌, refl, ap, ◌∙◌}
use mathlib.Core.Bool.{Bool, true, false}
use mathlib.Core.Option.{Option, none, some}
use mathlib.Core.List.{List, [], ◌∷◌, ◌++◌, append-nil}
use Prim.Native.Nat.{ℕ, ◌+◌, ◌-◌, ◌*◌, ◌≤◌, ◌<◌}
use native.Mathlib.Omega.{arith}
use native.Mathlib.Nat.{le-div_iff_mul-le}
use borrow.Author.Tests.{leb-true, leb-false}
use lib.ListN.{length}
use Rattle.leaf_node.specs.Limits.{body_limit, merge_below, pages_asked, PageSize}
use Rattle.leaf_node.specs.Record.{Record, body}
use Rattle.leaf_node.specs.Fits.{All, nil, cons}
use Rattle.leaf_model.specs.Basics.{joined, nonempty}
use Rattle.leaf_model.specs.Cut.{Cut, cut_all}
use Rattle.leaf_model.specs.Work.{closes, finish, plan}
use Rattle.leaf_model.proofs.Tests.{clash}
use Rattle.leaf_model.proofs.Lists.{joined_append, body_append}
use Rattle.leaf_model.proofs.Cutting.{whole, cut_leaves_and_rest_are_the_records, Fitting, LeafSized, cut_leaves_fit, limits_agree}

-- Leaves under a cutoff, before records that are kept: each has a right size, but the last may be small where there is no cutoff, and then nothing is kept.
pub data Sized (size : ℕ) : Option (List ℕ) → List Record → List (List Record) → Type 0 where
  sized[] : {c : Option (List ℕ)} {left : List Record} → Sized size c left []
  sized∷ : {c : Option (List ℕ)} {left l : List Record} {ls : List (List Record)} → LeafSized size l → Sized size c left ls → Sized size c left (l ∷ ls)
  sized_last : {l : List Record} → nonempty l ≡ true → body l ≤ body_limit size → Sized size none [] (l ∷ [])

pub sized_head : {size : ℕ} {c : Option (List ℕ)} {left l : List Record} {ls : List (List Record)} → Sized size c left (l ∷ ls) → nonempty l ≡ true
sized_head (sized∷ z h) = z.some_record
sized_head (sized_last e z) = e

sized_append : {size : ℕ} {cutoff : Option (List ℕ)} {left : List Record} {xs ys : List (List Record)}
    → All (LeafSized size) xs → Sized size cutoff left ys → Sized size cutoff left (xs ++ ys)
sized_append nil k = k
sized_append (cons h hs) k = sized∷ h (sized_append hs k)

all_sized : (size : ℕ) {cutoff : Option (List ℕ)} {left : List Record} {xs : List (List Record)} → All (LeafSized size) xs → Sized size cutoff left xs
all_sized size nil = sized[]
all_sized size (cons h hs) = sized∷ h (all_sized size hs)

-- ---- step 4

finish_loses_nothing : (b : Bool) (ls : List (List Record)) (left : List Record) → whole (finish b ls left) ≡ joined ls ++ left
finish_loses_nothing b ls [] = refl
finish_loses_nothing true ls (r ∷ rs) = simp (joined_append, append-nil)
finish_loses_nothing false ls (r ∷ rs) = refl

module _ (size : ℕ) where
  finish_sized : (cutoff : Option (List ℕ)) (b : Bool) (ls : List (List Record)) (left : List Record) → closes size cutoff (body left) ≡ b
      → All (LeafSized size) ls → body left ≤ body_limit size → Sized size cutoff (finish b ls left).left (finish b ls left).leaves
  finish_sized cutoff b ls [] e a h = all_sized size a
  finish_sized none true ls (r ∷ rs) e a h = sized_append a (sized_last refl h)
  finish_sized (some c) true ls (r ∷ rs) e a h = sized_append a (sized∷ (record { some_record = refl; enough = leb-true _ _ e; fits = h }) sized[])
  finish_sized cutoff false ls (r ∷ rs) e a h = all_sized size a

  finish_keeps : (cutoff : Option (List ℕ)) (b : Bool) (ls : List (List Record)) (left : List Record) → closes size cutoff (body left) ≡ b
      → nonempty (finish b ls left).left ≡ true → (c : List ℕ) × (cutoff ≡ some c) × (body (finish b ls left).left < merge_below size)
  finish_keeps cutoff b ls [] e h = clash h refl
  finish_keeps cutoff true ls (r ∷ rs) e h = clash h refl
  finish_keeps none false ls (r ∷ rs) e h = clash refl e
  finish_keeps (some c) false ls (r ∷ rs) e h = (c, refl, leb-false _ _ e)

  -- ---- steps 1 to 4

  pub leaves_and_kept_are_the_records : (cutoff : Option (List ℕ)) (rs : List Record) → joined (plan size cutoff rs).leaves ++ (plan size cutoff rs).left ≡ rs
  unfolding plan
  leaves_and_kept_are_the_records cutoff rs =
      finish_loses_nothing _ (cut_all size rs).leaves (cut_all size rs).left ∙ cut_leaves_and_rest_are_the_records size rs

  -- records are kept only where there is a cutoff and they are too few for a leaf
  pub kept_records_wait_for_a_merge : (cutoff : Option (List ℕ)) (rs : List Record) → nonempty (plan size cutoff rs).left ≡ true
      → (c : List ℕ) × (cutoff ≡ some c) × (body (plan size cutoff rs).left < merge_below size)
  unfolding plan
  kept_records_wait_for_a_merge cutoff rs h = finish_keeps cutoff _ (cut_all size rs).leaves (cut_all size rs).left refl h

  sized_count : {c : Option (List ℕ)} {left : List Record} {ls : List (List Record)} → 0 < merge_below size → Sized size c left ls
      → length ls * merge_below size ≤ body (joined ls) + (merge_below size - 1)
  sized_count p sized[] = omega arith
  sized_count p (sized∷ {l = l} {ls = ls} z h) = omega (arith, sized_count p h, body_append l (joined ls), z.enough)
  sized_count p (sized_last {l = []} e z) = clash e refl
  sized_count p (sized_last {l = r ∷ rs} e z) = omega arith

  module _ (p : PageSize size) where
    pub leaves_have_right_sizes : (cutoff : Option (List ℕ)) (rs : List Record) → All (Fitting size) rs
        → Sized size cutoff (plan size cutoff rs).left (plan size cutoff rs).leaves
    unfolding plan
    leaves_have_right_sizes cutoff rs a =
        let g = cut_leaves_fit size p rs a in
        finish_sized cutoff _ (cut_all size rs).leaves (cut_all size rs).left refl g.leaves g.left

    pub leaves_never_more_than_pages_asked : (cutoff : Option (List ℕ)) (rs : List Record) → All (Fitting size) rs
        → length (plan size cutoff rs).leaves ≤ pages_asked size (body rs)
    leaves_never_more_than_pages_asked cutoff rs a =
        let m = (limits_agree size p).some_body in
        let c : Cut = plan size cutoff rs in
        let n = sized_count m (leaves_have_right_sizes cutoff rs a) in
        let e : body (joined c.leaves ++ c.left) ≡ body rs = ap body (leaves_and_kept_are_the_records cutoff rs) in
        (le-div_iff_mul-le m).1 (omega (arith, body_append (joined c.leaves) c.left))
