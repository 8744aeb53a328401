-- Cutting leaf by leaf, as document 01 tells it, is cutting in one pass, where no record alone passes the limit. Assumes nothing.
use mathlib.Core.Path.{◌≡◌, refl, sym, ap, ◌∙◌}
use mathlib.Core.Bool.{Bool, true, false}
use mathlib.Core.Option.{Option, none, some}
use Rattle.std.specs.Prelude as std
use mathlib.Core.List.{List, [], ◌∷◌, ◌++◌, append-nil, append_assoc}
use Prim.Native.Nat.{ℕ, zero, suc, ◌+◌, ◌≤◌, ◌<◌}
use native.Mathlib.Omega.{arith}
use native.Mathlib.Nat.{zero-add}
use borrow.Author.Tests.{ltb-true, ltb-false, leb-true, leb-false}
use lib.Dec.{ltb, leb}
use lib.ListN.{length, length-append}
use Rattle.leaf_node.specs.Limits.{body_limit, PageSize}
use Rattle.leaf_node.specs.Record.{Record, cost, body}
use Rattle.leaf_node.specs.Fits.{All}
use Rattle.leaf_model.specs.Cut.{Cut, nothing_cut, with_leaf, target_of, Taken, take_until, take_leaves, cut_as_written, cut, cut_all}
use Rattle.leaf_model.specs.Work.{Work, current, pending, finished, plan, leaves_by, work_after, given, digested}
use Rattle.leaf_model.proofs.Lists.{all_head, all_tail, all_map, all_right_lem, body_append}
use Rattle.leaf_model.proofs.Cutting.{cut_over_reaching, cut_over, cut_reaching, cut_further, Fitting, limits_agree}

module _ (limit target : ℕ) where
  abbrev pub Fits : Record → Type 0
  Fits r = cost r ≤ limit

  -- ---- induction along `take_until`: a case for each outcome, with the tests as orders

  module _ (P : List Record → List Record → Option Taken → Type 0) (stop : (leaf : List Record) → P leaf [] none)
      (over : (leaf : List Record) (r : Record) (rs : List Record) → limit < body leaf + cost r → P leaf (r ∷ rs) (some (record { leaf = leaf; remaining = r ∷ rs })))
      (reaching : (leaf : List Record) (r : Record) (rs : List Record) → body leaf + cost r ≤ limit → target ≤ body leaf + cost r
      → P leaf (r ∷ rs) (some (record { leaf = leaf ++ (r ∷ []); remaining = rs })))
      (further : (leaf : List Record) (r : Record) (rs : List Record) (o : Option Taken) → body leaf + cost r ≤ limit → body leaf + cost r < target
      → P (leaf ++ (r ∷ [])) rs o → P leaf (r ∷ rs) o) where
    take_induction : (leaf rs : List Record) → P leaf rs (take_until limit target leaf rs)
    unfolding take_until
    take_induction leaf [] = stop leaf
    take_induction leaf (r ∷ rs) = test (take_induction (leaf ++ (r ∷ [])) rs) (ltb limit (body leaf + cost r)) (leb target (body leaf + cost r)) refl refl
      where
        test : P (leaf ++ (r ∷ [])) rs (take_until limit target (leaf ++ (r ∷ [])) rs)
            → (b d : Bool) → ltb limit (body leaf + cost r) ≡ b → leb target (body leaf + cost r) ≡ d
            → P leaf (r ∷ rs) (take_until limit target leaf (r ∷ rs))
        test h true d e f = rw (e, take_until) (over leaf r rs (ltb-true _ _ e))
        test h false true e f = rw (e, f, take_until) (reaching leaf r rs (ltb-false _ _ e) (leb-true _ _ f))
        test h false false e f = rw (e, f, take_until) (further leaf r rs _ (ltb-false _ _ e) (leb-false _ _ f) h)

  -- a leaf has a record, and with what remains it makes up the records
  record LeafTaken (leaf rs : List Record) (t : Taken) : Type 0 where
    whole : t.leaf ++ t.remaining ≡ leaf ++ rs
    some_body : 0 < body t.leaf

  abbrev IfTaken : List Record → List Record → Option Taken → Type 0
  IfTaken leaf rs none = Unit
  IfTaken leaf rs (some t) = LeafTaken leaf rs t

  taken_off : (leaf rs : List Record) → All Fits rs → IfTaken leaf rs (take_until limit target leaf rs)
  taken_off =
      take_induction (λ leaf rs o. All Fits rs → IfTaken leaf rs o)
      (λ leaf a. tt)
      (λ leaf r rs h a. let p : cost r ≤ limit = all_head a in record { whole = refl; some_body = omega arith })
      (λ leaf r rs h k a. let b = body_append leaf (r ∷ []) in record { whole = append_assoc leaf (r ∷ []) rs; some_body = omega arith })
      (λ leaf r rs o h k t a. longer leaf r rs o (t (all_tail a)))
    where
      longer : (leaf : List Record) (r : Record) (rs : List Record) (o : Option Taken) → IfTaken (leaf ++ (r ∷ [])) rs o → IfTaken leaf (r ∷ rs) o
      longer leaf r rs none t = tt
      longer leaf r rs (some u) t = record { whole = t.whole ∙ append_assoc leaf (r ∷ []) rs; some_body = t.some_body }

  -- ---- the first leaf of the pass

  -- a record that ends a leaf is the first of the next
  over_starts_the_next : (leaf : List Record) (size : ℕ) (r : Record) (rs : List Record) → Fits r → limit < size + cost r
      → cut limit target leaf size (r ∷ rs) ≡ with_leaf leaf (cut limit target [] 0 (r ∷ rs))
  over_starts_the_next leaf size r rs p h = test (leb target (cost r)) refl
    where
      test : (d : Bool) → leb target (cost r) ≡ d → cut limit target leaf size (r ∷ rs) ≡ with_leaf leaf (cut limit target [] 0 (r ∷ rs))
      test true f =
          let k = leb-true target (cost r) f in
          rw (cut_reaching limit target [] 0 r rs (omega arith) (omega arith)) (cut_over_reaching limit target leaf size r rs h k)
      test false f =
          let k = leb-false target (cost r) f in
          rw (cut_further limit target [] 0 r rs (omega arith) (omega arith), zero-add (cost r)) (cut_over limit target leaf size r rs h k)

  -- what `cut` makes of a leaf that was taken off, or of none
  abbrev pub continued : List Record → List Record → Option Taken → Cut
  continued leaf rs none = nothing_cut (leaf ++ rs)
  continued leaf rs (some t) = with_leaf t.leaf (cut limit target [] 0 t.remaining)

  pub first_leaf : (leaf rs : List Record) → All Fits rs → cut limit target leaf (body leaf) rs ≡ continued leaf rs (take_until limit target leaf rs)
  first_leaf =
      take_induction (λ leaf rs o. All Fits rs → cut limit target leaf (body leaf) rs ≡ continued leaf rs o)
      (λ leaf a. unfold cut in ap nothing_cut (sym (append-nil leaf)))
      (λ leaf r rs h a. over_starts_the_next leaf (body leaf) r rs (all_head a) h)
      (λ leaf r rs h k a. cut_reaching limit target leaf (body leaf) r rs h k)
      (λ leaf r rs o h k ih a.
      let e : body (leaf ++ (r ∷ [])) ≡ body leaf + cost r = omega (arith, body_append leaf (r ∷ [])) in
      cut_further limit target leaf (body leaf) r rs h k ∙ ap (λ (n : ℕ). cut limit target (leaf ++ (r ∷ [])) n rs) (sym e) ∙ ih (all_tail a) ∙ regrouped leaf r rs o)
    where
      regrouped : (leaf : List Record) (r : Record) (rs : List Record) (o : Option Taken) → continued (leaf ++ (r ∷ [])) rs o ≡ continued leaf (r ∷ rs) o
      regrouped leaf r rs none = ap nothing_cut (append_assoc leaf (r ∷ []) rs)
      regrouped leaf r rs (some t) = refl

  -- ---- leaf after leaf

  shorter : (l m : List Record) (n : ℕ) → 0 < body l → length (l ++ m) ≤ suc n → length m ≤ n
  shorter [] m n h k = absurd (omega arith)
  shorter (r ∷ rs) m n h k = omega (arith, length-append rs m)

  leaf_after_leaf : (n : ℕ) (rs : List Record) → All Fits rs → length rs ≤ n → cut limit target [] 0 rs ≡ take_leaves n limit target rs
  unfolding take_leaves
  leaf_after_leaf zero [] a h = unfold cut in refl
  leaf_after_leaf zero (r ∷ rs) a h = absurd (omega arith)
  leaf_after_leaf (suc n) rs a h = test (leaf_after_leaf n) (take_until limit target [] rs) refl (taken_off [] rs a)
    where
      test : ((rs : List Record) → All Fits rs → length rs ≤ n → cut limit target [] 0 rs ≡ take_leaves n limit target rs)
          → (o : Option Taken) → take_until limit target [] rs ≡ o → IfTaken [] rs o → cut limit target [] 0 rs ≡ take_leaves (suc n) limit target rs
      test ih none e t = rw (e, take_leaves) (first_leaf [] rs a ∙ ap (continued [] rs) e)
      test ih (some u) e t =
          let a' : All Fits (u.leaf ++ u.remaining) = rw t.whole a in
          let h' : length (u.leaf ++ u.remaining) ≤ suc n = rw t.whole h in
          let next = ih u.remaining (all_right_lem u.leaf u.remaining a') (shorter u.leaf u.remaining n t.some_body h') in
          rw (e, take_leaves) (first_leaf [] rs a ∙ ap (continued [] rs) e ∙ ap (with_leaf u.leaf) next)

module _ (size : ℕ) (p : PageSize size) where
  pub cutting_as_the_paper_says : (rs : List Record) → All (Fitting size) rs → cut_all size rs ≡ cut_as_written size rs
  unfolding cut_all cut_as_written
  cutting_as_the_paper_says rs a = test (target_of size (body rs)) refl
    where
      test : (o : std.Option ℕ) → target_of size (body rs) ≡ o → cut_all size rs ≡ cut_as_written size rs
      test std.None e = rw (e, cut_all, cut_as_written)
      test (std.Some target) e = rw (e, cut_all, cut_as_written)
          (leaf_after_leaf (body_limit size) target (length rs) rs (all_map (λ r h. omega (arith, (limits_agree size p).room)) a) (omega arith))

  -- so a digest, all five steps, is given by the paper's cutting
  pub digest_as_the_paper_says : (w : Work) → All (Fitting size) (pending w)
      → (given size w ≡ leaves_by (current w) w.cutoff (finished size w.cutoff (cut_as_written size (pending w))))
      × (digested size w ≡ work_after w (finished size w.cutoff (cut_as_written size (pending w))))
  unfolding plan
  digest_as_the_paper_says w a =
      let e = cutting_as_the_paper_says (pending w) a in
      (ap (λ c. leaves_by (current w) w.cutoff (finished size w.cutoff c)) e, ap (λ c. work_after w (finished size w.cutoff c)) e)
