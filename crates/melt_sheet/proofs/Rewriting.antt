-- The sheet of a tree whose weights of 32 bits are rewritten in 64 bits is the same. Assumes nothing.
use Rattle.std.specs.Prelude.{Option}
use mathlib.Core.Path.{◌≡◌, refl, sym, ap, ◌∙◌}
use mathlib.Core.Bool.{true, false}
use mathlib.Core.List.{List, ◌∷◌}
use Prim.Native.Nat.{ℕ}
use Rattle.leaf_node.specs.Record.{Record}
use Rattle.leaf_work.proofs.Tests.{first_zero}
use Rattle.row_check.specs.Verdict.{row_of, lent_row_verdict}
use Rattle.melt_weight.specs.declared.Weight.{Weight}
use Rattle.melt_weight.specs.Weight.{weight_of}
use Rattle.melt_weight.proofs.Rewriting.{rewriting_keeps_the_weight}
use Rattle.melt_scale.specs.Tree.{of_tree, weights_in}
use Rattle.melt_sheet.specs.Melt.{row_records, weights_of, tree_verdict, melt_verdict, melt_of}
use Rattle.melt_sheet.specs.Claims.{Rewritten, no_record, other_before, other_after, kept, piece, sprue}

-- ---- the weights

module _ (tree : List ℕ) where
  skipped : (r : Record) (rs : List Record) → of_tree tree r ≡ false → weights_in tree (r ∷ rs) ≡ weights_in tree rs
  skipped r rs e = rw (weights_in, e)

  taken : (r : Record) (rs : List Record) → of_tree tree r ≡ true → weights_in tree (r ∷ rs) ≡ weight_of r.value ∷ weights_in tree rs
  taken r rs e = rw (weights_in, e)

  alike : (r s : Record) (rs ss : List Record) → of_tree tree r ≡ true → of_tree tree s ≡ true → weight_of s.value ≡ weight_of r.value → weights_in tree ss ≡ weights_in tree rs
      → weights_in tree (s ∷ ss) ≡ weights_in tree (r ∷ rs)
  alike r s rs ss a b e ih =
      taken s ss b ∙ ap (λ (w : Option Weight). w ∷ weights_in tree ss) e ∙ ap (λ (ws : List (Option Weight)). weight_of r.value ∷ ws) ih ∙ sym (taken r rs a)

  pub rewritten_records_have_the_same_weights : {rs ss : List Record} → Rewritten tree rs ss → weights_in tree ss ≡ weights_in tree rs
  rewritten_records_have_the_same_weights no_record = refl
  rewritten_records_have_the_same_weights (other_before {r} {rs} {ss} e h) = rewritten_records_have_the_same_weights h ∙ sym (skipped r rs e)
  rewritten_records_have_the_same_weights (other_after {s} {rs} {ss} e h) = skipped s ss e ∙ rewritten_records_have_the_same_weights h
  rewritten_records_have_the_same_weights (kept {r} {s} {rs} {ss} a b e h) = alike r s rs ss a b (ap weight_of e) (rewritten_records_have_the_same_weights h)
  rewritten_records_have_the_same_weights (piece {r} {s} {rs} {ss} c f a b x y h) =
      alike r s rs ss a b (ap weight_of y ∙ (rewriting_keeps_the_weight c f).long_piece ∙ sym (ap weight_of x)) (rewritten_records_have_the_same_weights h)
  rewritten_records_have_the_same_weights (sprue {r} {s} {rs} {ss} c f a b x y h) =
      alike r s rs ss a b (ap weight_of y ∙ (rewriting_keeps_the_weight c f).long_sprue ∙ sym (ap weight_of x)) (rewritten_records_have_the_same_weights h)

-- ---- the sheet

module _ (size : ℕ) (pages pages' : List ℕ) (separators separators' : List (List ℕ)) (tree : List ℕ) (row : lent_row_verdict size pages separators ≡ 0)
    (row' : lent_row_verdict size pages' separators' ≡ 0) where
  -- rows that aren't refused for themselves, in which the tree's weights are the same: its number and all of its sheet are the same
  pub equal_weights_have_equal_sheets : weights_of size pages' separators' tree ≡ weights_of size pages separators tree → melt_of size pages' separators' tree ≡ melt_of size pages separators tree
  unfolding melt_of melt_verdict
  equal_weights_have_equal_sheets e = rw (first_zero _ (tree_verdict (weights_of size pages separators tree)) row, first_zero _ (tree_verdict (weights_of size pages' separators' tree)) row', e)

  -- "Records of kinds 1 and 2 are still read, and rewriting one as 4 or 5 gives the same weight": and so the same sheet, refused or not
  pub a_rewritten_tree_melts_alike : Rewritten tree (row_records (row_of size pages separators)) (row_records (row_of size pages' separators'))
      → melt_of size pages' separators' tree ≡ melt_of size pages separators tree
  a_rewritten_tree_melts_alike h = equal_weights_have_equal_sheets (rewritten_records_have_the_same_weights tree h)
