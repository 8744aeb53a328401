-- Document 02, M-101: the new row. "For every key, lookup in the new row gives the change if there is one, else the old value and flag, or absence." It is a
-- row again, and its leaves have right bodies. Assumes nothing.
use mathlib.Core.Path.{◌≡◌, refl, sym, ap, ◌∙◌}
use mathlib.Core.Bool.{true}
use mathlib.Core.Option.{Option, none, some, some-injective}
use mathlib.Core.List.{List, [], ◌∷◌, ◌++◌, append-nil, append_assoc}
use Prim.Native.Nat.{ℕ, ◌≤◌}
use native.Mathlib.Omega.{arith}
use native.Mathlib.Nat.{le_trans, le_of_lt, lt_of_lt_of_le, lt_of_le_of_lt}
use lib.ListN.{length}
use borrow.Author.Tests.{eq-eqb}
use Rattle.bit_ops.specs.Key.{num}
use Rattle.leaf_node.specs.Limits.{PageSize, value_limit}
use Rattle.leaf_node.specs.Record.{Record}
use Rattle.leaf_node.specs.Page.{records}
use Rattle.leaf_node.specs.Good.{Good}
use Rattle.leaf_node.specs.Build.{build}
use Rattle.leaf_node.specs.Fits.{All, nil, cons, Fits, rise[]}
use Rattle.leaf_node.proofs.RoundTrips.{a_built_page_has_its_records, a_built_page_is_good}
use Rattle.leaf_model.specs.Work.{Change, zero_key, below_cutoff}
use Rattle.leaf_model.specs.Claim.{Lt, Le}
use Rattle.leaf_model.proofs.Tests.{clash, none_is_not_some}
use Rattle.leaf_model.proofs.Lists.{all_append, all_map}
use Rattle.leaf_model.proofs.Keys.{lt_of_test, test_of_lt}
use Rattle.row_turns.specs.Row.{RowLeaf, cutoff_by, LeafRight, IsRow, row[], row∷, FromZero, no_leaf, first_leaf, is_from_zero, Among, here, there, Bodies, every_page, pages_of}
use Rattle.row_turns.specs.Changes.{Edit, changed_all, taken, behind, RisingEdits, EditsRight}
use Rattle.row_turns.specs.Turns.{Turned, turn, turns, nothing_yet, row_turned}
use Rattle.row_turns.specs.Lookup.{lookup, expected}
use Rattle.row_turns.proofs.Lookups.{lookup_in, records_of_row, Around, around[], around_last, around∷, a_row_is_looked_up_by_its_records, changed_records_are_found}
use Rattle.row_turns.proofs.Changing.{all_changed_before, both, all_taken, all_behind, taken_below, behind_rising, behind_above, nothing_behind, changed_in_turn}
use Rattle.row_turns.proofs.Rows.{right[], separators_lie_around, right_rows_are_rows}
use Rattle.row_turns.proofs.Turning.{EditFacts, Turning, loaded_is, accepted_before, loaded_leaf, a_turn_holds}

-- ---- an old row

old_above : {size : ℕ} {y : RowLeaf} {ys : List RowLeaf} → IsRow size (y ∷ ys) → All (λ r. Le y.separator r.key) (records_of_row (y ∷ ys))
old_above (row∷ {xs = []} l h) = all_append l.above nil
old_above (row∷ {x} {xs = z ∷ zs} l h) = all_append l.above (all_map (λ r p. le_trans (le_of_lt (lt_of_test x.separator z.separator l.cut)) p) (old_above h))

old_around : {size : ℕ} {xs : List RowLeaf} → IsRow size xs → Around xs
old_around row[] = around[]
old_around (row∷ {xs = []} l h) = around_last
old_around (row∷ {xs = y ∷ ys} l h) = around∷ (all_map (λ r p. lt_of_test r.key y.separator p) l.below) (old_above h) (old_around h)

old_good : {size : ℕ} {xs : List RowLeaf} → IsRow size xs → All (λ x. Good size x.page) xs
old_good row[] = nil
old_good (row∷ l h) = cons l.good (old_good h)

-- ---- the changes, leaf by leaf

-- what is known of changes that begin at or above s
record Edits (size : ℕ) (s : Option (List ℕ)) (es : List Edit) : Type 0 where
  rising : RisingEdits es
  above : (b : List ℕ) → s ≡ some b → All (λ e. Le b e.key) es
  fitting : All (λ e. (d : Change) → e.change ≡ some d → length d.value ≤ value_limit size) es
  keyed : All (λ e. length e.key ≡ 32) es

-- ---- leaf after leaf

module _ (size entries bytes : ℕ) (q : PageSize size) where
  behind_leaf : (x : RowLeaf) (xs : List RowLeaf) (es : List Edit) → IsRow size xs → All (λ e. All (λ r. Lt e.key r.key) (records_of_row xs)) (taken (cutoff_by xs) es)
  behind_leaf x [] es h = all_map (λ e p. nil) (taken_below none es)
  behind_leaf x (y ∷ ys) es h = all_map (λ e p. all_map (λ r a. lt_of_lt_of_le (lt_of_test e.key y.separator p) a) (old_above h)) (taken_below (some y.separator) es)

  later : (xs : List RowLeaf) (s : Option (List ℕ)) (es : List Edit) → Edits size s es → Edits size (cutoff_by xs) (behind (cutoff_by xs) es)
  later [] s es d = record { rising = behind_rising none d.rising; above = λ b e. none_is_not_some e; fitting = all_behind none d.fitting; keyed = all_behind none d.keyed }
  later (y ∷ ys) s es d = record {
    rising = behind_rising (some y.separator) d.rising;
    above = λ b e. rw (← some-injective y.separator b e) (behind_above y.separator d.rising);
    fitting = all_behind (some y.separator) d.fitting;
    keyed = all_behind (some y.separator) d.keyed;
  }

  ends : (xs : List RowLeaf) (es : List Edit) → cutoff_by xs ≡ none → behind (cutoff_by xs) es ≡ []
  ends [] es e = nothing_behind es
  ends (y ∷ ys) es e = none_is_not_some (sym e)

  turns_hold : (old : List (List ℕ)) {xs : List RowLeaf} → IsRow size xs → All (λ x. Among x.page old) xs → (t : Turned) (T : List Record) (es : List Edit) → Turning size old (cutoff_by xs) t T
      → Edits size (cutoff_by xs) es → (cutoff_by xs ≡ none → es ≡ []) → t.number ≡ 0 → (turns size entries bytes t xs es).number ≡ 0
      → Turning size old none (turns size entries bytes t xs es) (changed_all es (T ++ records_of_row xs))
  turns_hold old row[] nil t T es w d k z n = rw (k refl, append-nil T) w
  turns_hold old (row∷ {x} {xs} l h) (cons o os) t T es w d k z n =
      let c = cutoff_by xs in
      let mine = taken c es in
      let rest = behind c es in
      let t' = turn size entries bytes t x c mine in
      let go_on : turns size entries bytes t (x ∷ xs) es ≡ turns size entries bytes t' xs rest = rw (eq-eqb t.number 0 z, turns) refl in
      let n' : (turns size entries bytes t' xs rest).number ≡ 0 = ap (λ (u : Turned). u.number) (sym go_on) ∙ n in
      let f : EditFacts size x.separator c mine = record { above = all_taken c (d.above x.separator refl); below = taken_below c es; fitting = all_taken c d.fitting; keyed = all_taken c d.keyed } in
      let w' : Turning size old c t' (changed_all mine (T ++ records x.page)) = a_turn_holds size entries bytes q old t T x c mine w l f o (accepted_before size entries bytes q t' xs rest n') in
      let same : changed_all es (T ++ records_of_row (x ∷ xs)) ≡ changed_all rest (changed_all mine (T ++ records x.page) ++ records_of_row xs) =
      ap (λ (v : List Edit). changed_all v (T ++ records_of_row (x ∷ xs))) (sym (both c es))
      ∙ changed_in_turn mine rest (T ++ records_of_row (x ∷ xs))
      ∙ ap (λ (v : List Record). changed_all rest (changed_all mine v)) (sym (append_assoc T (records x.page) (records_of_row xs)))
      ∙ ap (changed_all rest) (all_changed_before (records_of_row xs) (T ++ records x.page) (behind_leaf x xs es h)) in
      rw (go_on, same) (turns_hold old h os t' (changed_all mine (T ++ records x.page)) rest w' (later xs (some x.separator) es d) (ends xs es) (accepted_before size entries bytes q t' xs rest n') n')

  -- ---- the whole row

  pub nothing_yet_lem : (old : List (List ℕ)) (c : Option (List ℕ)) → Turning size old c (nothing_yet size entries bytes) []
  nothing_yet_lem old c = record {
    tally = refl;
    rising = rise[];
    below = nil;
    right = right[];
    placed = λ b e. nil;
    fitting = nil;
    keyed = nil;
    kept_placed = λ n. clash n refl;
    merges = λ e. refl;
    good = nil;
    whole_leaves = λ b e. nil;
    bodies = every_page nil;
  }

  -- no base: as if an empty page had been loaded
  abbrev no_base : RowLeaf
  no_base = record { separator = zero_key; page = build size [] }

  nothing_fits : Fits size []
  nothing_fits = record { sized = q; keys = nil; room = omega arith }

  no_records : records (build size []) ≡ []
  no_records = a_built_page_has_its_records size [] nothing_fits

  no_base_lem : LeafRight size no_base none
  no_base_lem = record {
    good = a_built_page_is_good size [] (record { fits = nothing_fits; fitting = nil; rise = rise[] });
    above = rw no_records nil;
    below = rw no_records nil;
    cut = refl;
  }

  pub own_pages : (xs : List RowLeaf) → All (λ x. Among x.page (pages_of xs)) xs
  own_pages [] = nil
  own_pages (x ∷ xs) = cons here (all_map (λ y o. there o) (own_pages xs))

  module _ (xs : List RowLeaf) (es : List Edit) (h : IsRow size xs) (z : FromZero xs) (d : EditsRight size es) (n : (row_turned size entries bytes xs es).number ≡ 0) where
    abbrev old : List (List ℕ)
    old = pages_of xs

    abbrev new_row : List RowLeaf
    new_row = is_from_zero (row_turned size entries bytes xs es).row

    from_zeros : (b : List ℕ) → some zero_key ≡ some b → All (λ e. Le b e.key) es
    unfolding num
    from_zeros b e = rw (← some-injective zero_key b e) (all_map (λ x k. omega arith) d.keyed)

    edits : Edits size (some zero_key) es
    edits = record { rising = d.rising; above = from_zeros; fitting = d.fitting; keyed = d.keyed }

    turned : Turning size old none (row_turned size entries bytes xs es) (changed_all es (records_of_row xs))
    turned = all_turns xs es h z edits n
      where
        all_turns : (xs : List RowLeaf) (es : List Edit) → IsRow size xs → FromZero xs → Edits size (some zero_key) es → (row_turned size entries bytes xs es).number ≡ 0
            → Turning size (pages_of xs) none (row_turned size entries bytes xs es) (changed_all es (records_of_row xs))
        all_turns [] [] h z d n = nothing_yet_lem [] none
        all_turns [] (e ∷ es) h z d n =
            let f : EditFacts size zero_key none (e ∷ es) = record { above = d.above zero_key refl; below = all_map (λ x p. refl) d.keyed; fitting = d.fitting; keyed = d.keyed } in
            let w = loaded_leaf size entries bytes q [] (nothing_yet size entries bytes) [] no_base none (e ∷ es) (nothing_yet_lem [] (some zero_key)) no_base_lem f in
            rw (loaded_is size entries bytes q (nothing_yet size entries bytes) zero_key none [] (e ∷ es) n) (rw no_records at w)
        all_turns (x ∷ xs) es h (first_leaf s) d n =
            turns_hold (pages_of (x ∷ xs)) h (own_pages (x ∷ xs)) (nothing_yet size entries bytes) [] es (nothing_yet_lem (pages_of (x ∷ xs)) (some x.separator)) (rw s d) (λ e. none_is_not_some (sym e)) refl n

    same_leaves : (k : List ℕ) (ys : List RowLeaf) → lookup size k (is_from_zero ys) ≡ lookup size k ys
    same_leaves k [] = refl
    same_leaves k (y ∷ ys) = refl

    -- "For every key, lookup in the new row gives the change if there is one, else the old value and flag, or absence."
    pub lookup_in_the_new_row : (k : List ℕ) → lookup size k new_row ≡ expected k es (lookup size k xs)
    lookup_in_the_new_row k =
        let t = row_turned size entries bytes xs es in
        let all : records_of_row t.row ≡ changed_all es (records_of_row xs) = sym (append-nil (records_of_row t.row)) ∙ ap (λ (v : List Record). records_of_row t.row ++ v) (sym (turned.merges refl)) ∙ turned.tally in
        same_leaves k t.row
        ∙ a_row_is_looked_up_by_its_records k size q turned.good (separators_lie_around turned.right)
        ∙ ap (lookup_in k) all
        ∙ changed_records_are_found k d.rising (records_of_row xs)
        ∙ ap (expected k es) (sym (a_row_is_looked_up_by_its_records k size q (old_good h) (old_around h)))

    lower_first : (c : Option (List ℕ)) (x : RowLeaf) → LeafRight size x c → LeafRight size (record { separator = zero_key; page = x.page }) c
    unfolding num
    lower_first c x l = record { good = l.good; above = all_map (λ r p. omega arith) l.above; below = l.below; cut = lower_cut c l.cut }
      where
        lower_cut : (c : Option (List ℕ)) → below_cutoff c x.separator ≡ true → below_cutoff c zero_key ≡ true
        lower_cut none e = refl
        lower_cut (some b) e = test_of_lt zero_key b (lt_of_le_of_lt (omega arith) (lt_of_test x.separator b e))

    still_a_row : {ys : List RowLeaf} → IsRow size ys → IsRow size (is_from_zero ys)
    still_a_row row[] = row[]
    still_a_row (row∷ {x} {xs = ys} l r) = row∷ (lower_first (cutoff_by ys) x l) r

    starts_at_zero_lem : (ys : List RowLeaf) → FromZero (is_from_zero ys)
    starts_at_zero_lem [] = no_leaf
    starts_at_zero_lem (y ∷ ys) = first_leaf refl

    -- pages good, separators rising from zero, keys between them
    pub the_new_row_is_a_row : IsRow size new_row × FromZero new_row
    the_new_row_is_a_row = (still_a_row (right_rows_are_rows turned.right turned.good), starts_at_zero_lem (row_turned size entries bytes xs es).row)

    same_pages : (ys : List RowLeaf) → pages_of (is_from_zero ys) ≡ pages_of ys
    same_pages [] = refl
    same_pages (y ∷ ys) = refl

    -- "Demand 3's lower limit speaks of leaves made, not copied."
    pub leaves_of_the_new_row_are_old_or_have_right_bodies : Bodies size old (pages_of new_row)
    leaves_of_the_new_row_are_old_or_have_right_bodies = rw (same_pages (row_turned size entries bytes xs es).row) turned.bodies
