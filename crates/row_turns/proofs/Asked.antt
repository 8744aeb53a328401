-- Document 02, M-101: "The call asks for twice the old pages, plus the inserted bodies / 2047 rounded up". The pages asked are always enough, where a full page is no more than
-- two leaves of the least body, as with pages of 4,096 bytes: before each digest there is room for what it asks for. Assumes nothing.
use mathlib.Core.Path.{◌≡◌, refl, sym, ap, ◌∙◌}
use mathlib.Core.Bool.{Bool, true, false, cond}
use mathlib.Core.Option.{Option, none, some}
use mathlib.Core.List.{List, [], ◌∷◌, ◌++◌, map}
use Prim.Native.Nat.{ℕ, suc, ◌+◌, ◌*◌, ◌-◌, ◌/◌, ◌≤◌, ◌<◌}
use native.Mathlib.Omega.{arith}
use native.Mathlib.Nat.{le-div_iff_mul-le, div-mul-le_self, mul-add-div_right}
use lib.ListN.{length, length-append}
use borrow.Author.Tests.{eq-eqb}
use Rattle.bit_ops.specs.Key.{eq_key, lt_key}
use Rattle.leaf_node.specs.Limits.{PageSize, body_limit, merge_below, pages_asked, value_limit}
use Rattle.leaf_node.specs.Record.{Record, cost, body}
use Rattle.leaf_node.specs.Page.{count, records}
use Rattle.leaf_node.specs.Good.{Good}
use Rattle.leaf_node.specs.Fits.{All, nil, cons, Proper}
use Rattle.leaf_node.proofs.RoundTrips.{records_of_a_good_page_are_proper}
use Rattle.leaf_model.specs.Basics.{joined, nonempty}
use Rattle.leaf_model.specs.Cut.{Cut}
use Rattle.leaf_model.specs.Work.{next_separator, Change, zero_key, below_cutoff, inserted, plan, with_separators}
use Rattle.leaf_model.specs.Tally.{strike, place, changed}
use Rattle.leaf_model.proofs.Tests.{none_is_not_some}
use Rattle.leaf_model.proofs.Lists.{all_append, all_right_lem, body_append}
use Rattle.leaf_model.proofs.Cutting.{Fitting, limits_agree}
use Rattle.leaf_model.proofs.Plan.{Sized, sized[], sized∷, sized_last, leaves_and_kept_are_the_records, leaves_have_right_sizes, leaves_never_more_than_pages_asked}
use Rattle.row_turns.specs.Row.{RowLeaf, cutoff_by, IsRow, row[], row∷}
use Rattle.row_turns.specs.Changes.{Edit, changed_all, taken, behind, inserted_body, row_pages_asked}
use Rattle.row_turns.specs.Turns.{Turned, made, digested_to, loaded, turn, turns, nothing_yet, row_turned}
use Rattle.row_turns.proofs.Changing.{all_changed, all_taken, all_behind}
use Rattle.row_turns.proofs.Turning.{loaded_is, accepted_before, copied_to, TurnIs, was_loaded, was_copied, a_turn_is}

pub a_full_page_of_4096_bytes_is_two_least_leaves : body_limit 4096 ≤ 2 * merge_below 4096
unfolding body_limit merge_below
a_full_page_of_4096_bytes_is_two_least_leaves = omega arith

-- ---- what changes add to a body

strike_body : (k : List ℕ) (rs : List Record) → body (strike k rs) ≤ body rs
strike_body k [] = omega arith
strike_body k (x ∷ xs) = go (strike_body k xs) (eq_key k x.key) refl
  where
    go : body (strike k xs) ≤ body xs → (b : Bool) → eq_key k x.key ≡ b → body (strike k (x ∷ xs)) ≤ body (x ∷ xs)
    go ih true e = rw (e, strike) (omega (arith, ih))
    go ih false e = rw (e, strike) (omega (arith, ih))

place_body : (r : Record) (rs : List Record) → body (place r rs) ≡ cost r + body rs
place_body r [] = refl
place_body r (x ∷ xs) = go (place_body r xs) (lt_key x.key r.key) refl
  where
    go : body (place r xs) ≡ cost r + body xs → (b : Bool) → lt_key x.key r.key ≡ b → body (place r (x ∷ xs)) ≡ cost r + body (x ∷ xs)
    go ih true e = rw (e, place) (omega (arith, ih))
    go ih false e = rw (e, place)

changed_body : (k : List ℕ) (c : Option Change) (rs : List Record) → body (changed k c rs) ≤ body rs + body (inserted k c)
changed_body k none rs = omega (arith, strike_body k rs)
changed_body k (some d) rs = omega (arith, strike_body k rs, place_body (record { key = k; value = d.value; flag = d.flag }) (strike k rs))

pub changes_add_what_they_insert : (es : List Edit) (rs : List Record) → body (changed_all es rs) ≤ body rs + inserted_body es
changes_add_what_they_insert [] rs = omega arith
changes_add_what_they_insert (e ∷ es) rs = omega (arith, changed_body e.key e.change rs, changes_add_what_they_insert es (changed e.key e.change rs))

pub inserted_in_turn : (c : Option (List ℕ)) (es : List Edit) → inserted_body (taken c es) + inserted_body (behind c es) ≡ inserted_body es
inserted_in_turn c [] = refl
inserted_in_turn c (e ∷ es) = go (inserted_in_turn c es) (below_cutoff c e.key) refl
  where
    go : inserted_body (taken c es) + inserted_body (behind c es) ≡ inserted_body es → (b : Bool) → below_cutoff c e.key ≡ b
        → inserted_body (taken c (e ∷ es)) + inserted_body (behind c (e ∷ es)) ≡ inserted_body (e ∷ es)
    go ih true h = rw (h, taken, behind) (omega (arith, ih))
    go ih false h = rw (h, taken, behind) (omega arith)

-- ---- the turns

-- what the turns have used, with what is still to come, is within b: each leaf of the new row takes 2,047, each old leaf that is still to come brings
-- twice that, each change what it inserts
pub record Within (size b : ℕ) (t : Turned) (xs : List RowLeaf) (es : List Edit) : Type 0 where
  pub fitting : All (Fitting size) t.kept
  pub used : length t.row * merge_below size + body t.kept + (length xs * (2 * merge_below size) + inserted_body es) ≤ b

-- the values that changes bring fit into a page
abbrev pub EditsFit : ℕ → List Edit → Type 0
EditsFit size es = All (λ e. (c : Change) → e.change ≡ some c → length c.value ≤ value_limit size) es

module _ (size entries bytes : ℕ) (q : PageSize size) (even : body_limit size ≤ 2 * merge_below size) where
  some_body : 0 < merge_below size
  some_body = (limits_agree size q).some_body

  -- r leaves and a body of p are within b: so are r leaves and the pages that a digest of p asks for
  pub asked_within : (r p b : ℕ) → r * merge_below size + p ≤ b → r + pages_asked size p ≤ pages_asked size b
  asked_within r p b h =
      (le-div_iff_mul-le some_body).1 (omega (arith, h, div-mul-le_self (p + (merge_below size - 1)) (merge_below size)))

  pub asked_of_a_row : (n b : ℕ) → pages_asked size (n * (2 * merge_below size) + b) ≡ row_pages_asked size n b
  asked_of_a_row n b =
      let m : ℕ = merge_below size in
      let e : n * (2 * m) + b + (m - 1) ≡ (2 * n) * m + (b + (m - 1)) = omega arith in
      ap (λ (x : ℕ). x / m) e ∙ mul-add-div_right some_body (2 * n) (b + (m - 1))

  -- ---- the leaves of a digest take no more than what was pending

  sized_leaves : {c : Option (List ℕ)} {left : List Record} {ls : List (List Record)} → Sized size c left ls → (x : List ℕ) → c ≡ some x → length ls * merge_below size ≤ body (joined ls)
  sized_leaves sized[] x e = omega arith
  sized_leaves (sized∷ {l = l} {ls = ls} z h) x e = omega (arith, sized_leaves h x e, body_append l (joined ls), z.enough)
  sized_leaves (sized_last e' z) x e = none_is_not_some e

  pub count_leaves : (s : List ℕ) (c : Option (List ℕ)) (m : Bool) (ls : List (List Record)) (left : List Record) → length (map (made size) (with_separators s c m ls left)) ≡ length ls
  count_leaves s c m [] left = refl
  count_leaves s c m (l ∷ ls) left = ap suc (count_leaves (next_separator s l (joined ls ++ left)) c m ls left)

  -- ---- one leaf

  -- of a leaf with the records rs, which brings so much as `brought`
  module _ (b : ℕ) (t : Turned) (rs : List Record) (brought : ℕ) (bound : body rs ≤ brought) (fits : All (Fitting size) rs) (xs : List RowLeaf) (es later : List Edit) (f : EditsFit size es)
      (fitting : All (Fitting size) t.kept)
      (used : length t.row * merge_below size + body t.kept + (brought + length xs * (2 * merge_below size) + (inserted_body es + inserted_body later)) ≤ b) where
    abbrev P : List Record
    P = changed_all es (t.kept ++ rs)

    pending_fits : All (Fitting size) P
    pending_fits = all_changed f (all_append fitting fits)

    pending_within : length t.row * merge_below size + body P + (length xs * (2 * merge_below size) + inserted_body later) ≤ b
    pending_within = omega (arith, used, changes_add_what_they_insert es (t.kept ++ rs), body_append t.kept rs, bound)

    -- before the digest there is room for the pages that it asks for
    pub a_digest_gets_the_pages_it_asks_for : length t.row + pages_asked size (body P) ≤ pages_asked size b
    a_digest_gets_the_pages_it_asks_for = asked_within (length t.row) (body P) b (omega (arith, pending_within))

    module _ (s : List ℕ) (c : Option (List ℕ)) where
      abbrev p : Cut
      p = plan size c P

      abbrev done : Turned
      done = digested_to size entries bytes t.row s c P

      new_length : length done.row ≡ length t.row + length p.leaves
      new_length = length-append t.row _ ∙ ap (λ (n : ℕ). length t.row + n) (count_leaves s c (nonempty p.left) p.leaves p.left)

      bodies : body (joined p.leaves) + body p.left ≡ body P
      bodies = sym (body_append (joined p.leaves) p.left) ∙ ap body (leaves_and_kept_are_the_records size c P)

      pub a_digest_stays_within : (x : List ℕ) → c ≡ some x → Within size b done xs later
      a_digest_stays_within x e = record {
        fitting = all_right_lem (joined p.leaves) p.left (rw (← leaves_and_kept_are_the_records size c P) at pending_fits);
        used = rw new_length (omega (arith, sized_leaves (leaves_have_right_sizes size q c P pending_fits) x e, bodies, pending_within));
      }

      pub a_digest_gives_no_more_than_asked : length done.row ≤ pages_asked size b
      a_digest_gives_no_more_than_asked = omega (arith, new_length, leaves_never_more_than_pages_asked size q c P pending_fits, a_digest_gets_the_pages_it_asks_for)

  -- ---- leaf after leaf

  pub a_copy_stays_within : (b : ℕ) (t : Turned) (x : RowLeaf) (xs : List RowLeaf) (es : List Edit) → Within size b t (x ∷ xs) es → t.kept ≡ [] → Within size b (copied_to size entries bytes q t x) xs es
  a_copy_stays_within b t x xs es w k =
      let l : length (t.row ++ (x ∷ [])) ≡ length t.row + 1 = length-append t.row (x ∷ []) in
      let u : length (t.row ++ (x ∷ [])) * merge_below size + 0 + (length xs * (2 * merge_below size) + inserted_body es) ≤ b = rw l (omega (arith, w.used)) in
      record { fitting = nil; used = u }

  module _ (x : RowLeaf) (g : Good size x.page) where
    pub proper : Proper size (records x.page)
    unfolding records
    proper = records_of_a_good_page_are_proper size x.page q g 0 (count x.page) (omega arith) (omega arith)

    pub leaf_body : body (records x.page) ≤ 2 * merge_below size
    leaf_body = omega (arith, proper.fits.room, even)

  -- after a turn the new row is within what is asked, or what is still to come is
  turns_stay_within : (b : ℕ) {xs : List RowLeaf} → All (λ x. Good size x.page) xs → (t : Turned) (es : List Edit) → Within size b t xs es → EditsFit size es
      → (turns size entries bytes t xs es).number ≡ 0 → length (turns size entries bytes t xs es).row ≤ pages_asked size b
  turns_stay_within b nil t es w f n = omega (arith, asked_within (length t.row) (body t.kept) b (omega (arith, w.used)))
  turns_stay_within b (cons {x} {xs} g gs) t es w f n =
      rw on (go xs refl (turns_stay_within b gs) (a_turn_is size entries bytes q t x (cutoff_by xs) mine (accepted_before size entries bytes q t' xs rest n')))
    where
      mine : List Edit
      mine = taken (cutoff_by xs) es

      rest : List Edit
      rest = behind (cutoff_by xs) es

      t' : Turned
      t' = turn size entries bytes t x (cutoff_by xs) mine

      on : turns size entries bytes t (x ∷ xs) es ≡ turns size entries bytes t' xs rest
      on = rw (eq-eqb t.number 0 (accepted_before size entries bytes q t (x ∷ xs) es n), turns)

      n' : (turns size entries bytes t' xs rest).number ≡ 0
      n' = ap (λ (u : Turned). u.number) (sym on) ∙ n

      used : length t.row * merge_below size + body t.kept + (2 * merge_below size + length xs * (2 * merge_below size) + (inserted_body mine + inserted_body rest)) ≤ b
      used = omega (arith, w.used, inserted_in_turn (cutoff_by xs) es)

      Next : Type 0
      Next = (t : Turned) (es : List Edit) → Within size b t xs es → EditsFit size es → (turns size entries bytes t xs es).number ≡ 0 → length (turns size entries bytes t xs es).row ≤ pages_asked size b

      go : (ys : List RowLeaf) → xs ≡ ys → Next → TurnIs size entries bytes q t x (cutoff_by xs) mine → length (turns size entries bytes t' xs rest).row ≤ pages_asked size b
      go [] e ih (was_loaded d) =
          let a = a_digest_gives_no_more_than_asked b t (records x.page) (2 * merge_below size) (leaf_body x g) (proper x g).fitting xs mine rest (all_taken (cutoff_by xs) f) w.fitting used
          (cond (nonempty t.kept) t.separator x.separator) (cutoff_by xs) in
          rw (ap (λ (ys : List RowLeaf). length (turns size entries bytes t' ys rest).row) e, d) a
      go (y ∷ ys) e ih (was_loaded d) =
          let a = a_digest_stays_within b t (records x.page) (2 * merge_below size) (leaf_body x g) (proper x g).fitting xs mine rest (all_taken (cutoff_by xs) f) w.fitting used
          (cond (nonempty t.kept) t.separator x.separator) (cutoff_by xs) y.separator (ap cutoff_by e) in
          ih t' rest (rw (← d) at a) (all_behind (cutoff_by xs) f) n'
      go ys e ih (was_copied m k d) =
          ih t' rest (rw (← d) at (a_copy_stays_within b t x xs rest (record { fitting = w.fitting; used = omega (arith, used) }) k)) (all_behind (cutoff_by xs) f) n'

  all_good : {xs : List RowLeaf} → IsRow size xs → All (λ x. Good size x.page) xs
  all_good row[] = nil
  all_good (row∷ l h) = cons l.good (all_good h)

  -- "The call asks for twice the old pages, plus the inserted bodies / 2047 rounded up"
  pub the_pages_asked_are_enough : (xs : List RowLeaf) (es : List Edit) → IsRow size xs → EditsFit size es → (row_turned size entries bytes xs es).number ≡ 0
      → length (row_turned size entries bytes xs es).row ≤ row_pages_asked size (length xs) (inserted_body es)
  the_pages_asked_are_enough [] [] h f n = omega arith
  the_pages_asked_are_enough [] (e ∷ es) h f n =
      let a : length (loaded size entries bytes (nothing_yet size entries bytes) zero_key none [] (e ∷ es)).row ≤ pages_asked size (inserted_body (e ∷ es)) =
      rw (loaded_is size entries bytes q (nothing_yet size entries bytes) zero_key none [] (e ∷ es) n)
      (a_digest_gives_no_more_than_asked (inserted_body (e ∷ es)) (nothing_yet size entries bytes) [] 0 (omega arith) nil [] (e ∷ es) [] f nil (omega arith) zero_key none) in
      omega (arith, a)
  the_pages_asked_are_enough (x ∷ xs) es h f n =
      rw (← asked_of_a_row (length (x ∷ xs)) (inserted_body es))
      (turns_stay_within (length (x ∷ xs) * (2 * merge_below size) + inserted_body es) (all_good h) (nothing_yet size entries bytes) es (record { fitting = nil; used = omega arith }) f n)
