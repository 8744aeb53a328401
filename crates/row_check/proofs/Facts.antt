-- What a row and changes that pass are: what the theorems about the new row assume follows from the verdict alone. Assumes nothing.
use mathlib.Core.Path.{◌≡◌, refl, ap, ◌∙◌}
use mathlib.Core.Bool.{Bool, true, false, cond}
use mathlib.Core.Option.{Option}
use mathlib.Core.List.{List, [], ◌∷◌}
use Prim.Native.Nat.{ℕ, suc, ◌*◌, ◌≤◌}
use native.Mathlib.Nat.{le_trans, mul-le-mul_right}
use lib.Dec.{eqb, leb, ltb}
use lib.ListN.{length, drop}
use borrow.Author.Tests.{eqb-true, eqb-false, leb-true}
use Rattle.leaf_node.specs.Limits.{PageSize, body_limit, merge_below, value_limit}
use Rattle.leaf_node.specs.Page.{records}
use Rattle.leaf_node.specs.Good.{Good, page_verdict}
use Rattle.leaf_node.specs.Fits.{All, nil, cons}
use Rattle.leaf_node.proofs.Verdicts.{accepted_pages_are_the_good_ones}
use Rattle.leaf_model.specs.Work.{zero_key}
use Rattle.leaf_model.proofs.Tests.{and_left, and_right}
use Rattle.leaf_model.proofs.Lists.{all_map, all_both}
use Rattle.leaf_model.proofs.Keys.{test_of_le}
use Rattle.leaf_model.proofs.Bases.{BaseFacts, base_facts}
use Rattle.leaf_work.specs.Lent.{room_right}
use Rattle.leaf_work.specs.Sound.{keys_within}
use Rattle.leaf_work.specs.Verdict.{base_verdict}
use Rattle.leaf_work.proofs.Tests.{and_both, not-true, passed, first_passed, first_zero, all_every, same_bytes_are_equal}
use Rattle.leaf_work.proofs.BasePages.{base_page_is_good, separator_below_cutoff, base_is_good}
use Rattle.row_turns.specs.Row.{RowLeaf, cutoff_by, LeafRight, IsRow, row[], row∷, FromZero, no_leaf, first_leaf, is_from_zero, Bodies, pages_of}
use Rattle.row_turns.specs.Changes.{Edit, row_pages_asked, EditsRight}
use Rattle.row_turns.specs.Turns.{row_turned}
use Rattle.row_turns.specs.Lookup.{lookup, expected}
use Rattle.row_turns.proofs.NewRow as new
use Rattle.row_turns.proofs.Asked as asked
use Rattle.row_changes.specs.Packed.{edits_of}
use Rattle.row_changes.specs.Tests.{values_length, lengths_fit, keys_rising, put_bodies}
use Rattle.row_changes.proofs.Edits.{inserted_bodies_are_those_of_the_entries, changes_that_pass_are_right}
use Rattle.row_check.specs.Verdict.{row_of, whole_pages, lower, leaves_verdict, starts_at_zero, short_from_zero, row_has_pages, call_verdict, row_verdict}

-- ---- leaves that pass are those of a row

lower_zero : (v w : ℕ) → lower v w ≡ 0 → (v ≡ 0) × (w ≡ 0)
unfolding lower
lower_zero v w e = go (eqb v 0) refl (eqb w 0) refl (ltb w v) e
  where
    go : (a : Bool) → eqb v 0 ≡ a → (b : Bool) → eqb w 0 ≡ b → (c : Bool) → cond a w (cond b v (cond c w v)) ≡ 0 → (v ≡ 0) × (w ≡ 0)
    go true x b y c e = (eqb-true v 0 x, e)
    go false x true y c e = absurd (eqb-false v 0 x e)
    go false x false y true e = absurd (eqb-false w 0 y e)
    go false x false y false e = absurd (eqb-false v 0 x e)

module _ (size : ℕ) (q : PageSize size) where
  leaf_passes : (x : RowLeaf) (c : Option (List ℕ)) → base_verdict size x.page x.separator c ≡ 0 → LeafRight size x c
  leaf_passes x c e =
      let f : BaseFacts size (record { records = records x.page; separator = x.separator; cutoff = c }) = base_facts size _ (base_is_good size q x.page x.separator c e) in
      record {
        good = base_page_is_good size q x.page x.separator c e;
        above = f.above_separator;
        below = f.below_cutoff_lem;
        cut = separator_below_cutoff size q x.page x.separator c e;
      }

  pub leaves_that_pass_are_a_row : (v : ℕ) (xs : List RowLeaf) → leaves_verdict size v xs ≡ 0 → (v ≡ 0) × IsRow size xs
  leaves_that_pass_are_a_row v [] e = (e, row[])
  leaves_that_pass_are_a_row v (x ∷ xs) e =
      let r = leaves_that_pass_are_a_row (lower v (base_verdict size x.page x.separator (cutoff_by xs))) xs e in
      let z = lower_zero v (base_verdict size x.page x.separator (cutoff_by xs)) r.0 in
      (z.0, row∷ (leaf_passes x (cutoff_by xs) z.1) r.1)

  -- ---- and the other way round

  pub leaf_is_right : (x : RowLeaf) (c : Option (List ℕ)) → LeafRight size x c → base_verdict size x.page x.separator c ≡ 0
  unfolding base_verdict
  leaf_is_right x c l =
      let w : keys_within x.separator c (records x.page) ≡ true = all_every _ (all_map (λ r p. and_both (not-true (test_of_le x.separator r.key p.0)) p.1) (all_both l.above l.below)) in
      first_zero (page_verdict size x.page) _ ((accepted_pages_are_the_good_ones size x.page).1 l.good) ∙ rw (l.cut, w)

  pub a_row_earns_none_of_1_to_6 : {xs : List RowLeaf} → IsRow size xs → leaves_verdict size 0 xs ≡ 0
  unfolding lower
  a_row_earns_none_of_1_to_6 row[] = refl
  a_row_earns_none_of_1_to_6 (row∷ {x} {xs} l h) = rw (leaf_is_right x (cutoff_by xs) l) (a_row_earns_none_of_1_to_6 h)

starts : (size : ℕ) (pages : List ℕ) (ss : List (List ℕ)) → starts_at_zero ss ≡ true → FromZero (row_of size pages ss)
starts size pages [] e = no_leaf
starts size pages (s ∷ ss) e = first_leaf (same_bytes_are_equal s zero_key e)

pub row_length : (size : ℕ) (pages : List ℕ) (ss : List (List ℕ)) → length (row_of size pages ss) ≡ length ss
row_length size pages [] = refl
row_length size pages (s ∷ ss) = ap suc (row_length size (drop size pages) ss)

-- ---- the verdict

-- what a row call that isn't refused before its turns was lent
pub record Passed (size list store : ℕ) (pages : List ℕ) (separators changes : List (List ℕ)) (values area tickets : ℕ) : Type 0 where
  pub whole : length pages ≡ length separators * size
  pub row : IsRow size (row_of size pages separators)
  pub room : room_right size list store ≡ true
  pub there : values_length changes ≤ values
  pub fitting : lengths_fit (value_limit size) changes ≡ true
  pub rising : keys_rising changes ≡ true
  pub area_room : row_pages_asked size (length separators) (put_bodies changes) * size ≤ area
  pub ticket_room : row_pages_asked size (length separators) (put_bodies changes) * 65 ≤ tickets
  pub few : length separators ≤ 16
  pub from_zero : FromZero (row_of size pages separators)

pub a_row_that_passes : (size list store : ℕ) (pages : List ℕ) (separators changes : List (List ℕ)) (values area tickets : ℕ) → PageSize size
    → row_verdict size list store pages separators changes values area tickets ≡ 0 → Passed size list store pages separators changes values area tickets
unfolding row_verdict call_verdict
a_row_that_passes size list store pages separators changes values area tickets q e =
    let a = passed 0 (whole_pages size (length pages) (length separators)) _ e in
    let b = first_passed (leaves_verdict size 0 (row_of size pages separators)) _ a.1 in
    let c = passed 6 (room_right size list store) _ b.1 in
    let d = passed 9 (leb (values_length changes) values) _ c.1 in
    let f = passed 11 (lengths_fit (value_limit size) changes) _ d.1 in
    let g = passed 12 (keys_rising changes) _ f.1 in
    let p = passed 16 (row_has_pages size (length separators) (put_bodies changes) area tickets) _ g.1 in
    let s = passed 17 (short_from_zero separators) _ p.1 in
    let asked : ℕ = row_pages_asked size (length separators) (put_bodies changes) in
    record {
      whole = eqb-true (length pages) (length separators * size) a.0;
      row = (leaves_that_pass_are_a_row size q 0 (row_of size pages separators) b.0).1;
      room = c.0;
      there = leb-true (values_length changes) values d.0;
      fitting = f.0;
      rising = g.0;
      area_room = leb-true (asked * size) area (and_left (leb (asked * size) area) _ p.0);
      ticket_room = leb-true (asked * 65) tickets (and_right (leb (asked * size) area) _ p.0);
      few = leb-true (length separators) 16 (and_left (leb (length separators) 16) _ s.0);
      from_zero = starts size pages separators (and_right (leb (length separators) 16) _ s.0);
    }

-- ---- the new row, of a call that is refused neither before its turns nor in the middle of them

module _ (size : ℕ) (q : PageSize size) (list store : ℕ) (pages : List ℕ) (separators changes : List (List ℕ)) (values : List ℕ) (area tickets : ℕ) (packed : All (λ c. length c ≡ 40) changes)
    (e : row_verdict size list store pages separators changes (length values) area tickets ≡ 0) (n : (row_turned size list store (row_of size pages separators) (edits_of changes values)).number ≡ 0) where
  abbrev old : List RowLeaf
  old = row_of size pages separators

  abbrev edits : List Edit
  edits = edits_of changes values

  abbrev new_row : List RowLeaf
  new_row = is_from_zero (row_turned size list store old edits).row

  passing : Passed size list store pages separators changes (length values) area tickets
  passing = a_row_that_passes size list store pages separators changes (length values) area tickets q e

  right_edits : EditsRight size edits
  right_edits = changes_that_pass_are_right size changes values packed passing.fitting passing.rising

  -- "For every key, lookup in the new row gives the change if there is one, else the old value and flag, or absence."
  pub every_key_has_its_change_or_is_as_it_was : (k : List ℕ) → lookup size k new_row ≡ expected k edits (lookup size k old)
  every_key_has_its_change_or_is_as_it_was k = new.lookup_in_the_new_row size list store q old edits passing.row passing.from_zero right_edits n k

  -- so that it can be lent again
  pub the_new_row_earns_none_of_1_to_6 : leaves_verdict size 0 new_row ≡ 0
  the_new_row_earns_none_of_1_to_6 = a_row_earns_none_of_1_to_6 size q (new.the_new_row_is_a_row size list store q old edits passing.row passing.from_zero right_edits n).0

  pub the_new_row_starts_at_zero : FromZero new_row
  the_new_row_starts_at_zero = (new.the_new_row_is_a_row size list store q old edits passing.row passing.from_zero right_edits n).1

  -- "Demand 3's lower limit speaks of leaves made, not copied."
  pub leaves_are_old_or_have_right_bodies : Bodies size (pages_of old) (pages_of new_row)
  leaves_are_old_or_have_right_bodies = new.leaves_of_the_new_row_are_old_or_have_right_bodies size list store q old edits passing.row passing.from_zero right_edits n

  same_length : (xs : List RowLeaf) → length (is_from_zero xs) ≡ length xs
  same_length [] = refl
  same_length (x ∷ xs) = refl

  -- the area that passed No. 17 is large enough
  pub the_new_row_fits_the_area : body_limit size ≤ 2 * merge_below size → (length new_row * size ≤ area) × (length new_row * 65 ≤ tickets)
  the_new_row_fits_the_area even =
      let few : length new_row ≤ row_pages_asked size (length separators) (put_bodies changes) =
      rw (same_length (row_turned size list store old edits).row, ← row_length size pages separators, ← inserted_bodies_are_those_of_the_entries changes values passing.there)
      (asked.the_pages_asked_are_enough size list store q even old edits passing.row right_edits.fitting n) in
      (le_trans (mul-le-mul_right size few) passing.area_room, le_trans (mul-le-mul_right 65 few) passing.ticket_room)

  pub new_pages_are_good : All (λ x. Good size x.page) new_row
  new_pages_are_good = all_good (new.the_new_row_is_a_row size list store q old edits passing.row passing.from_zero right_edits n).0
    where
      all_good : {xs : List RowLeaf} → IsRow size xs → All (λ x. Good size x.page) xs
      all_good row[] = nil
      all_good (row∷ l h) = cons l.good (all_good h)
