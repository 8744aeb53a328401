-- A page that Nos. 1 to 6 let pass is a base that the model takes. Assumes nothing.
use mathlib.Core.Path.{◌≡◌, refl, ◌∙◌}
use mathlib.Core.Bool.{not, true, ◌&&◌}
use mathlib.Core.Option.{Option}
use mathlib.Core.List.{List}
use Prim.Native.Nat.{ℕ, ◌≤◌}
use native.Mathlib.Omega.{arith}
use lib.ListN.{length}
use borrow.Author.Tests.{le-leb, eq-eqb}
use Rattle.bit_ops.specs.Key.{lt_key}
use Rattle.leaf_node.specs.Limits.{PageSize, body_limit, record_limit}
use Rattle.leaf_node.specs.Record.{Record, total}
use Rattle.leaf_node.specs.Page.{count, records}
use Rattle.leaf_node.specs.Good.{Good, page_verdict}
use Rattle.leaf_node.specs.Fits.{All, nil, cons, Keyed, Fitting, Proper}
use Rattle.leaf_node.proofs.Verdicts.{accepted_pages_are_the_good_ones}
use Rattle.leaf_node.proofs.Reading.{good_pages_are_laid}
use Rattle.leaf_node.proofs.Laying.{range_length}
use Rattle.leaf_node.proofs.RoundTrips.{records_of_a_good_page_are_proper, body_is_pointers_and_values}
use Rattle.leaf_model.specs.Work.{below_cutoff, within_bounds, good_base}
use Rattle.leaf_model.proofs.Tests.{and_left, and_right}
use Rattle.leaf_model.proofs.Bases.{rising_test}
use Rattle.leaf_work.specs.Sound.{keys_within}
use Rattle.leaf_work.specs.Verdict.{unless, base_verdict, keys_verdict}
use Rattle.leaf_work.proofs.Tests.{and_both, passed, first_passed, first_zero, every_all}

within_test : (size : ℕ) (s : List ℕ) (c : Option (List ℕ)) {xs : List Record} → All (λ r. (not (lt_key r.key s) && below_cutoff c r.key) ≡ true) xs
    → All (Fitting size) xs → All Keyed xs → within_bounds size s c xs ≡ true
within_test size s c nil nil nil = refl
within_test size s c (cons {x = r} a az) (cons l ls) (cons k ks) =
    and_both (and_left (not (lt_key r.key s)) _ a)
    (and_both (and_right (not (lt_key r.key s)) _ a) (and_both (le-leb _ _ l) (and_both (eq-eqb (length r.key) 32 k) (within_test size s c az ls ks))))

-- ---- the records of a good page

module _ (size : ℕ) (q : PageSize size) (page : List ℕ) (g : Good size page) where
  all_proper : Proper size (records page)
  unfolding records
  all_proper = records_of_a_good_page_are_proper size page q g 0 (count page) (omega arith) (omega arith)

  pub a_good_page_has_few_records : length (records page) ≤ record_limit size
  unfolding records
  a_good_page_has_few_records = omega (arith, range_length page (count page) (good_pages_are_laid size page q g) 0 (count page) (omega arith) (omega arith), g.few)

  pub values_of_a_good_page_are_no_longer_than_it : total (records page) ≤ size
  unfolding body_limit
  values_of_a_good_page_are_no_longer_than_it = omega (arith, all_proper.fits.room, body_is_pointers_and_values (records page))

-- ---- an opening's or a next base's page

module _ (size : ℕ) (q : PageSize size) (page sep : List ℕ) (cut : Option (List ℕ)) (e : base_verdict size page sep cut ≡ 0) where
  base_parts : (page_verdict size page ≡ 0) × ((below_cutoff cut sep && keys_within sep cut (records page)) ≡ true)
  unfolding base_verdict
  base_parts =
      let a = first_passed (page_verdict size page) (unless 6 (below_cutoff cut sep && keys_within sep cut (records page)) 0) e in
      (a.0, (passed 5 (below_cutoff cut sep && keys_within sep cut (records page)) 0 a.1).0)

  pub base_page_is_good : Good size page
  base_page_is_good = (accepted_pages_are_the_good_ones size page).0 base_parts.0

  pub separator_below_cutoff : below_cutoff cut sep ≡ true
  separator_below_cutoff = and_left (below_cutoff cut sep) _ base_parts.1

  pub base_is_good : good_base size (record { records = records page; separator = sep; cutoff = cut }) ≡ true
  base_is_good =
      let a = all_proper size q page base_page_is_good in
      and_both separator_below_cutoff
      (and_both (rising_test a.rise)
      (within_test size sep cut (every_all _ (records page) (and_right (below_cutoff cut sep) _ base_parts.1)) a.fitting a.fits.keys))

  -- what the calls after it test is less
  pub lent_again_the_page_passes : keys_verdict size page sep cut ≡ 0
  unfolding keys_verdict
  lent_again_the_page_passes = first_zero (page_verdict size page) _ base_parts.0 ∙ rw (and_right (below_cutoff cut sep) (keys_within sep cut (records page)) base_parts.1)

pub lent_page_is_good : (size : ℕ) (page sep : List ℕ) (cut : Option (List ℕ)) → keys_verdict size page sep cut ≡ 0 → Good size page
unfolding keys_verdict
lent_page_is_good size page sep cut e = (accepted_pages_are_the_good_ones size page).0 (first_passed (page_verdict size page) _ e).0
