-- The pending records of a work that earns none of Nos. 1 to 8: their keys have 32 bytes, their values are such as a page takes. Assumes nothing.
use mathlib.Core.Path.{◌≡◌, refl}
use mathlib.Core.Bool.{Bool, true, false, cond}
use mathlib.Core.List.{List, [], ◌++◌}
use Prim.Native.Nat.{ℕ, ◌-◌, ◌≤◌}
use native.Mathlib.Omega.{arith}
use lib.ListN.{length, take}
use borrow.Author.Tests.{leb-true}
use Rattle.leaf_node.specs.Limits.{value_limit, PageSize}
use Rattle.leaf_node.specs.Page.{count, run, records_between}
use Rattle.leaf_node.specs.Fits.{All, nil, cons, Keyed, Fitting}
use Rattle.leaf_node.proofs.RoundTrips.{records_of_a_good_page_are_proper}
use Rattle.leaf_model.proofs.Lists.{all_append, all_map}
use Rattle.leaf_work.specs.declared.Work.{Work}
use Rattle.leaf_work.specs.declared.Entry.{Entry}
use Rattle.leaf_work.specs.Lent.{cutoff_of, reads_base, regarded}
use Rattle.leaf_work.specs.Pending.{listed_of, rest_of}
use Rattle.leaf_work.specs.Verdict.{lent_verdict}
use Rattle.leaf_work.proofs.Tests.{every_all}
use Rattle.leaf_work.proofs.Operations.{records_of_ops}
use Rattle.leaf_work.proofs.BasePages.{lent_page_is_good}
use Rattle.leaf_work.proofs.Laid.{an_ignored_page_has_no_records, rest_is}
use Rattle.leaf_work.proofs.Decoding.{Shape, insert, keep, op_of, ops_of}
use Rattle.leaf_work.proofs.Readiness.{c, ops, base_right, shapes, listed_are, laid}

-- an entry whose key has 32 bytes
abbrev pub EntryKeyed : Entry → Type 0
EntryKeyed e = length e.key ≡ 32

module _ (size : ℕ) (q : PageSize size) (w : Work) (list : List Entry) (store page : List ℕ) (z : lent_verdict size w list store page ≡ 0) where
  abbrev base : List ℕ
  base = regarded w page

  rest_are : rest_of w store base ≡ records_between base w.low (count base)
  rest_are = rest_is w list store base (ops size w list store page z) (laid size w list store page z)

  low_in : w.low ≤ count base
  low_in = (laid size w list store page z).low_in

  -- the base is a good page, or none of it
  base_proper : (from to : ℕ) → from ≤ to → to ≤ count base → All Keyed (records_between base from to) × All (Fitting size) (records_between base from to)
  unfolding records_between run
  base_proper from to o h = go (reads_base w) refl h
    where
      go : (b : Bool) → reads_base w ≡ b → to ≤ count (cond b page [])
          → All Keyed (records_between (cond b page []) from to) × All (Fitting size) (records_between (cond b page []) from to)
      go true e h =
          let a = records_of_a_good_page_are_proper size page q (lent_page_is_good size page w.latest (cutoff_of w) (base_right size w list store page z e)) from to o h in
          (a.fits.keys, a.fitting)
      go false e h = let y : to - from ≡ 0 = omega (arith, an_ignored_page_has_no_records) in rw y (nil, nil)

  ops_keyed : {es : List Entry} → All EntryKeyed es → All (Shape w.low base) es → All Keyed (records_of_ops base (ops_of store es))
  unfolding op_of
  ops_keyed nil nil = nil
  ops_keyed (cons k ks) (cons (insert from to key flag o) s) = cons k (ops_keyed ks s)
  ops_keyed (cons k ks) (cons (keep from to l m) s) = all_append (base_proper from to (omega arith) (omega (arith, low_in))).0 (ops_keyed ks s)

  pub pending_keys_have_32_bytes : All EntryKeyed (take w.used list) → All Keyed (listed_of w list store (regarded w page) ++ rest_of w store (regarded w page))
  pending_keys_have_32_bytes k =
      let a : All Keyed (listed_of w list store base) = rw (listed_are size w list store page z) (ops_keyed k (shapes size w list store page z)) in
      let b : All Keyed (rest_of w store base) = rw rest_are (base_proper w.low (count base) low_in (omega arith)).0 in
      all_append a b

  pub pending_values_are_fitting : All (Fitting size) (listed_of w list store (regarded w page) ++ rest_of w store (regarded w page))
  pending_values_are_fitting =
      all_append (all_map (λ r e. leb-true (length r.value) (value_limit size) e) (every_all _ (listed_of w list store base) (c size w list store page z).listed_fitting))
      (rw rest_are (base_proper w.low (count base) low_in (omega arith)).1)
