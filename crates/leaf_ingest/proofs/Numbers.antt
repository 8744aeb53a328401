-- Nos. 9 and 12 to 16 in their order, by what the key takes up. Assumes nothing.
use mathlib.Core.Path.{◌≡◌, refl, sym}
use mathlib.Core.Bool.{Bool, true, false}
use mathlib.Core.Option.{Option, none, some}
use mathlib.Core.List.{List}
use Prim.Native.Nat.{ℕ, ◌+◌, ◌-◌, ◌≤◌}
use native.Mathlib.Omega.{arith}
use native.Mathlib.Decide.{dec_lt}
use lib.Dec.{leb}
use lib.ListN.{length}
use borrow.Author.Tests.{le-leb, leb-true}
use Rattle.leaf_node.specs.Limits.{PageSize, body_limit, value_limit}
use Rattle.leaf_node.specs.Record.{total}
use Rattle.leaf_node.specs.Page.{count, records_between, values_size, record_at}
use Rattle.leaf_node.specs.Steps.{Counted}
use Rattle.leaf_node.proofs.Lengths.{length_run}
use Rattle.leaf_model.specs.Work.{Change, below_cutoff, change_fits, inserted}
use Rattle.leaf_work.specs.declared.Work.{Work}
use Rattle.leaf_work.specs.declared.Entry.{Entry}
use Rattle.leaf_work.specs.Lent.{cutoff_of, is_open}
use Rattle.leaf_work.specs.Sound.{lets_in}
use Rattle.leaf_work.specs.TakingUp.{value_of, rest_after, count_after, bytes_after}
use Rattle.leaf_work.specs.Verdict.{unless, first, ingest_verdict}
use Rattle.leaf_work.specs.Ready.{Ready}
use Rattle.leaf_work.proofs.Tests.{passed}
use Rattle.leaf_base.proofs.Bases.{first_refused}
use Rattle.leaf_ingest.specs.declared.Kept.{Kept}
use Rattle.leaf_ingest.specs.Steps.{Taken, Sizes, key_verdict, room_verdict, added_by}

-- ---- what is required

pub a_base_has_few_records : (page : List ℕ) (n : ℕ) → Counted page n → n ≤ 32767
a_base_has_few_records page n q = elim (dec_lt 0 n) [ yes h ↦ omega (arith, (q.laid h).inside, q.short) | no h ↦ omega arith ]

module _ (w : Work) (list : List Entry) (store page : List ℕ) (r : Ready w list store page) where
  pub what_is_taken_up_is_small : (k : List ℕ) (z : Kept) → Taken w page k z → Sizes w z
  what_is_taken_up_is_small k z g =
      record {
        from = g.from;
        to = g.to;
        few = omega (arith, g.upto, a_base_has_few_records page (count page) (record { counted = refl; laid = r.laid; short = r.page_short }));
        taken_few = g.taken_few;
        rest_few = g.rest_few;
        count_few = omega (arith, r.few);
        bytes_few = omega (arith, r.store_room, r.store_short);
      }

pub what_is_taken_up_is_of_the_base : (w : Work) (page k : List ℕ) (z : Kept) (n : ℕ) → n ≡ count page → Taken w page k z → z.low ≤ n
what_is_taken_up_is_of_the_base w page k z n e t = omega (arith, t.upto)

-- ---- the number by its steps

pub range_length : (page : List ℕ) (from to : ℕ) → length (records_between page from to) ≡ to - from
unfolding records_between
range_length page from to = length_run (to - from) from (record_at page)

pub range_total : (page : List ℕ) (from to : ℕ) → total (records_between page from to) ≡ values_size page from to
unfolding values_size
range_total page from to = refl

pub added_records : (c : Option Change) (k : List ℕ) → added_by c ≡ length (inserted k c)
added_records (some c) k = refl
added_records none k = refl

fitting_by_length : (size : ℕ) (c : Option Change) → change_fits size c ≡ leb (length (value_of c)) (value_limit size)
fitting_by_length size none = sym (le-leb 0 (value_limit size) (omega arith))
fitting_by_length size (some c) = refl

pub a_fitting_value_is_short : (size : ℕ) (w : Work) (k : List ℕ) (c : Option Change) → 0 ≡ key_verdict size w k c 0 → PageSize size → length (value_of c) ≤ 32767
unfolding value_limit body_limit
a_fitting_value_is_short size w k c e q =
    let v = passed 11 (leb (length (value_of c)) (value_limit size)) _ (passed 8 (is_open w) _ (sym e)).1 in
    omega (arith, leb-true _ _ v.0, q.most)

module _ (w : Work) (page k : List ℕ) (z : Kept) (t : Taken w page k z) (n : ℕ) (e : n ≡ count page) where
  pub pending_is : (c : Option Change) → count_after w page k c + length (rest_after w page k) ≡ w.count + (z.stop - w.low) + length (inserted k c) + (n - z.low)
  pending_is c = rw (range_length, range_length, ← t.low_is, ← t.stop_is, ← e)

  pub pending_bytes_are : (c : Option Change) → bytes_after w page k c + total (rest_after w page k) ≡ w.bytes + z.taken + length (value_of c) + z.rest
  pending_bytes_are c = rw (range_total, range_total, t.taken_is, t.rest_is)

four_rows : (a b c d : Bool) (v : ℕ) → unless 9 a (unless 12 b (unless 13 c (unless 14 d v))) ≡ first (unless 9 a (unless 12 b (unless 13 c (unless 14 d 0)))) v
four_rows true true true true v = refl
four_rows true true true false v = refl
four_rows true true false d v = refl
four_rows true false c d v = refl
four_rows false b c d v = refl

module _ (size : ℕ) (w : Work) (list : List Entry) (store page k : List ℕ) (c : Option Change) where
  by_steps : (later : ℕ) → later ≡ unless 15 (leb (count_after w page k c + length (rest_after w page k)) (length list)) (unless 16 (leb (bytes_after w page k c + total (rest_after w page k)) (length store)) 0)
      → ingest_verdict size w list store page k c 0 ≡ first (key_verdict size w k c 0) later
  unfolding ingest_verdict
  by_steps later e =
      rw (e, fitting_by_length size c) (four_rows (is_open w) (leb (length (value_of c)) (value_limit size)) (lets_in w k) (below_cutoff (cutoff_of w) k) _)

  pub the_key_comes_first : (v : ℕ) → v ≡ key_verdict size w k c 0 → (v ≡ 0 → ⊥) → v ≡ ingest_verdict size w list store page k c 0
  the_key_comes_first v e h = rw (by_steps _ refl, ← e) (sym (first_refused v _ h))

  module _ (e : 0 ≡ key_verdict size w k c 0) where
    pub the_room_decides : (z : Kept) → Taken w page k z → (n : ℕ) → n ≡ count page → (entries bytes : ℕ) → entries ≡ length list → bytes ≡ length store → (v : ℕ) → v ≡ room_verdict w z n c entries bytes
        → v ≡ ingest_verdict size w list store page k c 0
    the_room_decides z t n f entries bytes i j v g =
        rw (by_steps v (rw (g, i, j, pending_is w page k z t n f c, pending_bytes_are w page k z t n f c, ← added_records c k)), ← e)
