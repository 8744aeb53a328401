-- `rebuild`: the page of a range by its two parts, and what the call answers and leaves. Assumes nothing.
use Prim.Native.Nat.{ℕ, ◌+◌, ◌-◌, ◌≤◌, ◌<◌}
use mathlib.Core.Path.{◌≡◌, refl, sym, ◌∙◌}
use mathlib.Core.Bool.{Bool, true, false, cond, ◌&&◌}
use mathlib.Core.List.{List, ◌++◌}
use native.Mathlib.Omega.{arith}
use lib.Dec.{eqb, leb}
use lib.ListN.{length, take, drop}
use lib.Seq.{length-take-le}
use borrow.Author.Tests.{eq-eqb, ne_eqb, eqb-true, eqb-false, le-leb, lt-leb, leb-true}
use Rattle.leaf_node.specs.Limits.{PageSize, body_limit}
use Rattle.leaf_node.specs.Record.{Record, total}
use Rattle.leaf_node.specs.Page.{count, pointer, start, record_at, records_between, values_size}
use Rattle.leaf_node.specs.Good.{page_verdict}
use Rattle.leaf_node.specs.Build.{build, started, pushed}
use Rattle.leaf_node.specs.Steps.{Laid}
use Rattle.leaf_node.specs.Fits.{All, Keyed, Fits}
use Rattle.leaf_node.proofs.Rules.{both}
use Rattle.leaf_node.proofs.Verdicts.{accepted_pages_are_the_good_ones}
use Rattle.leaf_node.proofs.Reading.{good_pages_are_laid}
use Rattle.leaf_node.proofs.Lengths.{run_append, body_is_pointers_and_values}
use Rattle.leaf_node.proofs.Laying.{starts_between, keys_have_32_bytes, values_size_is_a_difference, range_length}
use Rattle.leaf_node.proofs.RoundTrips.{records_of_a_good_page_fit}
use Rattle.leaf_builder.specs.Steps.{Begins, Chunk, Parts}
use Rattle.leaf_builder.specs.Rebuild.{rebuild_verdict, rebuild_leaves}
use Rattle.leaf_builder.proofs.Pushing.{length_started, length_pushed, pushes_join, pushing_all_records_builds_the_page}

-- two parts of a range
pub records_join : (p : List ℕ) (from mid to : ℕ) → from ≤ mid → mid ≤ to → records_between p from to ≡ records_between p from mid ++ records_between p mid to
unfolding records_between
records_join p from mid to h k =
    let a : to - from ≡ mid - from + (to - mid) = omega arith in
    let b : from + (mid - from) ≡ mid = omega arith in
    rw a (run_append (mid - from) (to - mid) from (record_at p) ∙ rw b)

module _ (p d : List ℕ) (from mid to : ℕ) (w : Parts p from mid to (length d)) where
  laid : Laid p (count p)
  laid = good_pages_are_laid (length d) p w.sized w.good

  pub parts_laid : (n : ℕ) → n ≡ count p → Laid p n
  parts_laid n e = rw e laid

  fits : Fits (length d) (records_between p from to)
  fits = records_of_a_good_page_fit (length d) p w.sized w.good from to (omega (arith, w.first, w.second)) w.there

  -- what the lent page has room for
  room : pointer (to - from) + (start p to - start p from) ≤ length d
  unfolding body_limit values_size
  room =
      omega (
        arith,
        fits.room,
        w.sized.least,
        body_is_pointers_and_values (records_between p from to),
        range_length p (count p) laid from to (omega (arith, w.first, w.second)) w.there,
        values_size_is_a_difference p (count p) laid from to (omega (arith, w.first, w.second)) w.there,
      )

  low : start p from ≤ start p mid
  low = starts_between p (count p) laid from mid w.first (omega (arith, w.second, w.there))

  high : start p mid ≤ start p to
  high = starts_between p (count p) laid mid to w.second w.there

  module _ (t : ℕ) (et : t ≡ values_size p from to) where
    size_is : t ≡ start p to - start p from
    size_is = et ∙ values_size_is_a_difference p (count p) laid from to (omega (arith, w.first, w.second)) w.there

    total_is : t ≡ total (records_between p from to)
    unfolding values_size
    total_is = et

    pub parts_begin : Begins (length d) (to - from) t
    parts_begin = record { room = omega (arith, room, size_is); count = omega (arith, room, w.sized.most) }

    module _ (first : ℕ) (x : List ℕ) (ef : first ≡ length d - t) (ex : x ≡ started d (to - from) t) where
      x_long : length x ≡ length d
      x_long = rw ex (length_started d (to - from) t (omega (arith, room, size_is)))

      pub parts_cells : Chunk p from mid (length x) 0 first
      parts_cells =
          record {
            laid = laid;
            order = w.first;
            there = omega (arith, w.second, w.there);
            room = omega (arith, room, size_is, w.first, w.second, low, high);
            fits = omega (arith, room, size_is, x_long, low, high);
            small = omega (arith, x_long, w.sized.most);
          }

      module _ (y : List ℕ) (next : ℕ) (ey : y ≡ pushed x 0 first (records_between p from mid)) (en : next ≡ first + (start p mid - start p from)) where
        mid_keyed : All Keyed (records_between p from mid)
        mid_keyed = keys_have_32_bytes p (count p) laid from mid w.first (omega (arith, w.second, w.there))

        mid_many : length (records_between p from mid) ≡ mid - from
        mid_many = range_length p (count p) laid from mid w.first (omega (arith, w.second, w.there))

        mid_sum : total (records_between p from mid) ≡ start p mid - start p from
        unfolding values_size
        mid_sum = values_size_is_a_difference p (count p) laid from mid w.first (omega (arith, w.second, w.there))

        end_sum : total (records_between p mid to) ≡ start p to - start p mid
        unfolding values_size
        end_sum = values_size_is_a_difference p (count p) laid mid to w.second w.there

        y_long : length y ≡ length d
        y_long =
            rw ey (length_pushed x 0 first mid_keyed (omega (arith, room, size_is, mid_many, w.second, low, high)) (omega (arith, room, size_is, x_long, mid_sum, low, high)) ∙ x_long)

        pub parts_chunk : Chunk p mid to (length y) (mid - from) next
        parts_chunk =
            record {
              laid = laid;
              order = w.second;
              there = w.there;
              room = omega (arith, room, size_is, w.first, w.second, low, high);
              fits = omega (arith, room, size_is, y_long, low, high);
              small = omega (arith, y_long, w.sized.most);
            }

        end_many : length (records_between p mid to) ≡ to - mid
        end_many = range_length p (count p) laid mid to w.second w.there

        pointers_room : pointer (0 + length (records_between p from mid) + length (records_between p mid to)) ≤ first
        pointers_room = rw (mid_many, end_many) (omega (arith, room, size_is, w.first, w.second))

        values_room : first + total (records_between p from mid) + total (records_between p mid to) ≤ length x
        values_room = rw (mid_sum, end_sum, x_long) (omega (arith, room, size_is, low, high))

        pub parts_built : (z : List ℕ) → z ≡ pushed y (mid - from) next (records_between p mid to) → z ≡ build (length d) (records_between p from to)
        parts_built z ez =
            let rs : List Record = records_between p from mid in
            let ss : List Record = records_between p mid to in
            let m = mid_many in
            let s = mid_sum in
            let all : length (records_between p from to) ≡ to - from = range_length p (count p) laid from to (omega (arith, w.first, w.second)) w.there in
            let n : mid - from ≡ 0 + length rs = omega arith in
            let a : next ≡ first + total rs = omega arith in
            let joined : pushed (pushed x 0 first rs) (0 + length rs) (first + total rs) ss ≡ pushed x 0 first (rs ++ ss) =
            pushes_join x 0 first rs ss mid_keyed (keys_have_32_bytes p (count p) laid mid to w.second w.there) pointers_room values_room in
            let parts : pushed y (mid - from) next ss ≡ pushed x 0 first (rs ++ ss) = rw (ey, n, a) joined in
            let whole : pushed x 0 first (rs ++ ss) ≡ build (length d) (records_between p from to) =
            rw (← (records_join p from mid to w.first w.second), ex, ef, total_is, ← all)
            (pushing_all_records_builds_the_page (length d) d (records_between p from to) refl fits) in
            ez ∙ parts ∙ whole

-- ---- the replies

module _ (size : ℕ) (p : List ℕ) (from mid to : ℕ) (v : ℕ) (e : v ≡ page_verdict size p) where
  pub rebuild_page : (m : ℕ) → (v ≡ 0 → ⊥) → v ≡ rebuild_verdict size p from mid to m
  unfolding rebuild_verdict
  rebuild_page m h = rw (← e) (simp (ne_eqb v 0 h))

  module _ (z : v ≡ 0) where
    pub rebuild_low : (m : ℕ) → mid < from → 10 ≡ rebuild_verdict size p from mid to m
    unfolding rebuild_verdict
    rebuild_low m h = rw (← e) (simp (eq-eqb v 0 z, lt-leb from mid h))

    module _ (h₁ : from ≤ mid) where
      pub rebuild_back : (m : ℕ) → to < mid → 10 ≡ rebuild_verdict size p from mid to m
      unfolding rebuild_verdict
      rebuild_back m h = rw (← e) (simp (eq-eqb v 0 z, le-leb from mid h₁, lt-leb mid to h))

      module _ (h₂ : mid ≤ to) (n : ℕ) (q : n ≡ count p) where
        pub rebuild_past : (m : ℕ) → n < to → 10 ≡ rebuild_verdict size p from mid to m
        unfolding rebuild_verdict
        rebuild_past m h = rw (← e) (simp (eq-eqb v 0 z, le-leb from mid h₁, le-leb mid to h₂, lt-leb to (count p) (omega arith)))

        module _ (h₃ : to ≤ n) where
          pub rebuild_short : (m : ℕ) → m < size → 17 ≡ rebuild_verdict size p from mid to m
          unfolding rebuild_verdict
          rebuild_short m h = rw (← e) (simp (eq-eqb v 0 z, le-leb from mid h₁, le-leb mid to h₂, le-leb to (count p) (omega arith), lt-leb size m h))

          pub rebuild_given : (m : ℕ) → size ≤ m → 0 ≡ rebuild_verdict size p from mid to m
          unfolding rebuild_verdict
          rebuild_given m h = rw (← e) (simp (eq-eqb v 0 z, le-leb from mid h₁, le-leb mid to h₂, le-leb to (count p) (omega arith), le-leb size m h))

-- a verdict of 0: every test was passed
passed : (v : ℕ) (t s : Bool) → cond (eqb v 0) (cond t (cond s 0 17) 10) v ≡ 0 → (v ≡ 0) × (t ≡ true) × (s ≡ true)
passed v t s e = go (eqb v 0) t s refl e
  where
    go : (b t s : Bool) → eqb v 0 ≡ b → cond b (cond t (cond s 0 17) 10) v ≡ 0 → (v ≡ 0) × (t ≡ true) × (s ≡ true)
    go true true true q e = (eqb-true v 0 q, refl, refl)
    go true true false q e = absurd (omega arith)
    go true false s q e = absurd (omega arith)
    go false t s q e = absurd (eqb-false v 0 q e)

module _ (size : ℕ) (p : List ℕ) (from mid to : ℕ) (held : List ℕ) (v : ℕ) (e : v ≡ rebuild_verdict size p from mid to (length held)) where
  -- a refused call leaves what it found
  pub rebuild_kept : (v ≡ 0 → ⊥) → held ≡ rebuild_leaves size p from mid to held
  unfolding rebuild_leaves
  rebuild_kept h = rw (← e) (simp (ne_eqb v 0 h))

  module _ (z : v ≡ 0) where
    all_passed : (page_verdict size p ≡ 0) × ((leb from mid && leb mid to && leb to (count p)) ≡ true) × (leb size (length held) ≡ true)
    unfolding rebuild_verdict
    all_passed = passed (page_verdict size p) (leb from mid && leb mid to && leb to (count p)) (leb size (length held)) (sym e ∙ z)

    pub rebuild_room : size ≤ length held
    rebuild_room = leb-true _ _ all_passed.2

    pub rebuild_zero : 0 ≡ rebuild_verdict size p from mid to (length held)
    rebuild_zero = sym z ∙ e

    front : length (take size held) ≡ size
    front = length-take-le size held rebuild_room

    pub rebuild_front : size ≡ length (take size held)
    rebuild_front = sym front

    pub rebuild_parts : PageSize size → Parts p from mid to (length (take size held))
    rebuild_parts s =
        let t = both (leb from mid && leb mid to) (leb to (count p)) all_passed.1 in
        let u = both (leb from mid) (leb mid to) t.0 in
        rw front (record {
          sized = s;
          good = (accepted_pages_are_the_good_ones size p).0 all_passed.0;
          first = leb-true _ _ u.0;
          second = leb-true _ _ u.1;
          there = leb-true _ _ t.1;
        })

    pub rebuild_leaves_lem : (x : List ℕ) → x ≡ build (length (take size held)) (records_between p from to) → x ++ drop size held ≡ rebuild_leaves size p from mid to held
    unfolding rebuild_leaves
    rebuild_leaves_lem x q = rw (← e, z, q, front)
