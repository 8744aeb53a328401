-- What a key takes up of the base: where the search stops, and what it drops. Assumes nothing.
use mathlib.Core.Path.{◌≡◌, sym, ap, ◌∙◌}
use mathlib.Core.Bool.{true, false, true≢false, false≢true}
use mathlib.Core.List.{List}
use Prim.Native.Nat.{ℕ, ◌+◌, ◌-◌, ◌≤◌, ◌<◌}
use native.Mathlib.Omega.{arith}
use borrow.Author.Tests.{le-ltb}
use Rattle.std.specs.Prelude.{Result, Ok, Err}
use Rattle.leaf_node.specs.Record.{total}
use Rattle.leaf_node.specs.Page.{count, run, records_between, values_size}
use Rattle.leaf_node.specs.Search.{place_from, search_of, place_index, is_found}
use Rattle.leaf_node.specs.Steps.{Readable, Laid, Counted}
use Rattle.leaf_work.specs.declared.Work.{Work}
use Rattle.leaf_work.specs.TakingUp.{stop, drops}
use Rattle.leaf_work.proofs.Searching.{stop_is, drops_is, Split, the_search_splits_the_rest}
use Rattle.leaf_ingest.specs.declared.Kept.{Kept}
use Rattle.leaf_ingest.specs.Steps.{Base, KeptAt, Taken}

empty_range : (page : List ℕ) (from to : ℕ) → to ≤ from → values_size page from to ≡ 0
unfolding values_size records_between run total
empty_range page from to h = let e : to - from ≡ 0 = omega arith in rw e

module _ (w : Work) (page k : List ℕ) (n : ℕ) (b : Base w page n) (q : Counted page n) where
  split : Split w page k
  split = the_search_splits_the_rest w page k (omega (arith, b.low_in, q.counted))

  -- ---- nothing is left of the base

  module _ (h : n ≤ w.low) where
    none_left : count page - w.low ≡ 0
    none_left = omega (arith, q.counted)

    stopped : stop w page k ≡ w.low
    unfolding place_from
    stopped = stop_is w page k ∙ rw none_left

    undropped : drops w page k ≡ false
    undropped = drops_is w page k ∙ rw (← stop_is w page k, le-ltb (stop w page k) (count page) (omega (arith, stopped, q.counted)))

    pub an_end_keeps_nothing : Taken w page k (record { stop = w.low; dropped = false; low = w.low; taken = 0; rest = 0 })
    an_end_keeps_nothing =
        record {
          stop_is = sym stopped;
          dropped_is = sym undropped;
          low_is = rw (stopped, undropped) (omega arith);
          taken_is = rw stopped (sym (empty_range page w.low w.low (omega arith)));
          rest_is = rw (stopped, undropped) (sym (empty_range page (w.low + 0) (count page) (omega (arith, q.counted))));
          from = omega arith;
          to = omega arith;
          upto = omega (arith, q.counted, b.low_in);
          taken_few = omega arith;
          rest_few = omega arith;
          readable = λ (e : false ≡ true). absurd (false≢true e);
        }

  -- ---- the base has a rest

  module _ (h : w.low < n) where
    module _ (s : Result ℕ ℕ) (e : s ≡ search_of page w.low k) (i : ℕ) where
      module _ (f : s ≡ Ok i) where
        hit : (drops w page k ≡ true) × (stop w page k ≡ i)
        unfolding drops stop
        hit = (ap is_found (sym e ∙ f), ap place_index (sym e ∙ f))

        pub a_found_key_is_no_earlier : w.low ≤ i
        a_found_key_is_no_earlier = omega (arith, split.from, hit.1)

        pub a_found_key_is_there : i + 1 ≤ n
        a_found_key_is_there = let u = rw (hit.0, hit.1) at split.upto in omega (arith, u, q.counted)

        a_found_key_is_readable : Readable page i
        a_found_key_is_readable =
            let laid : Laid page n = q.laid (omega arith) in
            record { inside = rw (← q.counted) laid.inside; there = omega (arith, a_found_key_is_there, q.counted); step = laid.steps i (omega (arith, a_found_key_is_there)) }

        pub an_equal_record_is_dropped : (z : Kept) → KeptAt page n w.low i true z → Taken w page k z
        an_equal_record_is_dropped z kept =
            record {
              stop_is = rw hit.1 kept.stop_is;
              dropped_is = rw hit.0 kept.dropped_is;
              low_is = rw (hit.0, hit.1) kept.low_is;
              taken_is = rw hit.1 kept.taken_is;
              rest_is = rw (hit.0, hit.1, ← q.counted) kept.rest_is;
              from = omega (arith, kept.stop_is, a_found_key_is_no_earlier);
              to = omega (arith, kept.stop_is, kept.low_is);
              upto = omega (arith, kept.low_is, a_found_key_is_there, q.counted);
              taken_few = omega (arith, kept.taken_few, q.short);
              rest_few = omega (arith, kept.rest_few, q.short);
              readable = λ _. rw kept.stop_is a_found_key_is_readable;
            }

      module _ (f : s ≡ Err i) where
        miss : (drops w page k ≡ false) × (stop w page k ≡ i)
        unfolding drops stop
        miss = (ap is_found (sym e ∙ f), ap place_index (sym e ∙ f))

        pub an_absent_key_is_no_earlier : w.low ≤ i
        an_absent_key_is_no_earlier = omega (arith, split.from, miss.1)

        pub an_absent_key_is_within : i + 0 ≤ n
        an_absent_key_is_within = let u = rw (miss.0, miss.1) at split.upto in omega (arith, u, q.counted)

        pub no_record_is_dropped : (z : Kept) → KeptAt page n w.low i false z → Taken w page k z
        no_record_is_dropped z kept =
            record {
              stop_is = rw miss.1 kept.stop_is;
              dropped_is = rw miss.0 kept.dropped_is;
              low_is = rw (miss.0, miss.1) kept.low_is;
              taken_is = rw miss.1 kept.taken_is;
              rest_is = rw (miss.0, miss.1, ← q.counted) kept.rest_is;
              from = omega (arith, kept.stop_is, an_absent_key_is_no_earlier);
              to = omega (arith, kept.stop_is, kept.low_is);
              upto = omega (arith, kept.low_is, an_absent_key_is_within, q.counted);
              taken_few = omega (arith, kept.taken_few, q.short);
              rest_few = omega (arith, kept.rest_few, q.short);
              readable = λ g. absurd (true≢false (sym g ∙ kept.dropped_is));
            }
