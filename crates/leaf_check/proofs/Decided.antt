-- Soundness as the code tests it is soundness as document 01 asks it. Assumes nothing.
use mathlib.Core.Path.{◌≡◌, refl, sym, ap, subst, ◌∙◌}
use mathlib.Core.Bool.{Bool, true, false, not, ◌&&◌, ◌||◌, false≢true, cond}
use mathlib.Core.Option.{Option}
use mathlib.Core.List.{List, [], ◌∷◌, ◌++◌, append-nil}
use Prim.Native.Nat.{ℕ, suc, ◌+◌, ◌-◌, ◌*◌, ◌≤◌, ◌<◌}
use native.Mathlib.Omega.{arith}
use native.Mathlib.Decide.{dec_lt}
use lib.Dec.{eqb, leb, ltb}
use lib.ListN.{length, take, drop, length-append, take-append-drop}
use lib.Seq.{length-take-le}
use borrow.Author.Tests.{eq-eqb, ne_eqb, eqb-true, lt-ltb, le-ltb, le-leb, lt-leb, leb-true}
use Rattle.std.specs.Prelude as std
use Rattle.std.specs.Prelude.{Some, None, option_and_then}
use Rattle.std.specs.Option.{option_map_or}
use Rattle.std.proofs.lemmas.Option.{cond_some, option_and_then_some}
use Rattle.bit_ops.specs.Key.{lt_key}
use Rattle.leaf_node.specs.Limits.{PageSize, value_limit, merge_below}
use Rattle.leaf_node.specs.Record.{Record, body, total}
use Rattle.leaf_node.specs.Page.{count, key_at, record_at, run, records_between, values_size}
use Rattle.leaf_node.proofs.Lengths.{length_run}
use Rattle.leaf_node.specs.Good.{Good, KeysRise}
use Rattle.leaf_node.specs.Fits.{All, nil, cons}
use Rattle.leaf_node.specs.Steps.{Laid}
use Rattle.leaf_node.proofs.Reading.{good_pages_are_laid}
use Rattle.leaf_node.proofs.RoundTrips.{records_of_a_good_page_are_proper, body_is_pointers_and_values}
use Rattle.leaf_model.specs.Basics.{nonempty}
use Rattle.leaf_model.specs.Work.{above_last, below_cutoff}
use Rattle.leaf_model.proofs.Tests.{and_left, and_right}
use Rattle.leaf_model.proofs.Lists.{all_map, all_both, all_head}
use Rattle.leaf_model.proofs.Keys.{test_of_le}
use Rattle.leaf_work.specs.declared.Work.{Work}
use Rattle.leaf_work.specs.declared.Entry.{Entry}
use Rattle.leaf_work.specs.Tests.{every, is_zero, is_set, bit}
use Rattle.leaf_work.specs.Lent.{cutoff_of, last_of, separator_of, an_insert}
use Rattle.leaf_work.specs.Pending.{listed_of, pending_of}
use Rattle.leaf_work.specs.Sound.{some_insert, lets_in, past_all, is_operation, is_blank, placed, known_turn, known_flags, last_below, cutoff_right, floor_above, floor_at_turn, absent_zero, roomy, risen, rest_above, gauged, bounded, override_right, waiting_right, done_right, sound}
use Rattle.leaf_work.proofs.Tests.{one_test, and_both, every_all, all_every}
use Rattle.leaf_work.proofs.Operations.{chunk_held, total_append}
use Rattle.leaf_work.proofs.Laid.{pending_parts}
use Rattle.leaf_work.proofs.Decoding.{Shape, insert, keep, shape, placed_head}
use Rattle.leaf_work.proofs.SoundMeans.{Clauses, clauses_of_a_sound_work, a_work_with_all_clauses_is_sound}
use Rattle.leaf_pass.specs.declared.Tally.{Tally}
use Rattle.leaf_pass.specs.declared.Bounds.{Bounds}
use Rattle.leaf_pass.specs.Pass.{is_behind, passed_all, begun}
use Rattle.leaf_check.specs.Settled.{Regardable, bounds_of, listed_right, waiting_fits, turn_right, room_for, rest_right, pass_right, record_right, within, entries_sound, sound_by}
use Rattle.leaf_check.proofs.Results.{no_page}
use Rattle.leaf_pass.proofs.Behind.{blanks_pass}
use Rattle.leaf_pass.proofs.Rises.{behind, rises, last_from, is_some, is_behind_lem, rises_left, rises_right, rises_append, last_append, between_rises, between_first, between_last, between_is, between_some, rise_of, at_or_above_of, rises_of, below_all, last_is_below, above_last_all, past_is}
use Rattle.leaf_pass.proofs.Walks.{Come, inserts_in, passed_append, walked, walk_is_the_pass, come, to_walk}

same_suc : (a b : ℕ) → eqb (suc a) (suc b) ≡ eqb a b
same_suc a b = one_test _ _ (λ h. eq-eqb a b (omega (arith, eqb-true (suc a) (suc b) h))) (λ h. eq-eqb (suc a) (suc b) (omega (arith, eqb-true a b h)))

inserts_few : (es : List Entry) → inserts_in es ≤ length es
inserts_few [] = omega arith
inserts_few (e ∷ es) = go (an_insert e) refl (inserts_few es)
  where
    go : (t : Bool) → an_insert e ≡ t → inserts_in es ≤ length es → inserts_in (e ∷ es) ≤ suc (length es)
    go true k h = rw (k, inserts_in) (omega arith)
    go false k h = rw (k, inserts_in) (omega arith)

some_inserts : (es : List Entry) → ltb 0 (inserts_in es) ≡ some_insert es
some_inserts [] = refl
some_inserts (e ∷ es) = go (an_insert e) refl (some_inserts es)
  where
    go : (t : Bool) → an_insert e ≡ t → ltb 0 (inserts_in es) ≡ some_insert es → ltb 0 (inserts_in (e ∷ es)) ≡ some_insert (e ∷ es)
    go true k h = rw (k, inserts_in, some_insert) (lt-ltb 0 (suc (inserts_in es)) (omega arith))
    go false k h = rw (k, inserts_in, some_insert) h

all_inserts : (es : List Entry) → eqb (inserts_in es) (length es) ≡ every an_insert es
all_inserts [] = refl
all_inserts (e ∷ es) = go (an_insert e) refl (all_inserts es)
  where
    go : (t : Bool) → an_insert e ≡ t → eqb (inserts_in es) (length es) ≡ every an_insert es → eqb (inserts_in (e ∷ es)) (length (e ∷ es)) ≡ every an_insert (e ∷ es)
    go true k h = rw (k, inserts_in, every) (same_suc (inserts_in es) (length es) ∙ h)
    go false k h = rw (k, inserts_in, every) (ne_eqb (inserts_in es) (suc (length es)) (λ q. omega (arith, q, inserts_few es)))

none_or_some : (n : ℕ) (xs : List Record) → n ≡ length xs → is_some n ≡ nonempty xs
none_or_some n [] e = rw e
none_or_some n (x ∷ xs) e = rw (e, ne_eqb (suc (length xs)) 0 (λ q. omega (arith, q)))

past_by : (w : Work) (s : List ℕ) (n : ℕ) (l : List ℕ) (xs : List Record) → n ≡ length xs → l ≡ last_from s xs → (is_zero n || not (lets_in w l)) ≡ past_all w xs
past_by w s n l [] e f = rw e
past_by w s n l (x ∷ xs) e f = rw (e, ne_eqb (suc (length xs)) 0 (λ q. omega (arith, q)), f) (sym (past_is w s x xs))

none_left : (n c l : ℕ) (xs ys : List Record) → n ≡ length xs → length ys ≡ c - l → (is_zero n && leb c l) ≡ not (nonempty (xs ++ ys))
none_left n c l (x ∷ xs) ys e f = rw (e, ne_eqb (suc (length xs)) 0 (λ q. omega (arith, q)))
none_left n c l [] [] e f = rw e (le-leb c l (omega (arith, f)))
none_left n c l [] (y ∷ ys) e f = rw e (lt-leb c l (omega (arith, f)))

-- values end at one place
ends_once : {low : ℕ} {p : List ℕ} (x y at : ℕ) {es : List Entry} → All (Shape low p) es → placed x at es ≡ true → placed y at es ≡ true → x ≡ y
ends_once x y at nil h k = sym (eqb-true at x h) ∙ eqb-true at y k
ends_once x y at (cons {xs = es} (insert from to key flag o) s) h k =
    ends_once x y to s (placed_head x at from to key (bit flag) es h).1 (placed_head y at from to key (bit flag) es k).1
ends_once x y at (cons (keep from to l m) s) h k = ends_once x y at s h k

-- ---- the base

module _ (size : ℕ) (q : PageSize size) (p : List ℕ) (g : Regardable size p) where
  with_records : 0 < count p → Good size p
  with_records h = elim (dec_lt 0 (length p)) [ yes l ↦ g.good l | no l ↦ absurd (omega (arith, l, h, no_page size p (omega (arith, l)))) ]

  pub base_laid : 0 < count p → Laid p (count p)
  base_laid h = good_pages_are_laid size p q (with_records h)

  base_rises : KeysRise p
  base_rises i h = (with_records (omega arith)).keys i h

  base_fitting : (from to : ℕ) → from ≤ to → to ≤ count p → All (λ r. leb (length r.value) (value_limit size) ≡ true) (records_between p from to)
  unfolding records_between run
  base_fitting from to o h = elim (dec_lt 0 (count p)) [
    | yes l ↦ all_map (λ r x. le-leb (length r.value) (value_limit size) x) (records_of_a_good_page_are_proper size p q (with_records l) from to o h).fitting
    | no l ↦ (let e : to - from ≡ 0 = omega (arith, l) in rw e nil)
  ]

-- ---- what the entries come to, as the clauses say it

module _ (size : ℕ) (q : PageSize size) (w : Work) (list : List Entry) (store p : List ℕ) (g : Regardable size p) where
  abbrev b : Bounds
  b = bounds_of size w

  abbrev es : List Entry
  es = take w.used list

  abbrev sep : List ℕ
  sep = separator_of w

  abbrev L : List Record
  L = listed_of w list store p

  abbrev R : List Record
  R = records_between p w.low (count p)

  pending_is : pending_of w list store p ≡ L ++ R
  pending_is = pending_parts w list store p ∙ ap (λ x. L ++ x) (chunk_held store p w.low (count p))

  rest_length : length R ≡ count p - w.low
  unfolding records_between
  rest_length = length_run (count p - w.low) w.low (record_at p)

  module _ (fits : w.filled ≤ length store) (low_in : w.low ≤ count p) (used_in : w.used ≤ length list) where
    abbrev ComeTo : Tally → Type 0
    ComeTo y = Come b p size refl store fits low_in (base_laid size q p g) (base_rises size q p g) (base_fitting size q p g) (begun sep) es y

    module _ (y : Tally) (c : ComeTo y) where
      count_is : y.count ≡ length L
      count_is = omega (arith, c.counted)

      bytes_is : y.bytes ≡ total L
      bytes_is = omega (arith, c.summed)

      some_is : is_some y.count ≡ nonempty L
      some_is = none_or_some y.count L count_is

      inserts_is : y.inserts ≡ inserts_in es
      inserts_is = omega (arith, c.inserted)

      used_is : length es ≡ w.used
      used_is = length-take-le w.used list used_in

      room_same : room_for w y p (length list) (length store) ≡ roomy size w list store p
      unfolding room_for values_size
      room_same = rw (pending_is, length-append L R, total_append L R, rest_length, count_is, bytes_is)

      gauge_same : (eqb w.count y.count && eqb w.bytes y.bytes) ≡ gauged size w list store p
      gauge_same = rw (count_is, bytes_is)

      past_same : (is_zero y.count || not (lets_in w y.last)) ≡ past_all w L
      past_same = past_by w sep y.count y.last L count_is c.latest

      over_same : ltb 0 y.inserts ≡ some_insert es
      over_same = rw inserts_is (some_inserts es)

      inserts_same : eqb y.inserts w.used ≡ every an_insert es
      inserts_same = (λ j. eqb (inserts_is j) (sym used_is j)) ∙ all_inserts es

      body_is : 34 * y.count + y.bytes ≡ body L
      body_is = omega (arith, count_is, bytes_is, body_is_pointers_and_values L)

      waiting_same : waiting_fits size w y ≡ (every an_insert es && (is_set w.over && (is_set w.cut && (ltb 0 (body L) && ltb (body L) (merge_below size)))))
      unfolding waiting_fits
      waiting_same = rw (inserts_same, body_is)

      done_same : (is_zero y.count && leb (count p) w.low) ≡ not (nonempty (pending_of w list store p))
      done_same = rw pending_is (none_left y.count (count p) w.low L R count_is rest_length)

      turn_same : turn_right size w y (count p) ≡ (override_right size w list store p && (waiting_right size w list store p && done_right size w list store p))
      unfolding turn_right
      turn_same = rw (over_same, waiting_same, done_same)

      -- keys

      record Ends : Type 0 where
        rising : rises false sep (L ++ R) ≡ true
        above : All (λ r. above_last (last_of w) r.key ≡ true) R
        below : All (λ r. below_cutoff (cutoff_of w) r.key ≡ true) (L ++ R)

      no_rest : count p ≤ w.low → R ≡ []
      unfolding records_between run
      no_rest h = let e : count p - w.low ≡ 0 = omega arith in rw e

      module _ (h : w.low < count p) where
        abbrev rise : KeysRise p
        rise = base_rises size q p g

        rest_some : rest_right w y p ≡ (is_behind y.count y.last (key_at p w.low) && (above_last (last_of w) (key_at p w.low) && below_cutoff (cutoff_of w) (key_at p (count p - 1))))
        unfolding rest_right
        rest_some = rw (lt-ltb w.low (count p) h, rest_right)

        last_is : last_from sep (L ++ R) ≡ key_at p (count p - 1)
        last_is = last_append sep L R ∙ between_last p rise w.low (count p) h (omega arith) (last_from sep L)

        ends_with_rest : rest_right w y p ≡ true → Ends
        unfolding record_at
        ends_with_rest t =
            let first = is_behind y.count y.last (key_at p w.low) in
            let t₁ : (first && (above_last (last_of w) (key_at p w.low) && below_cutoff (cutoff_of w) (key_at p (count p - 1)))) ≡ true = rw rest_some at t in
            let t₂ = and_right first _ t₁ in
            let near : behind (nonempty L) (last_from sep L) (key_at p w.low) ≡ true = rw (is_behind_lem y.count y.last (key_at p w.low), some_is, c.latest) at (and_left first _ t₁) in
            let tail = between_rises p rise w.low (count p) h (omega arith) (nonempty L) (last_from sep L) near in
            let all : rises false sep (L ++ R) ≡ true = rises_append false sep L R c.rising tail in
            record {
              rising = all;
              above = rw (between_is p rise w.low (count p) h (omega arith))
                  (above_last_all (last_of w) (nonempty L) (last_from sep L) (record_at p w.low) (run (count p - w.low - 1) (suc w.low) (record_at p))
                  (rw (between_is p rise w.low (count p) h (omega arith)) at tail) (and_left (above_last (last_of w) (key_at p w.low)) _ t₂));
              below = below_all false sep (cutoff_of w) (L ++ R) all (rw last_is (and_right (above_last (last_of w) (key_at p w.low)) _ t₂));
            }

        rest_from_ends : Ends → rest_right w y p ≡ true
        unfolding record_at
        rest_from_ends e =
            let near = between_first p rise w.low (count p) h (omega arith) (nonempty L) (last_from sep L) (rises_right false sep L R e.rising) in
            let near₁ : is_behind y.count y.last (key_at p w.low) ≡ true = rw (is_behind_lem y.count y.last (key_at p w.low), some_is, c.latest) near in
            let first : above_last (last_of w) (key_at p w.low) ≡ true = all_head (rw (between_is p rise w.low (count p) h (omega arith)) at e.above) in
            let last : below_cutoff (cutoff_of w) (key_at p (count p - 1)) ≡ true = rw (← last_is) (last_of_lem (cutoff_of w) L R (rest_is_some) e.below) in
            rest_some ∙ and_both near₁ (and_both first last)
          where
            rest_is_some : nonempty R ≡ true
            rest_is_some = between_some p rise w.low (count p) h (omega arith)

            last_of_lem : (o : Option (List ℕ)) (xs ys : List Record) → nonempty ys ≡ true → All (λ r. below_cutoff o r.key ≡ true) (xs ++ ys) → below_cutoff o (last_from sep (xs ++ ys)) ≡ true
            last_of_lem o [] (z ∷ ys) n a = last_is_below sep o z ys a
            last_of_lem o [] [] n a = absurd (false≢true n)
            last_of_lem o (x ∷ xs) ys n a = last_is_below sep o x (xs ++ ys) a

      module _ (h : count p ≤ w.low) where
        rest_none : rest_right w y p ≡ (is_zero y.count || below_cutoff (cutoff_of w) y.last)
        unfolding rest_right
        rest_none = rw (le-ltb w.low (count p) h, rest_right)

        listed_alone : L ++ R ≡ L
        listed_alone = rw (no_rest h) (append-nil L)

        below_by : (xs : List Record) (n : ℕ) → n ≡ length xs → rises false sep xs ≡ true → (is_zero n || below_cutoff (cutoff_of w) (last_from sep xs)) ≡ true
            → All (λ r. below_cutoff (cutoff_of w) r.key ≡ true) xs
        below_by [] n e r t = nil
        below_by (x ∷ xs) n e r t = below_all false sep (cutoff_of w) (x ∷ xs) r (rw (e, ne_eqb (suc (length xs)) 0 (λ k. omega (arith, k))) at t)

        by_below : (xs : List Record) (n : ℕ) → n ≡ length xs → All (λ r. below_cutoff (cutoff_of w) r.key ≡ true) xs → (is_zero n || below_cutoff (cutoff_of w) (last_from sep xs)) ≡ true
        by_below [] n e a = rw e
        by_below (x ∷ xs) n e a = rw (e, ne_eqb (suc (length xs)) 0 (λ k. omega (arith, k))) (last_is_below sep (cutoff_of w) x xs a)

        ends_without_rest : rest_right w y p ≡ true → Ends
        ends_without_rest t =
            let t₁ : (is_zero y.count || below_cutoff (cutoff_of w) (last_from sep L)) ≡ true = rw (rest_none, c.latest) at t in
            record {
              rising = rw listed_alone c.rising;
              above = rw (no_rest h) nil;
              below = rw listed_alone (below_by L y.count count_is c.rising t₁);
            }

        rest_from_ends_without : Ends → rest_right w y p ≡ true
        rest_from_ends_without e = rest_none ∙ rw c.latest (by_below L y.count count_is (rw listed_alone at e.below))

      ends_of : rest_right w y p ≡ true → Ends
      ends_of t = elim (dec_lt w.low (count p)) [ yes l ↦ ends_with_rest l t | no l ↦ ends_without_rest (omega (arith, l)) t ]

      rest_of : Ends → rest_right w y p ≡ true
      rest_of e = elim (dec_lt w.low (count p)) [ yes l ↦ rest_from_ends l e | no l ↦ rest_from_ends_without (omega (arith, l)) e ]

      -- the clauses on keys

      keys_rise_lem : Ends → risen size w list store p ≡ true
      keys_rise_lem e = rw pending_is (rise_of sep (L ++ R) e.rising)

      rest_above_lem : Ends → rest_above size w list store p ≡ true
      rest_above_lem e = rw (chunk_held store p w.low (count p)) (all_every (λ r. above_last (last_of w) r.key) e.above)

      keys_bounded : Ends → bounded size w list store p ≡ true
      keys_bounded e =
          rw pending_is
          (all_every (λ r. not (lt_key r.key sep) && below_cutoff (cutoff_of w) r.key)
          (all_map (λ r x. and_both {a = not (lt_key r.key sep)} (rw (test_of_le sep r.key x.0)) x.1) (all_both (at_or_above_of sep (L ++ R) e.rising) e.below)))

      ends_of_clauses : Clauses size w list store p → Ends
      ends_of_clauses k =
          let bounds = every_all (λ r. not (lt_key r.key sep) && below_cutoff (cutoff_of w) r.key) (L ++ R) (rw pending_is at k.keys_bounded) in
          record {
            rising = rises_of sep (L ++ R) (rw pending_is at k.keys_rise_lem) (all_map (λ r x. and_left (not (lt_key r.key sep)) _ x) bounds);
            above = every_all (λ r. above_last (last_of w) r.key) R (rw (chunk_held store p w.low (count p)) at k.rest_above_lem);
            below = all_map (λ r x. and_right (not (lt_key r.key sep)) (below_cutoff (cutoff_of w) r.key) x) bounds;
          }

      -- all of it, with what the entries come to

      module _ (blanks : every is_blank (drop w.used list) ≡ true) (zeros : every is_zero (drop w.filled store) ≡ true) (record-right : record_right w ≡ true) where
        clauses : pass_right size w y p (length list) (length store) ≡ true → Clauses size w list store p
        unfolding pass_right listed_right record_right
        clauses h =
            let listed = listed_right w y in
            let turn = turn_right size w y (count p) in
            let room = room_for w y p (length list) (length store) in
            let h₁ = and_right listed (turn && (room && rest_right w y p)) h in
            let h₂ = and_right turn (room && rest_right w y p) h₁ in
            let ends = ends_of (and_right room (rest_right w y p) h₂) in
            let past = is_zero y.count || not (lets_in w y.last) in
            let l₀ = and_left listed (turn && (room && rest_right w y p)) h in
            let l₁ = and_right (eqb w.filled y.end) (eqb w.count y.count && (eqb w.bytes y.bytes && past)) l₀ in
            let l₂ = and_right (eqb w.count y.count) (eqb w.bytes y.bytes && past) l₁ in
            let filled : w.filled ≡ y.end = eqb-true _ _ (and_left (eqb w.filled y.end) _ l₀) in
            let gauge : gauged size w list store p ≡ true = rw (← gauge_same) (and_both (and_left (eqb w.count y.count) _ l₁) (and_left (eqb w.bytes y.bytes) past l₂)) in
            let t₀ : (override_right size w list store p && (waiting_right size w list store p && done_right size w list store p)) ≡ true = rw (← turn_same) (and_left turn _ h₁) in
            let t₁ = and_right (override_right size w list store p) (waiting_right size w list store p && done_right size w list store p) t₀ in
            let marks = known_turn w && (known_flags w && (last_below w && cutoff_right w)) in
            let floors = floor_above w && floor_at_turn w in
            let m₀ = and_left marks (floors && absent_zero w) record-right in
            let m₁ = and_right (known_turn w) (known_flags w && (last_below w && cutoff_right w)) m₀ in
            let m₂ = and_right (known_flags w) (last_below w && cutoff_right w) m₁ in
            let f₀ = and_right marks (floors && absent_zero w) record-right in
            let f₁ = and_left floors (absent_zero w) f₀ in
            record {
              known_turn_lem = and_left (known_turn w) _ m₀;
              known_flags_lem = and_left (known_flags w) _ m₁;
              operations_right = and_both (le-leb w.used (length list) used_in) (and_both c.ops blanks);
              store_right = and_both (le-leb w.filled (length store) fits) (and_both (placed_to filled) zeros);
              room_right_lem = rw (← room_same) (and_left room _ h₂);
              keys_rise_lem = keys_rise_lem ends;
              rest_above_lem = rest_above_lem ends;
              listed_past_lem = rw (← past_same) (and_right (eqb w.bytes y.bytes) past l₂);
              passed_part_lem = le-leb w.low (count p) low_in;
              listed_fitting = all_every (λ r. leb (length r.value) (value_limit size)) c.fitting;
              gauge_right = gauge;
              keys_bounded = keys_bounded ends;
              last_below_lem = and_left (last_below w) (cutoff_right w) m₂;
              cutoff_right_lem = and_right (last_below w) (cutoff_right w) m₂;
              override_right_lem = and_left (override_right size w list store p) _ t₀;
              waiting_right_lem = and_left (waiting_right size w list store p) (done_right size w list store p) t₁;
              done_right_lem = and_right (waiting_right size w list store p) (done_right size w list store p) t₁;
              floor_above_lem = and_left (floor_above w) (floor_at_turn w) f₁;
              floor_at_turn_lem = and_right (floor_above w) (floor_at_turn w) f₁;
              absent_zero_lem = and_right floors (absent_zero w) f₀;
            }
          where
            placed_to : w.filled ≡ y.end → placed w.filled 0 es ≡ true
            placed_to e = subst (λ (n : ℕ). placed n 0 es ≡ true) (sym e) c.ends

      pass_right_of : w.filled ≡ y.end → Clauses size w list store p → pass_right size w y p (length list) (length store) ≡ true
      unfolding pass_right listed_right
      pass_right_of e k =
          let gauge : (eqb w.count y.count && eqb w.bytes y.bytes) ≡ true = rw gauge_same k.gauge_right in
          let past : (is_zero y.count || not (lets_in w y.last)) ≡ true = rw past_same k.listed_past_lem in
          let turn : turn_right size w y (count p) ≡ true = rw turn_same (and_both k.override_right_lem (and_both k.waiting_right_lem k.done_right_lem)) in
          let room : room_for w y p (length list) (length store) ≡ true = rw room_same k.room_right_lem in
          and_both
          (and_both (eq-eqb w.filled y.end e)
          (and_both (and_left (eqb w.count y.count) _ gauge) (and_both (and_right (eqb w.count y.count) (eqb w.bytes y.bytes) gauge) past)))
          (and_both turn (and_both room (rest_of (ends_of_clauses k))))

  -- ---- both ways

  abbrev whole : std.Option Tally
  whole = passed_all b p (begun sep) list

  the_whole : whole ≡ option_and_then (λ y. passed_all b p y (drop w.used list)) (passed_all b p (begun sep) es)
  the_whole = ap (λ (xs : List Entry). passed_all b p (begun sep) xs) (sym (take-append-drop w.used list)) ∙ passed_append b p (begun sep) es (drop w.used list)

  abbrev settled : std.Option Tally → Bool
  settled o = option_map_or (λ z. pass_right size w z p (length list) (length store)) o false

  settled_by : (o : std.Option Tally) → settled o ≡ true → (z : Tally) × (o ≡ Some z) × (pass_right size w z p (length list) (length store) ≡ true)
  settled_by None h = absurd (false≢true h)
  settled_by (Some z) h = (z, refl, h)

  by_clauses : sound_by size w list store p ≡ true → Clauses size w list store p
  unfolding sound_by entries_sound
  by_clauses h =
      let inside = within w (length list) (length store) (count p) in
      let clear = every is_zero (drop w.filled store) in
      let h₁ = and_right (record_right w) (inside && (clear && settled whole)) h in
      let h₂ = and_right inside (clear && settled whole) h₁ in
      let i₀ = and_left inside (clear && settled whole) h₁ in
      let i₁ = and_right (leb w.used (length list)) (leb w.filled (length store) && leb w.low (count p)) i₀ in
      let end = settled_by whole (and_right clear (settled whole) h₂) in
      from_pass (leb-true _ _ (and_left (leb w.used (length list)) _ i₀)) (leb-true _ _ (and_left (leb w.filled (length store)) _ i₁))
      (leb-true _ _ (and_right (leb w.filled (length store)) (leb w.low (count p)) i₁)) (and_left (record_right w) _ h) (and_left clear _ h₂) end.0 end.1 end.2
    where
      from_pass : w.used ≤ length list → w.filled ≤ length store → w.low ≤ count p → record_right w ≡ true → every is_zero (drop w.filled store) ≡ true
          → (z : Tally) → whole ≡ Some z → pass_right size w z p (length list) (length store) ≡ true → Clauses size w list store p
      from_pass used_in fits low_in r zs z wr st =
          option_and_then_some (λ y. passed_all b p y (drop w.used list)) (passed_all b p (begun sep) es) z (sym the_whole ∙ wr) (λ y first others.
          let long : length es ≡ w.used = length-take-le w.used list used_in in
          let walk = walked b p (begun sep) y es (omega (arith, long)) first in
          let c : ComeTo fits low_in used_in y = come b p size refl store fits low_in (base_laid size q p g) (base_rises size q p g) (base_fitting size q p g) walk in
          let bl = cond_some (every is_blank (drop w.used list)) y z (sym (blanks_pass b p y (omega (arith, c.seen, long)) (drop w.used list)) ∙ others) in
          clauses fits low_in used_in y c bl.0 zs r (subst (λ (x : Tally). pass_right size w x p (length list) (length store) ≡ true) (sym bl.1) st))

  by_pass : Clauses size w list store p → sound_by size w list store p ≡ true
  unfolding sound_by entries_sound record_right
  by_pass k =
      let used_in : w.used ≤ length list = leb-true _ _ (and_left (leb w.used (length list)) _ k.operations_right) in
      let ops = and_right (leb w.used (length list)) (every (is_operation w.low p) es && every is_blank (drop w.used list)) k.operations_right in
      let fits : w.filled ≤ length store = leb-true _ _ (and_left (leb w.filled (length store)) _ k.store_right) in
      let laid = and_right (leb w.filled (length store)) (placed w.filled 0 es && every is_zero (drop w.filled store)) k.store_right in
      let low_in : w.low ≤ count p = leb-true _ _ k.passed_part_lem in
      let blanks = and_right (every (is_operation w.low p) es) (every is_blank (drop w.used list)) ops in
      let shapes = all_map (shape w.low p) (every_all (is_operation w.low p) es (and_left (every (is_operation w.low p) es) _ ops)) in
      let fitting = every_all (λ r. leb (length r.value) (value_limit size)) L k.listed_fitting in
      let rising : rises false sep L ≡ true =
      rises_left false sep L R
      (rises_of sep (L ++ R) (rw pending_is at k.keys_rise_lem)
      (all_map (λ r x. and_left (not (lt_key r.key sep)) _ x) (every_all (λ r. not (lt_key r.key sep) && below_cutoff (cutoff_of w) r.key) (L ++ R) (rw pending_is at k.keys_bounded)))) in
      let found = to_walk b p size refl store fits low_in (base_laid size q p g) (base_rises size q p g) (base_fitting size q p g) (begun sep) shapes (and_left (placed w.filled 0 es) _ laid) fitting rising in
      let long : length es ≡ w.used = length-take-le w.used list used_in in
      let c : ComeTo fits low_in used_in found.0 = come b p size refl store fits low_in (base_laid size q p g) (base_rises size q p g) (base_fitting size q p g) found.1 in
      let is : passed_all b p (begun sep) es ≡ Some found.0 = walk_is_the_pass b p found.1 (omega (arith, long)) in
      let same : whole ≡ Some found.0 =
      the_whole ∙ ap (option_and_then (λ y. passed_all b p y (drop w.used list))) is ∙ blanks_pass b p found.0 (omega (arith, c.seen, long)) (drop w.used list) ∙ ap (λ (t : Bool). cond t (Some found.0) None) blanks in
      let filled : w.filled ≡ found.0.end = ends_once w.filled found.0.end 0 shapes (and_left (placed w.filled 0 es) _ laid) c.ends in
      let marks = and_both k.known_turn_lem (and_both k.known_flags_lem (and_both k.last_below_lem k.cutoff_right_lem)) in
      and_both (and_both marks (and_both (and_both k.floor_above_lem k.floor_at_turn_lem) k.absent_zero_lem))
      (and_both (and_both (le-leb w.used (length list) used_in) (and_both (le-leb w.filled (length store) fits) (le-leb w.low (count p) low_in)))
      (and_both (and_right (placed w.filled 0 es) (every is_zero (drop w.filled store)) laid) (ap settled same ∙ pass_right_of fits low_in used_in found.0 c filled k)))

  pub the_pass_decides : sound_by size w list store p ≡ sound size w list store p
  the_pass_decides =
      one_test _ _ (λ h. a_work_with_all_clauses_is_sound size w list store p (by_clauses h)) (λ h. by_pass (clauses_of_a_sound_work size w list store p h))
