-- Next base and cutoff removal: their number, test after test, and what they leave. Assumes nothing.
use mathlib.Core.Path.{◌≡◌, refl, sym, ap, ◌∙◌}
use mathlib.Core.Bool.{Bool, true, false, not, ◌&&◌}
use mathlib.Core.Option.{Option}
use mathlib.Core.List.{List, []}
use Prim.Native.Nat.{ℕ, ◌+◌, ◌-◌, ◌≤◌, ◌<◌}
use native.Mathlib.Omega.{arith}
use lib.Dec.{leb}
use lib.ListN.{length}
use borrow.Author.Tests.{eq-eqb, ne_eqb, le-leb, lt-leb, leb-true, not-true, not-false}
use Rattle.std.specs.Prelude as std
use Rattle.std.specs.Borrow.{Bor}
use Rattle.std.specs.Option.{is_some}
use Rattle.bit_ops.specs.Key.{lt_key}
use Rattle.leaf_node.specs.Limits.{PageSize, record_limit}
use Rattle.leaf_node.specs.Record.{total}
use Rattle.leaf_node.specs.Page.{count, record_at, records_between, records, values_size}
use Rattle.leaf_node.specs.Good.{Good}
use Rattle.leaf_node.specs.Steps.{Laid}
use Rattle.leaf_node.proofs.Lengths.{length_run}
use Rattle.leaf_node.proofs.Reading.{good_pages_are_laid}
use Rattle.leaf_model.proofs.Tests.{and_left, and_right}
use Rattle.leaf_work.specs.declared.Work.{Work}
use Rattle.leaf_work.specs.declared.Entry.{Entry}
use Rattle.leaf_work.specs.Tests.{key_if, lent_key}
use Rattle.leaf_work.specs.Lent.{most_entries, most_store_bytes, room_right, is_open, is_waiting}
use Rattle.leaf_work.specs.Sound.{sound}
use Rattle.leaf_work.specs.Verdict.{unless, first, base_verdict, closed_verdict, follows_verdict, next_base_verdict, remove_verdict}
use Rattle.leaf_work.specs.Outcome.{reply_number, Changed, changed_by, next_base_work, next_base_of, remove_work, remove_cutoff_of}
use Rattle.leaf_work.proofs.Tests.{passed}
use Rattle.leaf_work.proofs.BasePages.{base_page_is_good}
use Rattle.leaf_base.proofs.Bases.{first_refused}
use Rattle.leaf_open.specs.Opening.{key_or_zeros}

-- ---- room, turn and soundness

module _ (size : ℕ) (list : List Entry) (store : List ℕ) (t : Bool) (q : t ≡ room_right size (length list) (length store)) (w : Work) where
  pub wrong_room_comes_first : not t ≡ true → 7 ≡ closed_verdict size w list store 0
  wrong_room_comes_first h = rw (← q, not-true t h)

  module _ (n : not t ≡ false) where
    pub an_open_work_is_out_of_turn : w.turn ≡ 1 → 9 ≡ closed_verdict size w list store 0
    an_open_work_is_out_of_turn e = rw (← q, not-false t n, eq-eqb w.turn 1 e)

    module _ (ne : w.turn ≡ 1 → ⊥) (b : Bool) (d : b ≡ sound size w list store []) where
      pub an_unsound_work_is_refused : not b ≡ true → 8 ≡ closed_verdict size w list store 0
      an_unsound_work_is_refused h = rw (← q, not-false t n, ne_eqb w.turn 1 ne, ← d, not-true b h)

      pub a_sound_work_passes : not b ≡ false → 0 ≡ closed_verdict size w list store 0
      a_sound_work_passes h = rw (← q, not-false t n, ne_eqb w.turn 1 ne, ← d, not-false b h)

-- ---- a page that follows

module _ (w : Work) (p s : List ℕ) (entries bytes : ℕ) where
  pub no_cutoff_is_out_of_turn : w.cut ≡ 0 → 9 ≡ follows_verdict w p s entries bytes
  no_cutoff_is_out_of_turn e = rw (eq-eqb w.cut 0 e)

  module _ (cut : w.cut ≡ 0 → ⊥) (t : Bool) (q : t ≡ lt_key s w.cutoff) where
    pub a_low_separator_has_number_13 : t ≡ true → 13 ≡ follows_verdict w p s entries bytes
    a_low_separator_has_number_13 h = rw (ne_eqb w.cut 0 cut, ← q, h)

    module _ (h : t ≡ false) (n : ℕ) (e : n ≡ count p) (few : n ≤ entries) where
      record_count : length (records p) ≡ n
      unfolding records records_between
      record_count = length_run (count p - 0) 0 (record_at p) ∙ omega arith

      pub a_full_list_has_number_15 : entries - n < w.count → 15 ≡ follows_verdict w p s entries bytes
      a_full_list_has_number_15 l =
          rw (ne_eqb w.cut 0 cut, ← q, h, lt-leb (w.count + length (records p)) entries (omega (arith, record_count)))

      module _ (l : w.count ≤ entries - n) (b : ℕ) (v : b ≡ values_size p 0 n) (m : b ≤ length p) (short : length p ≤ bytes) where
        value_bytes : total (records p) ≡ b
        unfolding records values_size
        value_bytes = sym (rw (← e) v)

        pub a_full_store_has_number_16 : bytes - b < w.bytes → 16 ≡ follows_verdict w p s entries bytes
        a_full_store_has_number_16 g =
            rw (
              ne_eqb w.cut 0 cut,
              ← q,
              h,
              le-leb (w.count + length (records p)) entries (omega (arith, record_count)),
              lt-leb (w.bytes + total (records p)) bytes (omega (arith, value_bytes)),
            )

        pub what_has_room_follows : w.bytes ≤ bytes - b → 0 ≡ follows_verdict w p s entries bytes
        what_has_room_follows g =
            rw (
              ne_eqb w.cut 0 cut,
              ← q,
              h,
              le-leb (w.count + length (records p)) entries (omega (arith, record_count)),
              le-leb (w.bytes + total (records p)) bytes (omega (arith, value_bytes)),
            )

-- ---- the numbers of the two calls, by their steps

a_lent_key : (c : std.Option (Bor (List ℕ))) → key_if (is_some c) (key_or_zeros c) ≡ lent_key c
a_lent_key (std.Some k) = refl
a_lent_key std.None = refl

three_rows : (a b c : Bool) (v : ℕ) → unless 7 a (unless 9 b (unless 8 c v)) ≡ first (unless 7 a (unless 9 b (unless 8 c 0))) v
three_rows true true true v = refl
three_rows true true false v = refl
three_rows true false c v = refl
three_rows false b c v = refl

module _ (size : ℕ) (w : Work) (list : List Entry) (store : List ℕ) where
  pub next_base_by_steps : (p s : List ℕ) (c : Option (List ℕ))
      → next_base_verdict size w list store p s c ≡ first (base_verdict size p s c) (first (closed_verdict size w list store 0) (follows_verdict w p s (length list) (length store)))
  unfolding next_base_verdict
  next_base_by_steps p s c =
      ap (first (base_verdict size p s c)) (three_rows (room_right size (length list) (length store)) (not (is_open w)) (sound size w list store []) _)

  pub remove_by_steps : remove_verdict size w list store ≡ first (closed_verdict size w list store 0) (unless 9 (is_waiting w) 0)
  unfolding remove_verdict
  remove_by_steps = three_rows (room_right size (length list) (length store)) (not (is_open w)) (sound size w list store []) _

  pub closed_room : closed_verdict size w list store 0 ≡ 0 → room_right size (length list) (length store) ≡ true
  closed_room z = (passed 6 (room_right size (length list) (length store)) _ z).0

module _ (size : ℕ) (w : Work) (list : List Entry) (store : List ℕ) (p s : List ℕ) (c : Option (List ℕ)) (a : ℕ) (e : a ≡ base_verdict size p s c) where
  pub the_new_base_comes_first : (a ≡ 0 → ⊥) → a ≡ next_base_verdict size w list store p s c
  the_new_base_comes_first h = rw (next_base_by_steps size w list store p s c, ← e) (sym (first_refused a _ h))

  module _ (z : a ≡ 0) (v : ℕ) (f : v ≡ closed_verdict size w list store 0) where
    next : next_base_verdict size w list store p s c ≡ first v (follows_verdict w p s (length list) (length store))
    next = next_base_by_steps size w list store p s c ∙ rw (← e, z, ← f)

    pub the_work_comes_before_what_follows : (v ≡ 0 → ⊥) → v ≡ next_base_verdict size w list store p s c
    the_work_comes_before_what_follows h = rw next (sym (first_refused v _ h))

    module _ (y : v ≡ 0) (entries bytes : ℕ) (i : entries ≡ length list) (j : bytes ≡ length store) where
      pub then_the_page_decides : (r : ℕ) → r ≡ follows_verdict w p s entries bytes → r ≡ next_base_verdict size w list store p s c
      then_the_page_decides r g = rw (next, y, ← i, ← j) g

      -- what the tests of the page that follows require
      pub a_new_base_has_room : PageSize size → Laid p (count p) × (count p ≤ entries) × (length p ≤ bytes)
      a_new_base_has_room q =
          let good : Good size p = base_page_is_good size q p s c (sym e ∙ z) in
          let room : room_right size (length list) (length store) ≡ true = closed_room size w list store (sym f ∙ y) in
          let many : record_limit size + 1 ≤ length list =
          leb-true (record_limit size + 1) (length list) (and_left _ (leb (length list) most_entries) (and_left _ (leb size (length store)) (and_left _ (leb (length store) most_store_bytes) room))) in
          let long : size ≤ length store =
          leb-true size (length store) (and_right (leb (record_limit size + 1) (length list) && leb (length list) most_entries) _ (and_left _ (leb (length store) most_store_bytes) room)) in
          (good_pages_are_laid size p q good, omega (arith, good.few), omega (arith, good.sized))

module _ (size : ℕ) (w : Work) (list : List Entry) (store : List ℕ) (v : ℕ) (e : v ≡ closed_verdict size w list store 0) where
  pub the_work_comes_before_the_turn : (v ≡ 0 → ⊥) → v ≡ remove_verdict size w list store
  the_work_comes_before_the_turn h = rw (remove_by_steps size w list store, ← e) (sym (first_refused v _ h))

  module _ (z : v ≡ 0) (t : Bool) (q : t ≡ is_waiting w) where
    pub a_work_that_does_not_wait_is_out_of_turn : not t ≡ true → 9 ≡ remove_verdict size w list store
    a_work_that_does_not_wait_is_out_of_turn h = rw (remove_by_steps size w list store, ← e, z, ← q, not-true t h)

    pub a_waiting_work_is_accepted : not t ≡ false → 0 ≡ remove_verdict size w list store
    a_waiting_work_is_accepted h = rw (remove_by_steps size w list store, ← e, z, ← q, not-false t h)

-- ---- the outcome

module _ (v : ℕ) (w after : Work) where
  refused_change : (v ≡ 0 → ⊥) → (v ≡ reply_number (changed_by v w after).reply) × (w ≡ (changed_by v w after).work)
  refused_change h = rw (changed_by, ne_eqb v 0 h) (refl, refl)

module _ (size : ℕ) (w : Work) (list : List Entry) (store : List ℕ) where
  module _ (p s : List ℕ) (cutoff : std.Option (Bor (List ℕ))) (v : ℕ) (e : v ≡ next_base_verdict size w list store p s (lent_key cutoff)) where
    abbrev after : Changed
    after = next_base_of size w list store p s (is_some cutoff) (key_or_zeros cutoff)

    pub a_refused_next_base_changes_nothing : (v ≡ 0 → ⊥) → (v ≡ reply_number after.reply) × (w ≡ after.work)
    unfolding next_base_of
    a_refused_next_base_changes_nothing h =
        rw (a_lent_key cutoff, ← e) (refused_change v w (next_base_work w s (is_some cutoff) (key_or_zeros cutoff)) h)

    pub an_accepted_next_base_changes_the_work : v ≡ 0 → (r : Work) → r ≡ next_base_work w s (is_some cutoff) (key_or_zeros cutoff) → (v ≡ reply_number after.reply) × (r ≡ after.work)
    unfolding next_base_of
    an_accepted_next_base_changes_the_work z r f = rw (a_lent_key cutoff, ← e, z) (refl, f)

  module _ (v : ℕ) (e : v ≡ remove_verdict size w list store) where
    pub a_refused_removal_changes_nothing : (v ≡ 0 → ⊥) → (v ≡ reply_number (remove_cutoff_of size w list store).reply) × (w ≡ (remove_cutoff_of size w list store).work)
    unfolding remove_cutoff_of
    a_refused_removal_changes_nothing h = rw (← e) (refused_change v w (remove_work w) h)

    pub an_accepted_removal_changes_the_work : v ≡ 0 → (r : Work) → r ≡ remove_work w → (v ≡ reply_number (remove_cutoff_of size w list store).reply) × (r ≡ (remove_cutoff_of size w list store).work)
    unfolding remove_cutoff_of
    an_accepted_removal_changes_the_work z r f = rw (← e, z) (refl, f)
