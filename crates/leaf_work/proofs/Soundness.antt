-- A work that is laid out, kept and has the model's invariant is sound. Assumes nothing.
use mathlib.Core.Path.{◌≡◌, refl, sym, ap, ◌∙◌}
use mathlib.Core.Bool.{Bool, true, false, not, ◌||◌}
use mathlib.Core.List.{List, [], ◌∷◌, ◌++◌}
use Prim.Native.Nat.{ℕ, ◌≤◌, ◌<◌}
use native.Mathlib.Omega.{arith}
use native.Mathlib.Nat.{lt_irrefl, lt_of_lt_of_le}
use lib.ListN.{length, take, drop}
use borrow.Author.Tests.{eq-eqb, le-leb, lt-ltb}
use Rattle.bit_ops.specs.Key.{num, lt_key}
use Rattle.leaf_node.specs.Limits.{value_limit}
use Rattle.leaf_node.specs.Record.{Record, body, total}
use Rattle.leaf_node.specs.Page.{count}
use Rattle.leaf_node.specs.Fits.{All, nil, cons, Rising}
use Rattle.leaf_model.specs.Basics.{nonempty}
use Rattle.leaf_model.specs.Work.{Turn, Open, Waiting, Done, Leaf, below_cutoff, is_rising}
use Rattle.leaf_model.specs.Work as model
use Rattle.leaf_model.specs.Claim.{Lt, records_of}
use Rattle.leaf_model.proofs.Tests.{clash, and_left}
use Rattle.leaf_model.proofs.Lists.{all_left, all_right_lem, all_map, all_both}
use Rattle.leaf_model.proofs.Keys.{test_of_le, le_of_not, lt_of_cutoff, rising_right}
use Rattle.leaf_model.proofs.Bases.{rising_test}
use Rattle.leaf_model.proofs.Invariant.{Invariant, AtTurn, DoneFacts, at_waiting}
use Rattle.leaf_work.specs.declared.Work.{Work}
use Rattle.leaf_work.specs.declared.Entry.{Entry}
use Rattle.leaf_work.specs.Tests.{every, is_zero, is_set, key_if}
use Rattle.leaf_work.specs.Lent.{blank, turn_number, is_open, is_waiting, is_done, reads_base, an_insert}
use Rattle.leaf_work.specs.Pending.{listed_of, rest_of, pending_of}
use Rattle.leaf_work.specs.Sound.{is_blank, is_operation, placed, lets_in, past_all, known_flags, operations, stored, risen, listed_fits, gauged, bounded, cutoff_right, override_right, waiting_right, done_right, floor_above, floor_at_turn, absent_zero, sound}
use Rattle.leaf_work.proofs.Tests.{and_both, not-true, implies_if, all_every, all_replicate, same_bytes_lem, key_is_there}
use Rattle.leaf_work.proofs.Operations.{Op, ops_right, ops_placed, some_insert_lem, all_inserts}
use Rattle.leaf_work.proofs.Laid.{Laid, Kept, turn_of, waiting_turn, done_turn, waiting_is_not_open, an_ignored_page_has_no_records, list_length, store_length, used_entries, blank_entries, blank_bytes, listed_is, pending_parts, sees_work}

some_body : (xs : List Record) → nonempty xs ≡ true → 0 < body xs
some_body [] h = clash h refl
some_body (x ∷ xs) h = omega arith

absent : (b x : Bool) → (b ≡ false → x ≡ true) → not b ≡ true → x ≡ true
absent true x h e = clash e refl
absent false x h e = h refl

-- listed keys lie below each key that is let in

abbrev pub Past : model.Work → Record → Type 0
Past v r = (k : List ℕ) → model.lets_in v k ≡ true → Lt r.key k

past_at_turn : (size : ℕ) (t : Turn) (v : model.Work) (g : List Leaf) → AtTurn size t v g → All (λ r. below_cutoff v.cutoff r.key ≡ true) v.listed → All (Past v) v.listed
past_at_turn size Open v g f a = all_right_lem (records_of g) v.listed f.past
past_at_turn size Waiting v g f a =
    all_map (λ r h k e.
    let l : Lt r.key v.floor = rw f.floor_is (lt_of_cutoff v.cutoff r.key f.bound h f.cutoff_is) in
    lt_of_lt_of_le l (le_of_not v.floor k (and_left (not (lt_key k v.floor)) _ e))) a
past_at_turn size Done v g f a = rw f.no_listed nil

pub listed_keys_are_past : (size : ℕ) (v : model.Work) (g : List Leaf) (t : List Record) → Invariant size v g t → All (Past v) v.listed
listed_keys_are_past size v g t h =
    past_at_turn size v.turn v g h.at_turn (all_left v.listed v.rest (all_right_lem (records_of g) _ (rw h.tally h.below_cutoff_lem)))

past_test : (w : Work) (xs : List Record) → All (λ r. (k : List ℕ) → lets_in w k ≡ true → Lt r.key k) xs → past_all w xs ≡ true
past_test w [] nil = refl
past_test w (r ∷ []) (cons h hs) = go (lets_in w r.key) refl
  where
    go : (b : Bool) → lets_in w r.key ≡ b → not (lets_in w r.key) ≡ true
    go true e = absurd (lt_irrefl (num r.key) (h r.key e))
    go false e = rw e
past_test w (r ∷ y ∷ ys) (cons h hs) = past_test w (y ∷ ys) hs

turn_test : (w : Work) (t : Turn) → w.turn ≡ turn_number t → (is_open w || is_waiting w || is_done w) ≡ true
turn_test w Open e = rw e
turn_test w Waiting e = rw e
turn_test w Done e = rw e

module _ (size : ℕ) (w : Work) (list : List Entry) (store p page : List ℕ) (ops : List Op) (l : Laid w list store p ops) (k : Kept size w list store p page)
    (idle : is_open w ≡ false → p ≡ []) (g : List Leaf) (t : List Record) (v : Invariant size (sees_work w list store p) g t) where
  low_none : is_open w ≡ false → w.low ≤ 0
  low_none e = let q : count p ≡ 0 = ap count (idle e) ∙ an_ignored_page_has_no_records in omega (arith, l.low_in)

  flags_right : known_flags w ≡ true
  flags_right =
      and_both (le-leb _ _ k.flags.mode)
      (and_both (le-leb _ _ k.flags.based) (and_both (le-leb _ _ k.flags.cut) (and_both (le-leb _ _ k.flags.over) (le-leb _ _ k.flags.taken))))

  operations_right : operations size w list store p ≡ true
  operations_right =
      let used : every (is_operation w.low p) (take w.used list) ≡ true = rw (used_entries w list store p ops l) (all_every _ (ops_right p 0 l.chunks)) in
      let unused : every is_blank (drop w.used list) ≡ true = rw (blank_entries w list store p ops l) (all_every _ (all_replicate _ l.room blank refl)) in
      and_both (le-leb w.used (length list) (omega (arith, list_length w list store p ops l, l.used_is))) (and_both used unused)

  store_right : stored size w list store p ≡ true
  store_right =
      let used : placed w.filled 0 (take w.used list) ≡ true = rw (used_entries w list store p ops l) (ops_placed p w.filled 0 ops (omega (arith, l.filled_is))) in
      let unused : every is_zero (drop w.filled store) ≡ true = rw (blank_bytes w list store p ops l) (all_every _ (all_replicate _ l.spare 0 refl)) in
      and_both (le-leb w.filled (length store) (omega (arith, store_length w list store p ops l, l.filled_is))) (and_both used unused)

  keys_rise_lem : risen size w list store p ≡ true
  keys_rise_lem =
      let u : Rising (listed_of w list store p ++ rest_of w store p) = rising_right (records_of g) _ (rw v.tally v.rising) in
      rw (pending_parts w list store p) (rising_test u)

  values_fitting : listed_fits size w list store p ≡ true
  values_fitting = all_every _ (all_map (λ r h. le-leb (length r.value) (value_limit size) h) (all_left (listed_of w list store p) (rest_of w store p) v.fitting))

  gauge_right : gauged size w list store p ≡ true
  gauge_right =
      and_both (eq-eqb _ _ (l.count_is ∙ ap length (sym (listed_is w list store p ops l)))) (eq-eqb _ _ (l.bytes_is ∙ ap total (sym (listed_is w list store p ops l))))

  keys_bounded : bounded size w list store p ≡ true
  keys_bounded =
      rw (pending_parts w list store p)
      (all_every _ (all_map (λ r h. and_both (not-true (test_of_le _ r.key h.0)) h.1)
      (all_both v.above_separator (all_right_lem (records_of g) _ (rw v.tally v.below_cutoff_lem)))))

  cutoff_is_right : cutoff_right w ≡ true
  cutoff_is_right = implies_if (is_set w.cut) _ (λ e. and_both (k.cut_based e) (above (is_set w.cut) v.latest_below_cutoff e))
    where
      above : (b : Bool) → below_cutoff (key_if b w.cutoff) w.latest ≡ true → b ≡ true → lt_key w.latest w.cutoff ≡ true
      above true h e = h
      above false h e = clash e refl

  override_is_right : override_right size w list store p ≡ true
  override_is_right = implies_if (is_set w.over) _ (λ e. rw (used_entries w list store p ops l) (some_insert_lem p 0 ops (l.override_has_insert e)))

  floor_is_above : floor_above w ≡ true
  floor_is_above = and_both (not-true (test_of_le _ w.floor v.floor_above_separator)) (not-true (test_of_le w.latest w.floor v.floor_above_latest))

  floor_is_at_turn : floor_at_turn w ≡ true
  floor_is_at_turn =
      and_both (implies_if (reads_base w) _ (λ e. same_bytes_lem (k.base_floor e)))
      (implies_if (is_waiting w) _ (λ e.
      let f = at_waiting size (turn_of w.turn) _ g (rw (waiting_turn w e)) v.at_turn in
      same_bytes_lem (f.floor_is ∙ sym (key_is_there (is_set w.cut) w.cutoff _ f.cutoff_is).1)))

  absent_keys_are_zero : absent_zero w ≡ true
  absent_keys_are_zero =
      and_both (implies_if (not (is_set w.cut)) _ (absent (is_set w.cut) _ (λ e. same_bytes_lem (k.no_cut e))))
      (and_both (implies_if (not (is_set w.over)) _ (absent (is_set w.over) _ (λ e. same_bytes_lem (k.no_over e))))
      (implies_if (not (is_set w.taken)) _ (absent (is_set w.taken) _ (λ e. same_bytes_lem (k.no_last e)))))

  waiting_is_right : waiting_right size w list store p ≡ true
  waiting_is_right = implies_if (is_waiting w) _ (λ e.
      let f = at_waiting size (turn_of w.turn) _ g (rw (waiting_turn w e)) v.at_turn in
      let i : every an_insert (take w.used list) ≡ true = rw (used_entries w list store p ops l) (all_every _ (all_inserts p 0 l.chunks (low_none (waiting_is_not_open w e)))) in
      and_both i
      (and_both (key_is_there (is_set w.over) w.overriding _ f.override_is).0
      (and_both (key_is_there (is_set w.cut) w.cutoff _ f.cutoff_is).0
      (and_both (lt-ltb 0 _ (some_body (listed_of w list store p) (v.override_has_records f.separator f.override_is))) (lt-ltb _ _ f.few)))))

  nothing_pending : DoneFacts (sees_work w list store p) → not (nonempty (pending_of w list store p)) ≡ true
  nothing_pending f = rw (pending_parts w list store p, f.no_listed, f.no_rest)

  done_is_right : done_right size w list store p ≡ true
  done_is_right = implies_if (is_done w) _ (λ e. nothing_pending (at_done (turn_of w.turn) (sees_work w list store p) v.at_turn (done_turn w e)))
    where
      at_done : (t : Turn) (x : model.Work) → AtTurn size t x g → t ≡ Done → DoneFacts x
      at_done t x f e = rw e at f

  pub the_work_is_sound : sound size w list store p ≡ true
  unfolding sound
  the_work_is_sound =
      all_every (λ b. b)
      (cons (turn_test w (turn_of w.turn) k.known_turn_lem)
      (cons flags_right
      (cons operations_right
      (cons store_right
      (cons (and_both (le-leb _ _ k.room_list) (le-leb _ _ k.room_store))
      (cons keys_rise_lem
      (cons (all_every _ k.rest_above_lem)
      (cons (past_test w (listed_of w list store p) (listed_keys_are_past size (sees_work w list store p) g t v))
      (cons (le-leb w.low (count p) l.low_in)
      (cons values_fitting
      (cons gauge_right
      (cons keys_bounded
      (cons (implies_if (is_set w.taken) _ k.last_below_lem)
      (cons cutoff_is_right
      (cons override_is_right
      (cons waiting_is_right
      (cons done_is_right
      (cons floor_is_above
      (cons floor_is_at_turn
      (cons absent_keys_are_zero nil))))))))))))))))))))
