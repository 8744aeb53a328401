-- What is lent earns none of Nos. 1 to 8 exactly where the work is laid out, kept and has the model's invariant. A sound work has it with no leaf
-- given out and a tally of what is pending, so what holds of a work that a sequence reached holds of any sound one. Assumes nothing.
use mathlib.Core.Path.{◌≡◌, refl, sym, ap, ◌∙◌}
use mathlib.Core.Bool.{Bool, true, false, not, ◌&&◌, ◌||◌, false≢true, cond}
use mathlib.Core.Option.{some}
use mathlib.Core.List.{List, [], ◌∷◌, ◌++◌}
use Prim.Native.Nat.{ℕ, ◌-◌, ◌<◌}
use native.Mathlib.Omega.{arith}
use native.Mathlib.Nat.{lt_trans, lt_of_lt_of_le, lt_of_le_of_lt}
use lib.Dec.{leb, ltb}
use lib.ListN.{length, take, drop, take-append-drop}
use borrow.Author.Tests.{eqb-true, eq-eqb, leb-true, ltb-true, not-true}
use Rattle.bit_ops.specs.Key.{lt_key}
use Rattle.bit_ops.specs.Steps.{zeros}
use Rattle.leaf_node.specs.Limits.{merge_below, PageSize}
use Rattle.leaf_node.specs.Record.{Record, body, total}
use Rattle.leaf_node.specs.Page.{count, run, records_between}
use Rattle.leaf_node.specs.Fits.{All, nil, cons, Rising, rise[], rise∷}
use Rattle.leaf_model.specs.Basics.{nonempty}
use Rattle.leaf_model.specs.Work.{Turn, Open, Waiting, Done, Leaf, above_last, below_cutoff}
use Rattle.leaf_model.specs.Claim.{Lt, Le}
use Rattle.leaf_model.proofs.Tests.{clash, and_left, and_right}
use Rattle.leaf_model.proofs.Lists.{all_left, all_head, all_map}
use Rattle.leaf_model.proofs.Keys.{lt_of_test, le_of_test, le_of_not, rising_left}
use Rattle.leaf_model.proofs.Separators.{links[]}
use Rattle.leaf_model.proofs.Invariant.{Invariant, OpenFacts, WaitFacts, DoneFacts, AtTurn}
use Rattle.leaf_model.proofs.Bases.{rising_of_test}
use Rattle.leaf_work.specs.declared.Work.{Work}
use Rattle.leaf_work.specs.declared.Entry.{Entry}
use Rattle.leaf_work.specs.Tests.{every, same_bytes, implies, is_set, key_if}
use Rattle.leaf_work.specs.Lent.{turn_number, is_open, is_waiting, is_done, cutoff_of, override_of, last_of, separator_of, reads_base, regarded, an_insert}
use Rattle.leaf_work.specs.Pending.{listed_of, rest_of, pending_of}
use Rattle.leaf_work.specs.Sound.{is_flag, lets_in, past_all, sound}
use Rattle.leaf_work.specs.Verdict.{keys_verdict, lent_verdict}
use Rattle.leaf_work.proofs.Tests.{implied, first_zero, every_all, same_bytes_are_equal, key_is_there, no_key}
use Rattle.leaf_work.proofs.Operations.{Op, Put, Keep, records_of_ops, some_put}
use Rattle.leaf_work.proofs.Laid.{Laid, Kept, Keyed, Flags, turn_of, waiting_is_not_open, ignored, an_ignored_page_has_no_records, rest_is, pending_parts, sees_work}
use Rattle.leaf_work.proofs.Soundness.{the_work_is_sound}
use Rattle.leaf_work.proofs.SoundMeans.{Clauses}
use Rattle.leaf_work.proofs.Decoding.{ops_of}
use Rattle.leaf_work.proofs.Readiness as accepted
use Rattle.leaf_work.proofs.PendingRecords.{EntryKeyed, pending_keys_have_32_bytes, pending_values_are_fitting}

-- a work with the page that it is lent, the leaves g given out before and the tally t
pub record Canonical (size : ℕ) (w : Work) (list : List Entry) (store page : List ℕ) (g : List Leaf) (t : List Record) : Type 0 where
  pub ops : List Op
  pub laid : Laid w list store (regarded w page) ops
  pub kept : Kept size w list store (regarded w page) page
  pub invariant : Invariant size (sees_work w list store (regarded w page)) g t

module _ (size : ℕ) (w : Work) (list : List Entry) (store page : List ℕ) (g : List Leaf) (t : List Record) (h : Canonical size w list store page g t) where
  pub canonical_work_is_sound : sound size w list store (regarded w page) ≡ true
  canonical_work_is_sound = the_work_is_sound size w list store (regarded w page) page h.ops h.laid h.kept (ignored w page) g t h.invariant

  page_passes : (b : Bool) → (b ≡ true → keys_verdict size page w.latest (cutoff_of w) ≡ 0) → cond b (keys_verdict size page w.latest (cutoff_of w)) 0 ≡ 0
  page_passes true f = f refl
  page_passes false f = refl

  pub canonical_work_earns_no_refusal : lent_verdict size w list store page ≡ 0
  unfolding lent_verdict
  canonical_work_earns_no_refusal = first_zero _ _ (page_passes (reads_base w) h.kept.base_right) ∙ rw (h.kept.right_room, canonical_work_is_sound)

-- ---- the other way

-- the greatest key is not let in, so all lie below each key that is
past_last : (w : Work) (r k : List ℕ) → lets_in w r ≡ false → lets_in w k ≡ true → Lt r k
past_last w r k h a = go (lt_key r w.floor) refl
  where
    floor_k : Le w.floor k
    floor_k = le_of_not w.floor k (and_left (not (lt_key k w.floor)) _ a)

    last_k : above_last (last_of w) k ≡ true
    last_k = and_right (not (lt_key k w.floor)) _ a

    by_last : (t : Bool) → above_last (key_if t w.last) r ≡ false → above_last (key_if t w.last) k ≡ true → Lt r k
    by_last true x y = lt_of_le_of_lt (le_of_test r w.last x) (lt_of_test w.last k y)
    by_last false x y = absurd (false≢true (sym x))

    go : (b : Bool) → lt_key r w.floor ≡ b → Lt r k
    go true e = lt_of_lt_of_le (lt_of_test r w.floor e) floor_k
    go false e = by_last (is_set w.taken) (rw e at h) last_k

past_of : (w : Work) {xs : List Record} → Rising xs → past_all w xs ≡ true → All (λ r. (k : List ℕ) → lets_in w k ≡ true → Lt r.key k) xs
past_of w rise[] h = nil
past_of w (rise∷ {x = r} {xs = []} a u) h = cons (λ k e. past_last w r.key k (not-true (lets_in w r.key) h) e) nil
past_of w (rise∷ {xs = y ∷ ys} a u) h =
    let ih = past_of w u h in
    cons (λ k e. lt_trans (all_head a) (all_head ih k e)) ih

put_is_record : (p : List ℕ) (os : List Op) → some_put os ≡ true → nonempty (records_of_ops p os) ≡ true
put_is_record p [] h = h
put_is_record p (Put r ∷ os) h = refl
put_is_record p (Keep from to ∷ os) h = behind (records_between p from to) (records_of_ops p os) (put_is_record p os h)
  where
    behind : (xs ys : List Record) → nonempty ys ≡ true → nonempty (xs ++ ys) ≡ true
    behind [] ys h = h
    behind (x ∷ xs) ys h = refl

body_is_record : (xs : List Record) → 0 < body xs → nonempty xs ≡ true
body_is_record [] h = absurd (omega arith)
body_is_record (x ∷ xs) h = refl

separator_below : (s c : List ℕ) (xs : List Record) → nonempty xs ≡ true → All (λ r. (not (lt_key r.key s) && lt_key r.key c) ≡ true) xs → Lt s c
separator_below s c [] n a = clash n refl
separator_below s c (r ∷ rs) n (cons h hs) =
    lt_of_le_of_lt (le_of_not s r.key (and_left (not (lt_key r.key s)) _ h)) (lt_of_test r.key c (and_right (not (lt_key r.key s)) _ h))

none_pending : (xs ys : List Record) → not (nonempty (xs ++ ys)) ≡ true → (xs ≡ []) × (ys ≡ [])
none_pending [] [] h = (refl, refl)
none_pending [] (y ∷ ys) h = clash h refl
none_pending (x ∷ xs) ys h = clash h refl

known : (w : Work) → (is_open w || is_waiting w || is_done w) ≡ true → w.turn ≡ turn_number (turn_of w.turn)
known w h = go (is_open w) (is_waiting w) (is_done w) refl refl refl h
  where
    go : (a b c : Bool) → is_open w ≡ a → is_waiting w ≡ b → is_done w ≡ c → (a || b || c) ≡ true → w.turn ≡ turn_number (turn_of w.turn)
    go true b c e f g h = let z : w.turn ≡ 1 = eqb-true _ _ e in rw z
    go false true c e f g h = let z : w.turn ≡ 2 = eqb-true _ _ f in rw z
    go false false true e f g h = let z : w.turn ≡ 3 = eqb-true _ _ g in rw z
    go false false false e f g h = absurd (false≢true h)

all_take : {A : Type 0} (P : A → Type 0) (n : ℕ) (xs : List A) → All P xs → All P (take n xs)
all_take P n xs h = all_left (take n xs) (drop n xs) (rw (take-append-drop n xs) h)

module _ (size : ℕ) (q : PageSize size) (w : Work) (list : List Entry) (store page : List ℕ) (z : lent_verdict size w list store page ≡ 0) (keys : Keyed w)
    (entries : All EntryKeyed list) where
  abbrev p : List ℕ
  p = regarded w page

  abbrev es : List Entry
  es = take w.used list

  abbrev ops : List Op
  ops = ops_of store es

  c : Clauses size w list store p
  c = accepted.c size w list store page z

  base_right : reads_base w ≡ true → keys_verdict size page w.latest (cutoff_of w) ≡ 0
  base_right = accepted.base_right size w list store page z

  laid : Laid w list store p ops
  laid = accepted.laid size w list store page z

  listed_are : listed_of w list store p ≡ records_of_ops p ops
  listed_are = accepted.listed_are size w list store page z

  -- ---- the work record

  absent_last_two : (implies (not (is_set w.over)) (same_bytes w.overriding (zeros 32)) && implies (not (is_set w.taken)) (same_bytes w.last (zeros 32))) ≡ true
  absent_last_two = and_right (implies (not (is_set w.cut)) (same_bytes w.cutoff (zeros 32))) _ c.absent_zero_lem

  zero_key_lem : (b : Bool) (k : List ℕ) → implies (not b) (same_bytes k (zeros 32)) ≡ true → b ≡ false → k ≡ zeros 32
  zero_key_lem true k h e = clash refl e
  zero_key_lem false k h e = same_bytes_are_equal _ _ h

  flags : Flags w
  flags =
      let h₀ = and_right (is_flag w.mode) (is_flag w.based && (is_flag w.cut && (is_flag w.over && is_flag w.taken))) c.known_flags_lem in
      let h₁ = and_right (is_flag w.based) (is_flag w.cut && (is_flag w.over && is_flag w.taken)) h₀ in
      let h₂ = and_right (is_flag w.cut) (is_flag w.over && is_flag w.taken) h₁ in
      record {
        mode = leb-true _ _ (and_left (is_flag w.mode) _ c.known_flags_lem);
        based = leb-true _ _ (and_left (is_flag w.based) _ h₀);
        cut = leb-true _ _ (and_left (is_flag w.cut) _ h₁);
        over = leb-true _ _ (and_left (is_flag w.over) _ h₂);
        taken = leb-true _ _ (and_right (is_flag w.over) _ h₂);
      }

  base_floor : reads_base w ≡ true → w.floor ≡ w.latest
  base_floor e = same_bytes_are_equal _ _ (implied (reads_base w) _ (and_left (implies (reads_base w) (same_bytes w.floor w.latest)) _ c.floor_at_turn_lem) e)

  cutoff_parts : is_set w.cut ≡ true → (is_set w.based && lt_key w.latest w.cutoff) ≡ true
  cutoff_parts e = implied (is_set w.cut) _ c.cutoff_right_lem e

  kept : Kept size w list store p page
  kept = record {
    right_room = (accepted.rows size w list store page z).right_room;
    room_list = leb-true _ _ (and_left (leb (length (pending_of w list store p)) (length list)) _ c.room_right_lem);
    room_store = leb-true _ _ (and_right (leb (length (pending_of w list store p)) (length list)) (leb (total (pending_of w list store p)) (length store)) c.room_right_lem);
    base_right = base_right;
    rest_above_lem = every_all _ (rest_of w store p) c.rest_above_lem;
    last_below_lem = implied (is_set w.taken) _ c.last_below_lem;
    cut_based = λ e. and_left (is_set w.based) _ (cutoff_parts e);
    base_floor = base_floor;
    no_cut = zero_key_lem (is_set w.cut) w.cutoff (and_left (implies (not (is_set w.cut)) (same_bytes w.cutoff (zeros 32))) _ c.absent_zero_lem);
    no_over = zero_key_lem (is_set w.over) w.overriding (and_left (implies (not (is_set w.over)) (same_bytes w.overriding (zeros 32))) _ absent_last_two);
    no_last = zero_key_lem (is_set w.taken) w.last
        (and_right (implies (not (is_set w.over)) (same_bytes w.overriding (zeros 32))) (implies (not (is_set w.taken)) (same_bytes w.last (zeros 32))) absent_last_two);
    known_turn_lem = known w c.known_turn_lem;
    flags = flags;
    keyed = keys;
  }

  -- ---- the model's invariant, with no leaf given out

  abbrev L : List Record
  L = listed_of w list store p

  abbrev R : List Record
  R = rest_of w store p

  rises : Rising (L ++ R)
  rises = rising_of_test (L ++ R) (rw (pending_parts w list store p) at c.keys_rise_lem)

  bounds : All (λ r. (not (lt_key r.key (separator_of w)) && below_cutoff (cutoff_of w) r.key) ≡ true) (L ++ R)
  bounds = every_all _ (L ++ R) (rw (pending_parts w list store p) at c.keys_bounded)

  rest_are : R ≡ records_between p w.low (count p)
  rest_are = rest_is w list store p ops laid

  override_has_records : (s : List ℕ) → override_of w ≡ some s → nonempty L ≡ true
  override_has_records s e = rw listed_are (put_is_record p ops (laid.override_has_insert (key_is_there (is_set w.over) w.overriding s e).0))

  no_rest : is_open w ≡ false → R ≡ []
  unfolding records_between run
  no_rest e =
      let n : count p - w.low ≡ 0 = (let y : count p ≡ 0 = ap count (ignored w page e) ∙ an_ignored_page_has_no_records in omega arith) in
      rest_are ∙ rw n

  open_facts : OpenFacts (sees_work w list store p) []
  open_facts = record { past = past_of w (rising_left L R rises) c.listed_past_lem }

  waiting_facts : is_waiting w ≡ true → WaitFacts size (sees_work w list store p)
  waiting_facts e =
      let h = implied (is_waiting w) _ c.waiting_right_lem e in
      let h₁ = and_right (every an_insert es) (is_set w.over && (is_set w.cut && (ltb 0 (body L) && ltb (body L) (merge_below size)))) h in
      let h₂ = and_right (is_set w.over) (is_set w.cut && (ltb 0 (body L) && ltb (body L) (merge_below size))) h₁ in
      let h₃ = and_right (is_set w.cut) (ltb 0 (body L) && ltb (body L) (merge_below size)) h₂ in
      let over : is_set w.over ≡ true = and_left (is_set w.over) _ h₁ in
      let cut : is_set w.cut ≡ true = and_left (is_set w.cut) _ h₂ in
      let some_body : 0 < body L = ltb-true _ _ (and_left (ltb 0 (body L)) _ h₃) in
      record {
        no_rest = no_rest (waiting_is_not_open w e);
        separator = w.overriding;
        override_is = rw over;
        bound = w.cutoff;
        cutoff_is = rw cut;
        separator_below_bound = separator_below w.overriding w.cutoff L (body_is_record L some_body) (rw (over, cut) at (all_left L R bounds));
        floor_is = same_bytes_are_equal _ _
            (implied (is_waiting w) _ (and_right (implies (reads_base w) (same_bytes w.floor w.latest)) (implies (is_waiting w) (same_bytes w.floor w.cutoff)) c.floor_at_turn_lem) e);
        few = ltb-true _ _ (and_right (ltb 0 (body L)) (ltb (body L) (merge_below size)) h₃);
      }

  done_facts : is_done w ≡ true → DoneFacts (sees_work w list store p)
  done_facts e =
      let d : not (nonempty (pending_of w list store p)) ≡ true = implied (is_done w) _ c.done_right_lem e in
      let n = none_pending L R (rw (pending_parts w list store p) at d) in
      record { no_listed = n.0; no_rest = n.1; no_override = no_key (is_set w.over) w.overriding (λ y. clash (override_has_records w.overriding (rw y)) (ap nonempty n.0)) }

  at_turn : (t : Turn) → turn_of w.turn ≡ t → AtTurn size t (sees_work w list store p) []
  at_turn Open e = open_facts
  at_turn Waiting e = let n : w.turn ≡ 2 = known w c.known_turn_lem ∙ ap turn_number e in waiting_facts (rw n)
  at_turn Done e = let n : w.turn ≡ 3 = known w c.known_turn_lem ∙ ap turn_number e in done_facts (rw n)

  latest_below : (b : Bool) → is_set w.cut ≡ b → below_cutoff (key_if b w.cutoff) w.latest ≡ true
  latest_below true e = and_right (is_set w.based) (lt_key w.latest w.cutoff) (cutoff_parts e)
  latest_below false e = refl

  pub sound_work_is_canonical : Canonical size w list store page [] (listed_of w list store (regarded w page) ++ rest_of w store (regarded w page))
  sound_work_is_canonical = record {
    ops = ops;
    laid = laid;
    kept = kept;
    invariant = record {
      tally = refl;
      rising = rises;
      leaves = nil;
      links = links[];
      override_has_records = override_has_records;
      above_separator = all_map (λ r h. le_of_not (separator_of w) r.key (and_left (not (lt_key r.key (separator_of w))) _ h)) bounds;
      below_cutoff_lem = all_map (λ r h. and_right (not (lt_key r.key (separator_of w))) (below_cutoff (cutoff_of w) r.key) h) bounds;
      fitting = pending_values_are_fitting size q w list store page z;
      key_lengths = all_map (λ r h. eq-eqb (length r.key) 32 h) (pending_keys_have_32_bytes size q w list store page z (all_take EntryKeyed w.used list entries));
      floor_above_separator = le_of_not (separator_of w) w.floor (and_left (not (lt_key w.floor (separator_of w))) _ c.floor_above_lem);
      floor_above_latest = le_of_not w.latest w.floor (and_right (not (lt_key w.floor (separator_of w))) (not (lt_key w.floor w.latest)) c.floor_above_lem);
      latest_below_cutoff = latest_below (is_set w.cut) refl;
      at_turn = at_turn (turn_of w.turn) refl;
    };
  }
