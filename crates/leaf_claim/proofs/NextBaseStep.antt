-- Next base, from a reached state, reaches a state. Assumes nothing.
use mathlib.Core.Path.{◌≡◌, refl, sym, ap, ◌∙◌}
use mathlib.Core.Bool.{Bool, true, false, not, true≢false, cond}
use mathlib.Core.Option.{Option, none, some}
use mathlib.Core.List.{List, [], ◌++◌}
use Prim.Native.Nat.{ℕ, ◌+◌, ◌≤◌}
use native.Mathlib.Omega.{arith}
use native.Mathlib.Nat.{lt_trans, lt_of_lt_of_le}
use lib.Dec.{eqb, leb}
use lib.ListN.{length, length-append}
use borrow.Author.Tests.{eqb-true, leb-true, not-true}
use Rattle.bit_ops.specs.Key.{lt_key}
use Rattle.leaf_node.specs.Limits.{PageSize}
use Rattle.leaf_node.specs.Record.{Record, total}
use Rattle.leaf_node.specs.Page.{count, records_between, records}
use Rattle.leaf_node.specs.Fits.{All, nil, cons}
use Rattle.leaf_model.specs.Work.{Turn, Open, Waiting, Done, Base, NextBase, above_last, below_cutoff, with_base, awaits_base, reaches_cutoff, good_base, allowed}
use Rattle.leaf_model.specs.Work as model
use Rattle.leaf_model.specs.Claim.{Lt, Le}
use Rattle.leaf_model.proofs.Lists.{all_map}
use Rattle.leaf_model.proofs.Keys.{lt_of_test, le_of_test, test_of_lt}
use Rattle.leaf_model.proofs.Bases.{base_facts, next_base_keeps_the_invariant}
use Rattle.leaf_work.specs.declared.Work.{Work}
use Rattle.leaf_work.specs.declared.Entry.{Entry}
use Rattle.leaf_work.specs.Tests.{is_set, key_if}
use Rattle.leaf_work.specs.Lent.{room_right, turn_number, is_open, cutoff_of, override_of, last_of, regarded}
use Rattle.leaf_work.specs.Pending.{listed_of, rest_of, pending_of}
use Rattle.leaf_work.specs.Sound.{sound}
use Rattle.leaf_work.specs.Verdict.{base_verdict, reaches, next_base_verdict}
use Rattle.leaf_work.specs.Outcome.{Refused, Accepted, reply_number, Changed, changed_by, next_base_work, next_base_of}
use Rattle.leaf_work.proofs.Tests.{and_both, passed, first_passed, bit_small, kept_key, kept_key_long, kept_key_absent}
use Rattle.leaf_work.proofs.Operations.{Op, Put, Keep, records_of_ops, Within, total_append, no_chunks, no_chunk_entries}
use Rattle.leaf_work.proofs.Laid.{Laid, Kept, turn_of, ignored, an_ignored_page_has_no_records, listed_is, rest_is, pending_is, sees_work}
use Rattle.leaf_work.proofs.BasePages.{base_is_good, separator_below_cutoff, lent_again_the_page_passes}
use Rattle.leaf_claim.specs.Told.{told_next_base}
use Rattle.leaf_claim.specs.Sequence.{State, next_base, answered, next, leaves_of}
use Rattle.leaf_claim.proofs.Agreeing.{next_base_is_told}
use Rattle.leaf_claim.proofs.Reached.{Reached, equal_states_are_reached}

pub refused_change : (verdict : ℕ) (w w' : Work) → eqb verdict 0 ≡ false → changed_by verdict w w' ≡ record { reply = Refused verdict; work = w }
refused_change verdict w w' e = rw (e, changed_by)

pub accepted_change : (verdict : ℕ) (w w' : Work) → eqb verdict 0 ≡ true → changed_by verdict w w' ≡ record { reply = Accepted; work = w' }
accepted_change verdict w w' e = rw (e, changed_by)

within_none : {low : ℕ} {os : List Op} → low ≤ 0 → All (Within low) os → All (Within 0) os
within_none l nil = nil
within_none l (cons {x = Put r} h hs) = cons tt (within_none l hs)
within_none l (cons {x = Keep f t} h hs) = absurd (omega (arith, h.0, h.1))

-- A work that isn't open has inserts alone, which any page leaves as they are. w' is the same work with another base.
pub record SameListed (w w' : Work) : Type 0 where
  pub used : w'.used ≡ w.used
  pub filled : w'.filled ≡ w.filled
  pub count : w'.count ≡ w.count
  pub bytes : w'.bytes ≡ w.bytes
  pub over : w'.over ≡ w.over
  pub low : w'.low ≡ 0

module _ (w w' : Work) (list : List Entry) (store p : List ℕ) (ops : List Op) (page : List ℕ) (l : Laid w list store p ops) (e : p ≡ []) (m : SameListed w w') where
  nothing_passed : w.low ≤ 0
  nothing_passed = let q : count p ≡ 0 = ap count e ∙ an_ignored_page_has_no_records in omega (arith, l.low_in)

  pub laid_with_another_base : Laid w' list store page ops
  laid_with_another_base =
      let r : records_of_ops page ops ≡ records_of_ops p ops = no_chunks page p l.chunks nothing_passed in
      record {
        room = l.room;
        spare = l.spare;
        list_is = rw (no_chunk_entries page p 0 l.chunks nothing_passed) l.list_is;
        store_is = l.store_is;
        used_is = m.used ∙ l.used_is;
        filled_is = m.filled ∙ l.filled_is;
        count_is = rw r (m.count ∙ l.count_is);
        bytes_is = rw r (m.bytes ∙ l.bytes_is);
        low_in = rw m.low (omega arith);
        chunks = rw m.low (within_none nothing_passed l.chunks);
        override_has_insert = λ y. l.override_has_insert (rw m.over at y);
      }

  pub listed_with_another_base : listed_of w' list store page ≡ listed_of w list store p
  listed_with_another_base = listed_is w' list store page ops laid_with_another_base ∙ no_chunks page p l.chunks nothing_passed ∙ sym (listed_is w list store p ops l)

pub all_of_the_base : (page : List ℕ) → records_between page 0 (count page) ≡ records page
unfolding records
all_of_the_base page = refl

module _ (size : ℕ) (q : PageSize size) (s : State) (h : Reached size s) (page sep : List ℕ) (cut : Bool) (key : List ℕ) where
  abbrev w : Work
  w = s.work

  abbrev p : List ℕ
  p = regarded w s.page

  abbrev w' : Work
  w' = next_base_work w sep cut key

  abbrev verdict : ℕ
  verdict = next_base_verdict size w s.list s.store page sep (key_if cut key)

  abbrev moved : Work → Bool → State
  moved x b = record {
    work = x;
    list = s.list;
    store = s.store;
    page = cond b page s.page;
    told = cond b (told_next_base sep (key_if cut key) s.told) s.told;
    given = s.given;
    tally = cond b (s.tally ++ records page) s.tally;
  }

  abbrev after : Changed → State
  after r = moved r.work (eqb (reply_number r.reply) 0)

  refused : eqb verdict 0 ≡ false → next_base_of size w s.list s.store page sep cut key ≡ record { reply = Refused verdict; work = w }
  unfolding next_base_of
  refused e = refused_change verdict w w' e

  taken : eqb verdict 0 ≡ true → next_base_of size w s.list s.store page sep cut key ≡ record { reply = Accepted; work = w' }
  unfolding next_base_of
  taken e = accepted_change verdict w w' e

  pub next_base_answers_its_verdict : answered size s (next_base page sep cut key) ≡ verdict
  next_base_answers_its_verdict = go (eqb verdict 0) refl
    where
      go : (b : Bool) → eqb verdict 0 ≡ b → answered size s (next_base page sep cut key) ≡ verdict
      go true e = ap (λ (r : Changed). reply_number r.reply) (taken e) ∙ sym (eqb-true _ _ e)
      go false e = ap (λ (r : Changed). reply_number r.reply) (refused e)

  refused_next_base_changes_nothing : eqb verdict 0 ≡ false → next size s (next_base page sep cut key) ≡ s
  refused_next_base_changes_nothing e = ap after (refused e) ∙ ap (moved w) e

  abbrev based_state : State
  based_state = record {
    work = w';
    list = s.list;
    store = s.store;
    page = page;
    told = told_next_base sep (key_if cut key) s.told;
    given = s.given;
    tally = s.tally ++ records page;
  }

  accepted_next_base_is : eqb verdict 0 ≡ true → next size s (next_base page sep cut key) ≡ based_state
  accepted_next_base_is e = ap after (taken e)

  record Passed : Type 0 where
    base : base_verdict size page sep (key_if cut key) ≡ 0
    closed : is_open w ≡ false
    has_cut : is_set w.cut ≡ true
    reached : lt_key sep w.cutoff ≡ false
    room_list : w.count + length (records page) ≤ length s.list
    room_store : w.bytes + total (records page) ≤ length s.store

  passes : eqb verdict 0 ≡ true → Passed
  unfolding next_base_verdict
  passes e =
      let a₀ = first_passed (base_verdict size page sep (key_if cut key)) _ (eqb-true _ _ e) in
      let a₁ = passed 6 (room_right size (length s.list) (length s.store)) _ a₀.1 in
      let a₂ = passed 8 (not (is_open w)) _ a₁.1 in
      let a₃ = passed 7 (sound size w s.list s.store []) _ a₂.1 in
      let a₄ = passed 8 (is_set w.cut) _ a₃.1 in
      let a₅ = passed 12 (reaches w sep) _ a₄.1 in
      let a₆ = passed 14 (leb (w.count + length (records page)) (length s.list)) _ a₅.1 in
      let a₇ = passed 15 (leb (w.bytes + total (records page)) (length s.store)) 0 a₆.1 in
      record {
        base = a₀.0;
        closed = not-true _ a₂.0;
        has_cut = a₄.0;
        reached = not-true _ a₅.0;
        room_list = leb-true _ _ a₆.0;
        room_store = leb-true _ _ a₇.0;
      }

  awaits : (t : Turn) → w.turn ≡ turn_number t → is_open w ≡ false → awaits_base t ≡ true
  awaits Open n e = absurd (true≢false (rw n at e))
  awaits Waiting n e = refl
  awaits Done n e = refl

  module _ (sep-long : length sep ≡ 32) (key_long : length key ≡ 32) (a : Passed) where
    none_now : p ≡ []
    none_now = ignored w s.page a.closed

    same : SameListed w w'
    same = record { used = refl; filled = refl; count = refl; bytes = refl; over = refl; low = refl }

    laid_base : Laid w' s.list s.store page h.canonical.ops
    laid_base = laid_with_another_base w w' s.list s.store p h.canonical.ops page h.canonical.laid none_now same

    rest_base : rest_of w' s.store page ≡ records page
    rest_base = rest_is w' s.list s.store page h.canonical.ops laid_base ∙ all_of_the_base page

    pending_base : pending_of w' s.list s.store page ≡ records_of_ops page h.canonical.ops ++ records page
    pending_base = pending_is w' s.list s.store page h.canonical.ops laid_base ∙ ap (λ z. records_of_ops page h.canonical.ops ++ z) (all_of_the_base page)

    abbrev b : Base
    b = record { records = records page; separator = sep; cutoff = key_if cut key }

    abbrev v : model.Work
    v = sees_work w s.list s.store p

    base_seen : sees_work w' s.list s.store page ≡ with_base v b
    base_seen = λ j. record {
      turn = Open;
      listed = listed_with_another_base w w' s.list s.store p h.canonical.ops page h.canonical.laid none_now same j;
      rest = rest_base j;
      override = override_of w;
      latest = sep;
      cutoff = kept_key cut key j;
      floor = sep;
      last = last_of w;
    }

    good_b : good_base size b ≡ true
    good_b = base_is_good size q page sep (key_if cut key) a.base

    reaches_it : reaches_cutoff (cutoff_of w) sep ≡ true
    reaches_it = rw (a.has_cut, a.reached)

    last_below_it : is_set w.taken ≡ true → Lt w.last sep
    last_below_it e =
        let u : lt_key w.last w.cutoff ≡ true = rw a.has_cut at (h.canonical.kept.last_below_lem e) in
        lt_of_lt_of_le (lt_of_test _ _ u) (le_of_test w.cutoff sep a.reached)

    above_last_lem : (t : Bool) → (t ≡ true → Lt w.last sep) → (r : Record) → Le sep r.key → above_last (key_if t w.last) r.key ≡ true
    above_last_lem true f r l = test_of_lt w.last r.key (lt_of_lt_of_le (f refl) l)
    above_last_lem false f r l = refl

    below_cutoff_lem : (o : Option (List ℕ)) → below_cutoff o sep ≡ true → Lt w.last sep → below_cutoff o w.last ≡ true
    below_cutoff_lem none f l = refl
    below_cutoff_lem (some c) f l = test_of_lt w.last c (lt_trans l (lt_of_test sep c f))

    kept_base : Kept size w' s.list s.store page page
    kept_base = record {
      right_room = h.canonical.kept.right_room;
      room_list = rw pending_base (omega (arith, length-append (records_of_ops page h.canonical.ops) (records page), laid_base.count_is, a.room_list));
      room_store = rw pending_base (omega (arith, total_append (records_of_ops page h.canonical.ops) (records page), laid_base.bytes_is, a.room_store));
      base_right = λ e. rw (kept_key cut key) (lent_again_the_page_passes size q page sep (key_if cut key) a.base);
      rest_above_lem = rw rest_base (all_map (above_last_lem (is_set w.taken) last_below_it) (base_facts size b good_b).above_separator);
      last_below_lem = λ e. rw (kept_key cut key) (below_cutoff_lem (key_if cut key) (separator_below_cutoff size q page sep (key_if cut key) a.base) (last_below_it e));
      cut_based = λ e. refl;
      base_floor = λ e. refl;
      no_cut = kept_key_absent cut key;
      no_over = h.canonical.kept.no_over;
      no_last = h.canonical.kept.no_last;
      known_turn_lem = refl;
      flags = record { mode = h.canonical.kept.flags.mode; based = omega arith; cut = bit_small cut; over = h.canonical.kept.flags.over; taken = h.canonical.kept.flags.taken };
      keyed = record { latest = sep-long; cutoff = kept_key_long cut key key_long; overriding = h.canonical.kept.keyed.overriding; floor = sep-long; last = h.canonical.kept.keyed.last };
    }

    allows : allowed size v (NextBase b) ≡ true
    allows = and_both (awaits (turn_of w.turn) h.canonical.kept.known_turn_lem a.closed) (and_both reaches_it good_b)

    reached_base : Reached size based_state
    reached_base =
        record {
          canonical = record {
            ops = h.canonical.ops;
            laid = laid_base;
            kept = kept_base;
            invariant = rw base_seen (next_base_keeps_the_invariant size v (leaves_of size s.given) s.tally h.canonical.invariant b allows);
          };
          told = ap (told_next_base sep (key_if cut key)) h.told ∙ next_base_is_told w sep cut key;
        }

  pub next_base_reaches_a_state : length sep ≡ 32 → length key ≡ 32 → Reached size (next size s (next_base page sep cut key))
  next_base_reaches_a_state l m = go (eqb verdict 0) refl
    where
      go : (b : Bool) → eqb verdict 0 ≡ b → Reached size (next size s (next_base page sep cut key))
      go true e = equal_states_are_reached size based_state _ (accepted_next_base_is e) (reached_base l m (passes e))
      go false e = equal_states_are_reached size s _ (refused_next_base_changes_nothing e) h
