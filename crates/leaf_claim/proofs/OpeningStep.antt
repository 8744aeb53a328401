-- An accepted opening reaches a state. Assumes nothing.
use mathlib.Core.Path.{◌≡◌, refl, ap, ◌∙◌}
use mathlib.Core.Bool.{Bool, true, false, ◌&&◌, false≢true}
use mathlib.Core.Option.{none, some}
use mathlib.Core.List.{List, [], ◌∷◌}
use Prim.Native.Nat.{ℕ, ◌+◌, ◌≤◌}
use native.Mathlib.Omega.{arith}
use lib.Dec.{eqb, leb}
use lib.ListN.{length, replicate, length-replicate}
use borrow.Author.Tests.{eq-eqb, leb-true}
use Rattle.bit_ops.specs.Steps.{zeros}
use Rattle.leaf_node.specs.Limits.{PageSize, record_limit}
use Rattle.leaf_node.specs.Record.{Record, total}
use Rattle.leaf_node.specs.Page.{run, records_between, records}
use Rattle.leaf_node.specs.Good.{Good}
use Rattle.leaf_node.specs.Fits.{All, nil, cons}
use Rattle.leaf_model.specs.Work.{Open, Base, zero_key}
use Rattle.leaf_model.specs.Tally as model
use Rattle.leaf_model.proofs.Tests.{and_left, and_right}
use Rattle.leaf_model.proofs.Bases.{opening_has_the_invariant}
use Rattle.leaf_work.specs.declared.Work.{Work}
use Rattle.leaf_work.specs.declared.Entry.{Entry}
use Rattle.leaf_work.specs.Tests.{key_if}
use Rattle.leaf_work.specs.Lent.{blank, most_entries, most_store_bytes, room_right}
use Rattle.leaf_work.specs.Pending.{rest_of, pending_of}
use Rattle.leaf_work.specs.Verdict.{base_verdict, Opening, with_base_lem, with_none, open_verdict}
use Rattle.leaf_work.specs.Outcome.{Accepted, Opened, open_work, open_of}
use Rattle.leaf_work.proofs.Tests.{passed, first_passed, bit_small, kept_key, kept_key_long, kept_key_absent}
use Rattle.leaf_work.proofs.Laid.{Laid, an_ignored_page_has_no_records, listed_is, rest_is, pending_is, sees_work}
use Rattle.leaf_work.proofs.BasePages.{a_good_page_has_few_records, values_of_a_good_page_are_no_longer_than_it, base_page_is_good, base_is_good, lent_again_the_page_passes}
use Rattle.leaf_claim.specs.Told.{told_opening}
use Rattle.leaf_claim.specs.Sequence.{State, opened_tally, opened_page, opened}
use Rattle.leaf_claim.specs.Claim.{FormedOpening}
use Rattle.leaf_claim.proofs.Agreeing.{opening_is_told}
use Rattle.leaf_claim.proofs.Reached.{Reached, equal_states_are_reached}
use Rattle.leaf_claim.proofs.NextBaseStep.{all_of_the_base}

-- the state that an accepted opening makes, of n entries and m store bytes
abbrev pub opened_state : Bool → Opening → ℕ → ℕ → State
opened_state every x n m = record { work = open_work every x; list = replicate n blank; store = zeros m; page = opened_page x; told = told_opening x; given = []; tally = opened_tally x }

pub accepted_opening_is : (size : ℕ) (every : Bool) (x : Opening) (w : Work) (list : List Entry) (store : List ℕ) → open_verdict size x list store ≡ 0
    → opened size every x w list store ≡ opened_state every x (length list) (length store)
unfolding open_of
accepted_opening_is size every x w list store e =
    let f : eqb (open_verdict size x list store) 0 ≡ true = eq-eqb _ _ e in
    let r : open_of size every x w list store ≡ record { reply = Accepted; work = open_work every x; list = replicate (length list) blank; store = zeros (length store) } = rw (f, open_of) in
    ap (λ (o : Opened). record { work = o.work; list = o.list; store = o.store; page = opened_page x; told = told_opening x; given = []; tally = opened_tally x }) r

laid_opened : (w : Work) (n m : ℕ) (p : List ℕ) → w.used ≡ 0 → w.filled ≡ 0 → w.count ≡ 0 → w.bytes ≡ 0 → w.low ≡ 0 → w.over ≡ 0 → Laid w (replicate n blank) (zeros m) p []
unfolding total
laid_opened w n m p u f c b l o =
    record {
      room = n;
      spare = m;
      list_is = refl;
      store_is = refl;
      used_is = u;
      filled_is = f;
      count_is = c;
      bytes_is = b;
      low_in = rw l (omega arith);
      chunks = nil;
      override_has_insert = λ e. absurd (false≢true (rw o at e));
    }

module _ (size : ℕ) (q : PageSize size) (every : Bool) (n m : ℕ) (right_room : room_right size n m ≡ true) where
  room_again : room_right size (length (replicate n blank)) (length (zeros m)) ≡ true
  room_again = rw (length-replicate n blank, length-replicate {A = ℕ} m 0) right_room

  entries_enough : record_limit size + 1 ≤ n
  entries_enough =
      let a₁ = and_left (leb (record_limit size + 1) n && leb n most_entries && leb size m) (leb m most_store_bytes) right_room in
      let a₂ = and_left (leb (record_limit size + 1) n && leb n most_entries) (leb size m) a₁ in
      leb-true _ _ (and_left (leb (record_limit size + 1) n) (leb n most_entries) a₂)

  bytes_enough : size ≤ m
  bytes_enough =
      leb-true _ _ (and_right (leb (record_limit size + 1) n && leb n most_entries) (leb size m)
      (and_left (leb (record_limit size + 1) n && leb n most_entries && leb size m) (leb m most_store_bytes) right_room))

  module _ (page sep : List ℕ) (cut : Bool) (key : List ℕ) (sep-long : length sep ≡ 32) (key_long : length key ≡ 32) (e : base_verdict size page sep (key_if cut key) ≡ 0) where
    abbrev w : Work
    w = open_work every (with_base_lem page sep cut key)

    l : Laid w (replicate n blank) (zeros m) page []
    l = laid_opened w n m page refl refl refl refl refl refl

    rest_opened : rest_of w (zeros m) page ≡ records page
    rest_opened = rest_is w (replicate n blank) (zeros m) page [] l ∙ all_of_the_base page

    pending_opened : pending_of w (replicate n blank) (zeros m) page ≡ records page
    pending_opened = pending_is w (replicate n blank) (zeros m) page [] l ∙ all_of_the_base page

    abbrev b : Base
    b = record { records = records page; separator = sep; cutoff = key_if cut key }

    opening_seen : sees_work w (replicate n blank) (zeros m) page ≡ (model.opened_on b).work
    opening_seen = λ j. record {
      turn = Open;
      listed = listed_is w (replicate n blank) (zeros m) page [] l j;
      rest = rest_opened j;
      override = none;
      latest = sep;
      cutoff = kept_key cut key j;
      floor = sep;
      last = none;
    }

    g : Good size page
    g = base_page_is_good size q page sep (key_if cut key) e

    reached_with_base : Reached size (opened_state every (with_base_lem page sep cut key) n m)
    reached_with_base = record {
      canonical = record {
        ops = [];
        laid = l;
        kept = record {
          right_room = room_again;
          room_list = rw (pending_opened, length-replicate n blank) (omega (arith, entries_enough, a_good_page_has_few_records size q page g));
          room_store = rw (pending_opened, length-replicate {A = ℕ} m 0) (omega (arith, bytes_enough, values_of_a_good_page_are_no_longer_than_it size q page g));
          base_right = λ y. rw (kept_key cut key) (lent_again_the_page_passes size q page sep (key_if cut key) e);
          rest_above_lem = rw rest_opened (all_true (records page));
          last_below_lem = λ y. absurd (false≢true y);
          cut_based = λ y. refl;
          base_floor = λ y. refl;
          no_cut = kept_key_absent cut key;
          no_over = λ y. refl;
          no_last = λ y. refl;
          known_turn_lem = refl;
          flags = record { mode = bit_small every; based = omega arith; cut = bit_small cut; over = omega arith; taken = omega arith };
          keyed = record { latest = sep-long; cutoff = kept_key_long cut key key_long; overriding = refl; floor = sep-long; last = refl };
        };
        invariant = rw opening_seen (opening_has_the_invariant size (some b) (base_is_good size q page sep (key_if cut key) e));
      };
      told = opening_is_told every (with_base_lem page sep cut key);
    }
      where
        all_true : (xs : List Record) → All (λ r. true ≡ true) xs
        all_true [] = nil
        all_true (x ∷ xs) = cons refl (all_true xs)

  -- ---- no base

  abbrev w₀ : Work
  w₀ = open_work every (with_none false)

  l₀ : Laid w₀ (replicate n blank) (zeros m) [] []
  l₀ = laid_opened w₀ n m [] refl refl refl refl refl refl

  rest_none : rest_of w₀ (zeros m) [] ≡ []
  unfolding records_between run
  rest_none = rest_is w₀ (replicate n blank) (zeros m) [] [] l₀ ∙ rw an_ignored_page_has_no_records

  pending_none : pending_of w₀ (replicate n blank) (zeros m) [] ≡ []
  unfolding records_between run
  pending_none = pending_is w₀ (replicate n blank) (zeros m) [] [] l₀ ∙ rw an_ignored_page_has_no_records

  bare_opening_seen : sees_work w₀ (replicate n blank) (zeros m) [] ≡ (model.opened none).work
  bare_opening_seen = λ j. record {
    turn = Open;
    listed = listed_is w₀ (replicate n blank) (zeros m) [] [] l₀ j;
    rest = rest_none j;
    override = none;
    latest = zero_key;
    cutoff = none;
    floor = zero_key;
    last = none;
  }

  reached_with_none : Reached size (opened_state every (with_none false) n m)
  unfolding total
  reached_with_none = record {
    canonical = record {
      ops = [];
      laid = l₀;
      kept = record {
        right_room = room_again;
        room_list = rw pending_none (omega arith);
        room_store = rw pending_none (omega arith);
        base_right = λ y. absurd (false≢true y);
        rest_above_lem = rw rest_none nil;
        last_below_lem = λ y. absurd (false≢true y);
        cut_based = λ y. absurd (false≢true y);
        base_floor = λ y. absurd (false≢true y);
        no_cut = λ y. refl;
        no_over = λ y. refl;
        no_last = λ y. refl;
        known_turn_lem = refl;
        flags = record { mode = bit_small every; based = omega arith; cut = omega arith; over = omega arith; taken = omega arith };
        keyed = record { latest = refl; cutoff = refl; overriding = refl; floor = refl; last = refl };
      };
      invariant = rw bare_opening_seen (opening_has_the_invariant size none refl);
    };
    told = opening_is_told every (with_none false);
  }

pub accepted_opening_reaches_a_state : (size : ℕ) → PageSize size → (every : Bool) (x : Opening) → FormedOpening x → (w : Work) (list : List Entry) (store : List ℕ)
    → open_verdict size x list store ≡ 0 → Reached size (opened size every x w list store)
unfolding open_verdict
accepted_opening_reaches_a_state size q every (with_base_lem page sep cut key) f w list store e =
    let a = first_passed (base_verdict size page sep (key_if cut key)) _ e in
    let room = (passed 6 (room_right size (length list) (length store)) 0 a.1).0 in
    equal_states_are_reached size _ _ (accepted_opening_is size every (with_base_lem page sep cut key) w list store e)
    (reached_with_base size q every (length list) (length store) room page sep cut key f.0 f.1 a.0)
accepted_opening_reaches_a_state size q every (with_none false) f w list store e =
    equal_states_are_reached size _ _ (accepted_opening_is size every (with_none false) w list store e)
    (reached_with_none size q every (length list) (length store) (passed 6 (room_right size (length list) (length store)) 0 e).0)
accepted_opening_reaches_a_state size q every (with_none true) f w list store e = absurd (omega arith)
