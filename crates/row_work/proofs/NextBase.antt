-- A leaf that is loaded where records wait for a merge: it is their next base, its separator the cutoff that they wait for. Room alone can refuse it. Assumes nothing.
use mathlib.Core.Path.{◌≡◌, refl, sym, ap, subst, ◌∙◌}
use mathlib.Core.Bool.{Bool, true, false, not}
use mathlib.Core.Option.{Option, some}
use mathlib.Core.List.{List, [], ◌++◌}
use Prim.Native.Nat.{ℕ}
use native.Mathlib.Nat.{le_refl, lt_of_lt_of_le}
use lib.Dec.{eqb}
use lib.ListN.{length}
use borrow.Author.Tests.{eq-eqb}
use Rattle.bit_ops.specs.Key.{num, lt_key}
use Rattle.leaf_node.specs.Limits.{PageSize}
use Rattle.leaf_node.specs.Record.{Record}
use Rattle.leaf_node.specs.Page.{records}
use Rattle.leaf_node.specs.Fits.{All}
use Rattle.leaf_model.specs.Work.{or_else, above_last, below_cutoff}
use Rattle.leaf_model.specs.Claim.{Lt, Le}
use Rattle.leaf_model.proofs.Lists.{all_map}
use Rattle.leaf_model.proofs.Keys.{test_of_le, test_of_lt, lt_of_test}
use Rattle.leaf_work.specs.declared.Work.{Work}
use Rattle.leaf_work.specs.declared.Entry.{Entry}
use Rattle.leaf_work.specs.Tests.{is_set, key_if}
use Rattle.leaf_work.specs.Lent.{is_open, regarded}
use Rattle.leaf_work.specs.Pending.{pending_of}
use Rattle.leaf_work.specs.Sound.{lets_in, sound}
use Rattle.leaf_work.specs.Verdict.{base_verdict, follows_verdict, next_base_verdict}
use Rattle.leaf_work.specs.Outcome.{Accepted, Changed, next_base_work, next_base_of}
use Rattle.leaf_work.proofs.Tests.{and_both, kept_key, key_is_there}
use Rattle.leaf_work.proofs.Laid.{waiting_is_not_open, ignored, pending_parts}
use Rattle.leaf_work.proofs.Canonical.{canonical_work_is_sound}
use Rattle.leaf_claim.specs.Sequence.{State, next_base, answered, next, leaves_of}
use Rattle.leaf_claim.specs.Claim.{table_says}
use Rattle.leaf_claim.proofs.Agreeing.{told_of, closed_as_told}
use Rattle.leaf_claim.proofs.Reached.{Reached}
use Rattle.leaf_claim.proofs.NextBaseStep.{accepted_change, next_base_answers_its_verdict, next_base_reaches_a_state}
use Rattle.leaf_claim.proofs.Refusals.{calls_are_refused_as_the_table_says}
use Rattle.row_turns.specs.Changes.{Edit, EditsRight}
use Rattle.row_turns.specs.Turns.{room_verdict}
use Rattle.row_work.specs.Loaded.{Holding, Loaded, Waits}
use Rattle.row_work.proofs.Holds.{state, the_work_is_reached, a_reached_work_holds}
use Rattle.row_work.proofs.Opening.{Opens}

module _ (size : ℕ) (q : PageSize size) (w : Work) (list : List Entry) (store : List ℕ) (kept : List Record) (s sep : List ℕ) (h : Waits size w list store kept s (some sep))
    (page : List ℕ) (cut : Bool) (key : List ℕ) (base : base_verdict size page sep (key_if cut key) ≡ 0) where
  abbrev at : State
  at = state size q w list store [] h.holds

  reached : Reached size at
  reached = the_work_is_reached size q w list store [] h.holds

  closed : is_open w ≡ false
  closed = waiting_is_not_open w h.waiting

  has_cutoff_lem : (is_set w.cut ≡ true) × (w.cutoff ≡ sep)
  has_cutoff_lem = key_is_there (is_set w.cut) w.cutoff sep h.cutoff

  -- No. 13 passes: the separator is the cutoff itself
  reaches : lt_key sep w.cutoff ≡ false
  reaches = rw has_cutoff_lem.1 (test_of_le sep sep (le_refl (num sep)))

  is_sound : sound size w list store [] ≡ true
  is_sound = ap (sound size w list store) (sym (ignored w [] closed)) ∙ canonical_work_is_sound size w list store [] (leaves_of size at.given) at.tally reached.canonical

  abbrev pub number : ℕ
  number = follows_verdict w page sep (length list) (length store)

  verdict_is : next_base_verdict size w list store page sep (key_if cut key) ≡ number
  unfolding next_base_verdict
  verdict_is = rw (base, reached.canonical.kept.right_room, closed, is_sound)

  pending_now : pending_of w list store (regarded w []) ≡ kept
  pending_now = ap (pending_of w list store) (ignored w [] closed) ∙ h.pending_is

  -- Nos. 15 and 16 alone
  pub the_room_decides : number ≡ room_verdict (length list) (length store) (kept ++ records page)
  the_room_decides =
      sym verdict_is
      ∙ sym (next_base_answers_its_verdict size q at reached page sep cut key)
      ∙ calls_are_refused_as_the_table_says size at reached q (next_base page sep cut key)
      ∙ ap (λ (rs : List Record). table_says size (told_of w) rs (length list) (length store) (next_base page sep cut key)) pending_now
      ∙ rw (base, closed_as_told w reached.canonical.kept.known_turn_lem, closed, h.cutoff, test_of_le sep sep (le_refl (num sep)))

  module _ (z : number ≡ 0) (sep-long : length sep ≡ 32) (key_long : length key ≡ 32) where
    abbrev pub next_work : Work
    next_work = next_base_work w sep cut key

    changed_is : next_base_of size w list store page sep cut key ≡ record { reply = Accepted; work = next_work }
    unfolding next_base_of
    changed_is = accepted_change (next_base_verdict size w list store page sep (key_if cut key)) w next_work (eq-eqb _ _ (verdict_is ∙ z))

    abbrev after : State
    after = next size at (next_base page sep cut key)

    reached' : Reached size after
    reached' = next_base_reaches_a_state size q at reached page sep cut key sep-long key_long

    taken : eqb (answered size at (next_base page sep cut key)) 0 ≡ true
    taken = eq-eqb _ _ (next_base_answers_its_verdict size q at reached page sep cut key ∙ verdict_is ∙ z)

    page_is : after.page ≡ page
    page_is = rw taken

    work_is : after.work ≡ next_work
    work_is = ap (λ (r : Changed). r.work) changed_is

    last_below_lem : (b : Bool) → (b ≡ true → Lt w.last sep) → (k : List ℕ) → Le sep k → above_last (key_if b w.last) k ≡ true
    last_below_lem true f k l = test_of_lt w.last k (lt_of_lt_of_le (f refl) l)
    last_below_lem false f k l = refl

    last_is_below : is_set w.taken ≡ true → Lt w.last sep
    last_is_below e = lt_of_test w.last sep (rw h.cutoff at (reached.canonical.kept.last_below_lem e))

    lets_in_lem : (k : List ℕ) → Le sep k → lets_in next_work k ≡ true
    lets_in_lem k l = and_both (ap not (test_of_le sep k l)) (last_below_lem (is_set w.taken) last_is_below k l)

    module _ (es : List Edit) (right : EditsRight size es) (above : All (λ e. Le sep e.key) es) (below : All (λ e. below_cutoff (key_if cut key) e.key ≡ true) es) where
      pub a_next_base_is_loaded : Loaded size next_work list store page es
      a_next_base_is_loaded = record {
        holds = subst (λ (x : Work). Holding size x list store page) work_is (subst (Holding size after.work list store) page_is (a_reached_work_holds size after reached'));
        opened = refl;
        whole = refl;
        edits = right;
        lets = all_map (λ e l. lets_in_lem e.key l) above;
        below = rw (kept_key cut key) below;
      }

    tally : pending_of after.work list store (regarded after.work after.page) ≡ kept ++ records page
    tally =
        pending_parts after.work list store (regarded after.work after.page)
        ∙ reached'.canonical.invariant.tally
        ∙ rw taken (ap (λ (rs : List Record). rs ++ records page) (sym (pending_parts w list store (regarded w [])) ∙ pending_now))

    pub a_next_base_comes_behind_what_waits : Opens next_work list store page s cut key (kept ++ records page)
    a_next_base_comes_behind_what_waits = record {
      separator = ap (λ (o : Option (List ℕ)). or_else o sep) h.override;
      cutoff = kept_key cut key;
      pending_is =
          ap (λ (p : List ℕ). pending_of next_work list store p) (sym page_is)
          ∙ ap (λ (x : Work). pending_of x list store (regarded x after.page)) (sym work_is)
          ∙ tally;
    }
