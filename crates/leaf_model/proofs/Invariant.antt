-- The invariant of a sequence of calls, and that ingest and digest keep it (`Bases` has the other calls). Assumes nothing.
use mathlib.Core.Path.{◌≡◌, refl, sym, ap, ◌∙◌}
use mathlib.Core.Bool.{true, not}
use mathlib.Core.Option.{Option, none, some, some-injective}
use mathlib.Core.List.{List, [], ◌∷◌, ◌++◌, append-nil, append_assoc}
use Prim.Native.Nat.{ℕ, ◌≤◌, ◌<◌}
use native.Mathlib.Nat.{le_trans, le_of_lt, lt_trans}
use borrow.Author.Tests.{leb-true}
use lib.ListN.{length}
use Rattle.bit_ops.specs.Key.{lt_key}
use Rattle.leaf_node.specs.Limits.{merge_below, value_limit, PageSize}
use Rattle.leaf_node.specs.Record.{Record, body}
use Rattle.leaf_node.specs.Fits.{All, Rising}
use Rattle.leaf_model.specs.Basics.{joined, nonempty}
use Rattle.leaf_model.specs.Cut.{Cut}
use Rattle.leaf_model.specs.Work.{Turn, Open, Waiting, Done, Work, Leaf, Change, Ingest, Digest, pending, has_key_length, below_cutoff, lets_in, or_else, current, records_below, inserted, ingested, turn_after, separator_after, override_after, floor_after, planned, given, digested, is_open, is_waiting, change_fits, allowed}
use Rattle.leaf_model.specs.Tally.{strike, place_all, tallied}
use Rattle.leaf_model.specs.Claim.{Lt, Le, records_of}
use Rattle.leaf_model.proofs.Tests.{clash, none_is_not_some, and_left, and_right}
use Rattle.leaf_model.proofs.Lists.{all_append, all_left, all_right_lem, all_map, nonempty_append}
use Rattle.leaf_model.proofs.Keys.{lt_of_test, le_of_not, lt_of_cutoff, rising_right}
use Rattle.leaf_model.proofs.Cutting.{whole, Fitting}
use Rattle.leaf_model.proofs.Plan.{Sized, leaves_and_kept_are_the_records, leaves_have_right_sizes, kept_records_wait_for_a_merge}
use Rattle.leaf_model.proofs.Separators.{AtOrAbove, BelowCutoff, leaves_have_the_cut_records, records_append, LeafRight, leaves_are_good, kept_records_are_above_their_separator, Links, links_append, leaves_of_a_digest_are_linked, digest_starts_at_its_separator, override_comes_with_records, records_come_with_override, kept_records_are_above_the_override, separator_is_below_cutoff}
use Rattle.leaf_model.proofs.Ingesting.{Low, split, inserted_all, tally_changes_as_the_work_does, keys_rise_after_ingest, pending_all}

abbrev pub HasKeyLength : Record → Type 0
HasKeyLength r = has_key_length r.key ≡ true

-- open: all that was given out or taken up lies below each key that is still let in
pub record OpenFacts (w : Work) (g : List Leaf) : Type 0 where
  pub past : All (λ r. (k : List ℕ) → lets_in w k ≡ true → Lt r.key k) (records_of g ++ w.listed)

-- waiting: an override below a cutoff, which is the floor, and too few records for a leaf
pub record WaitFacts (size : ℕ) (w : Work) : Type 0 where
  pub no_rest : w.rest ≡ []
  pub separator : List ℕ
  pub override_is : w.override ≡ some separator
  pub bound : List ℕ
  pub cutoff_is : w.cutoff ≡ some bound
  pub separator_below_bound : Lt separator bound
  pub floor_is : w.floor ≡ bound
  pub few : body w.listed < merge_below size

-- done: nothing pending
pub record DoneFacts (w : Work) : Type 0 where
  pub no_listed : w.listed ≡ []
  pub no_rest : w.rest ≡ []
  pub no_override : w.override ≡ none

abbrev pub AtTurn : ℕ → Turn → Work → List Leaf → Type 0
AtTurn size Open w g = OpenFacts w g
AtTurn size Waiting w g = WaitFacts size w
AtTurn size Done w g = DoneFacts w

-- Of a work w, the leaves g given out so far and the tally t. Beside the claim itself: what the next call needs so that it holds again.
pub record Invariant (size : ℕ) (w : Work) (g : List Leaf) (t : List Record) : Type 0 where
  pub tally : records_of g ++ pending w ≡ t
  pub rising : Rising t
  pub leaves : All (LeafRight size) g
  -- a linked leaf ends where the next one starts; the last one ends at the override, from which the next digest starts
  pub links : Links w.override g
  -- so that digest gives a leaf there, or keeps records there
  pub override_has_records : (s : List ℕ) → w.override ≡ some s → nonempty w.listed ≡ true
  -- the first leaf's separator is at or below its keys
  pub above_separator : All (AtOrAbove (current w)) (pending w)
  -- the last leaf's cutoff is above its keys; a next base starts there, so it must be above all keys of the tally
  pub below_cutoff_lem : All (BelowCutoff w.cutoff) t
  -- no record overfills a leaf alone, and a leaf that is full is large enough
  pub fitting : All (Fitting size) (pending w)
  -- pages hold keys of 32 bytes alone
  pub key_lengths : All HasKeyLength t
  -- a key that is let in is at or above the current separator, also where a digest clears the override, or sets the floor to the cutoff
  pub floor_above_separator : Le (current w) w.floor
  pub floor_above_latest : Le w.latest w.floor
  pub latest_below_cutoff : below_cutoff w.cutoff w.latest ≡ true
  pub at_turn : AtTurn size w.turn w g

pub at_open : (size : ℕ) (t : Turn) (w : Work) (g : List Leaf) → is_open t ≡ true → AtTurn size t w g → OpenFacts w g
at_open size Open w g e h = h
at_open size Waiting w g e h = clash e refl
at_open size Done w g e h = clash e refl

pub at_waiting : (size : ℕ) (t : Turn) (w : Work) (g : List Leaf) → is_waiting t ≡ true → AtTurn size t w g → WaitFacts size w
at_waiting size Open w g e h = clash e refl
at_waiting size Waiting w g e h = h
at_waiting size Done w g e h = clash e refl

-- after an ingest of l, a key that is let in is above l
let_in_above : (w : Work) (l k : List ℕ) → lets_in (ingested w l none) k ≡ true → Lt l k
let_in_above w l k h = lt_of_test l k (and_right (not (lt_key k w.floor)) _ h)

change_fitting : (size : ℕ) (c : Option Change) (d : Change) → change_fits size c ≡ true → c ≡ some d → length d.value ≤ value_limit size
change_fitting size none d h e = none_is_not_some e
change_fitting size (some c) d h e = rw (← some-injective c d e) (leb-true _ _ h)

module _ (size : ℕ) (w : Work) (g : List Leaf) (t : List Record) (h : Invariant size w g t) where
  module _ (k : List ℕ) (c : Option Change) (ok : allowed size w (Ingest k c) ≡ true) where
    pub ingest_keeps_the_invariant : Invariant size (ingested w k c) g (tallied (Ingest k c) t)
    ingest_keeps_the_invariant =
        let ok₁ = and_right (is_open w.turn) _ ok in
        let ok₂ = and_right (lets_in w k) _ ok₁ in
        let ok₃ = and_right (below_cutoff w.cutoff k) _ ok₂ in
        let let_in : lets_in w k ≡ true = and_left _ _ ok₁ in
        let below : below_cutoff w.cutoff k ≡ true = and_left _ _ ok₂ in
        let fitting-c : change_fits size c ≡ true = and_left _ _ ok₃ in
        let length-k : has_key_length k ≡ true = and_right (change_fits size c) _ ok₃ in
        let o : OpenFacts w g = at_open size w.turn w g (and_left _ _ ok) h.at_turn in
        let past : List Record = records_of g ++ w.listed in
        let e : t ≡ past ++ w.rest = sym h.tally ∙ sym (append_assoc (records_of g) w.listed w.rest) in
        let u : Rising (past ++ w.rest) = rw e at h.rising in
        let v : Rising w.rest = rising_right past w.rest u in
        let l : All (Low k) past = all_map (λ r p. p k let_in) o.past in
        let changed = ap (λ x. place_all (inserted k c) (strike k x)) e ∙ tally_changes_as_the_work_does k past w.rest c l u in
        let tally-is : records_of g ++ pending (ingested w k c) ≡ tallied (Ingest k c) t = simp append_assoc (simp append_assoc at (sym changed)) in
        let cut_all : All (BelowCutoff w.cutoff) (records_of g ++ pending w) = rw h.tally h.below_cutoff_lem in
        let lengths-all : All HasKeyLength (records_of g ++ pending w) = rw h.tally h.key_lengths in
        record {
          tally = tally-is;
          rising = rw changed (keys_rise_after_ingest k past w.rest c l u);
          leaves = h.leaves;
          links = h.links;
          override_has_records = λ s q. nonempty_append w.listed _ (h.override_has_records s q);
          above_separator = pending_all k _ w.listed w.rest c v h.above_separator (λ d q. le_trans h.floor_above_separator (le_of_not w.floor k (and_left _ _ let_in)));
          below_cutoff_lem = rw (← tally-is) (all_append (all_left (records_of g) _ cut_all) (pending_all k _ w.listed w.rest c v (all_right_lem (records_of g) _ cut_all) (λ d q. below)));
          fitting = pending_all k _ w.listed w.rest c v h.fitting (λ d q. change_fitting size c d fitting-c q);
          key_lengths = rw (← tally-is) (all_append (all_left (records_of g) _ lengths-all) (pending_all k _ w.listed w.rest c v (all_right_lem (records_of g) _ lengths-all) (λ d q. length-k)));
          floor_above_separator = h.floor_above_separator;
          floor_above_latest = h.floor_above_latest;
          latest_below_cutoff = h.latest_below_cutoff;
          at_turn = record {
            past = rw (← append_assoc (records_of g) w.listed (records_below k w.rest ++ inserted k c))
                (all_append (all_map (λ r p k' q. lt_trans p (let_in_above w k k' q)) l)
                (all_append (all_map (λ r p k' q. lt_trans p (let_in_above w k k' q)) (split k w.rest v).low) (inserted_all k _ c (λ d e k' q. let_in_above w k k' q))));
          };
        }

  -- ---- digest

  floor_after_lem : (f s l : List ℕ) (c : Option (List ℕ)) (leaves : List (List Record)) (left : List Record) → Le l f → below_cutoff c l ≡ true
      → (nonempty left ≡ true → (b : List ℕ) × (c ≡ some b) × Lt (separator_after s leaves left) b)
      → Le (or_else (override_after s leaves left) l) (floor_after f c left) × Le l (floor_after f c left)
  floor_after_lem f s l c leaves [] low below kept = (low, low)
  floor_after_lem f s l c leaves (r ∷ rs) low below kept =
      let k = kept refl in
      rw k.1 (le_of_lt k.2, le_of_lt (lt_of_cutoff c l k.0 below k.1))

  floor_waiting : (f b : List ℕ) (c : Option (List ℕ)) (left : List Record) → nonempty left ≡ true → c ≡ some b → floor_after f c left ≡ b
  floor_waiting f b c [] n e = clash n refl
  floor_waiting f b c (r ∷ rs) n e = rw e

  at_turn_after : (left : List Record) (w' : Work) (g' : List Leaf) → (left ≡ [] → DoneFacts w')
      → (nonempty left ≡ true → WaitFacts size w') → AtTurn size (turn_after left) w' g'
  at_turn_after [] w' g' d f = d refl
  at_turn_after (r ∷ rs) w' g' d f = f refl

  module _ (p : PageSize size) (ok : allowed size w Digest ≡ true) where
    pub digest_keeps_the_invariant : Invariant size (digested size w) (g ++ given size w) t
    digest_keeps_the_invariant =
        let s = current w in
        let c : Cut = planned size w in
        let e : whole c ≡ pending w = leaves_and_kept_are_the_records size w.cutoff (pending w) in
        let z : Sized size w.cutoff c.left c.leaves = leaves_have_right_sizes size p w.cutoff (pending w) h.fitting in
        let rising-c : Rising (whole c) = rw e (rising_right (records_of g) _ (rw h.tally h.rising)) in
        let above : All (AtOrAbove s) (whole c) = rw e h.above_separator in
        let below : All (BelowCutoff w.cutoff) (whole c) = rw e (all_right_lem (records_of g) _ (rw h.tally h.below_cutoff_lem)) in
        let fitting-c : All (Fitting size) (whole c) = rw e h.fitting in
        let above-after : All (AtOrAbove (separator_after s c.leaves c.left)) c.left = kept_records_are_above_their_separator s z rising-c above in
        let kept : nonempty c.left ≡ true → (b : List ℕ) × (w.cutoff ≡ some b) × Lt (separator_after s c.leaves c.left) b = λ q.
        let b = kept_records_wait_for_a_merge size w.cutoff (pending w) q in
        (b.0, b.1, separator_is_below_cutoff _ b.0 w.cutoff c.left q above-after (all_right_lem (joined c.leaves) c.left below) b.1) in
        let floors = floor_after_lem w.floor s w.latest w.cutoff c.leaves c.left h.floor_above_latest h.latest_below_cutoff kept in
        record {
          tally = rw (records_append g (given size w), leaves_have_the_cut_records s w.cutoff (nonempty c.left) c.leaves c.left, append-nil c.left)
              (append_assoc (records_of g) (joined c.leaves) c.left ∙ ap (λ x. records_of g ++ x) e ∙ h.tally);
          rising = h.rising;
          leaves = all_append h.leaves (leaves_are_good s (nonempty c.left) z rising-c above below);
          links = links_append h.links
              (λ s' q. digest_starts_at_its_separator s s' w.cutoff (nonempty c.left) c.leaves c.left (rw q) (rw e (nonempty_append w.listed w.rest (h.override_has_records s' q))))
              (leaves_of_a_digest_are_linked s z);
          override_has_records = λ s' q. override_comes_with_records s s' c.leaves c.left q;
          above_separator = rw append-nil (kept_records_are_above_the_override s w.latest c.leaves c.left above-after);
          below_cutoff_lem = h.below_cutoff_lem;
          fitting = rw append-nil (all_right_lem (joined c.leaves) c.left fitting-c);
          key_lengths = h.key_lengths;
          floor_above_separator = floors.0;
          floor_above_latest = floors.1;
          latest_below_cutoff = h.latest_below_cutoff;
          at_turn = at_turn_after c.left (digested size w) (g ++ given size w)
              (λ q. record { no_listed = q; no_rest = refl; no_override = rw q })
              (λ q. let b = kept_records_wait_for_a_merge size w.cutoff (pending w) q in
              record {
                no_rest = refl;
                separator = separator_after s c.leaves c.left;
                override_is = records_come_with_override s c.leaves c.left q;
                bound = b.0;
                cutoff_is = b.1;
                separator_below_bound = (kept q).2;
                floor_is = floor_waiting w.floor b.0 w.cutoff c.left q b.1;
                few = b.2;
              });
        }
