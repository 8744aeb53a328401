-- Next base and cutoff removal keep the invariant, and an opening has it. Assumes nothing.
use mathlib.Core.Path.{◌≡◌, refl, sym, ap, ◌∙◌}
use mathlib.Core.Bool.{true, not}
use mathlib.Core.Option.{Option, none, some, some-injective}
use mathlib.Core.List.{List, [], ◌∷◌, ◌++◌, append-nil, append_assoc}
use Prim.Native.Nat.{ℕ}
use native.Mathlib.Nat.{le_refl, le_trans, le_of_lt, lt_trans, lt_of_lt_of_le}
use borrow.Author.Tests.{leb-true}
use lib.Dec.{leb}
use lib.ListN.{length}
use Rattle.bit_ops.specs.Key.{num, lt_key}
use Rattle.leaf_node.specs.Limits.{value_limit}
use Rattle.leaf_node.specs.Record.{Record}
use Rattle.leaf_node.specs.Fits.{All, nil, cons, Rising, rise[], rise∷}
use Rattle.leaf_model.specs.Work.{Turn, Open, Waiting, Done, Work, Leaf, Base, NextBase, RemoveCutoff, has_key_length, below_cutoff, or_else, current, with_base, awaits_base, reaches_cutoff, is_rising, within_bounds, good_base, allowed, effect}
use Rattle.leaf_model.specs.Tally.{tallied, opened_on, opened, good_opening}
use Rattle.leaf_model.specs.Claim.{Lt, Le, records_of}
use Rattle.leaf_model.proofs.Tests.{clash, none_is_not_some, and_left, and_right}
use Rattle.leaf_model.proofs.Lists.{all_append, all_head, all_left, all_map}
use Rattle.leaf_model.proofs.Keys.{lt_of_test, le_of_not, test_of_lt, lt_of_cutoff, rising_head, rising_append}
use Rattle.leaf_model.proofs.Cutting.{Fitting}
use Rattle.leaf_model.proofs.Separators.{AtOrAbove, BelowCutoff, links[]}
use Rattle.leaf_model.proofs.Invariant.{HasKeyLength, AtTurn, Invariant, at_waiting}

-- ---- a base that is not refused

pub rising_of_test : (xs : List Record) → is_rising xs ≡ true → Rising xs
rising_of_test [] h = rise[]
rising_of_test (x ∷ []) h = rise∷ nil rise[]
rising_of_test (x ∷ y ∷ ys) h =
    let u = rising_of_test (y ∷ ys) (and_right (lt_key x.key y.key) _ h) in
    let l = lt_of_test x.key y.key (and_left (lt_key x.key y.key) _ h) in
    rise∷ (cons l (all_map (λ r p. lt_trans l p) (rising_head u))) u

pub rising_test : {xs : List Record} → Rising xs → is_rising xs ≡ true
rising_test rise[] = refl
rising_test (rise∷ {xs = []} a h) = refl
rising_test (rise∷ {x = x} {xs = y ∷ ys} a h) = rw (test_of_lt x.key y.key (all_head a), rising_test h)

pub record BaseFacts (size : ℕ) (b : Base) : Type 0 where
  pub rising : Rising b.records
  pub above_separator : All (AtOrAbove b.separator) b.records
  pub below_cutoff_lem : All (BelowCutoff b.cutoff) b.records
  pub fitting : All (Fitting size) b.records
  pub key_lengths : All HasKeyLength b.records
  pub separator_below_cutoff : below_cutoff b.cutoff b.separator ≡ true

within_all : (size : ℕ) (s : List ℕ) (c : Option (List ℕ)) (xs : List Record) → within_bounds size s c xs ≡ true
    → All (λ r. AtOrAbove s r × BelowCutoff c r × Fitting size r × HasKeyLength r) xs
within_all size s c [] h = nil
within_all size s c (x ∷ xs) h =
    let h₁ = and_right (not (lt_key x.key s)) _ h in
    let h₂ = and_right (below_cutoff c x.key) _ h₁ in
    let h₃ = and_right (leb (length x.value) (value_limit size)) _ h₂ in
    cons (
      le_of_not s x.key (and_left (not (lt_key x.key s)) _ h),
      and_left (below_cutoff c x.key) _ h₁,
      leb-true _ _ (and_left (leb (length x.value) (value_limit size)) _ h₂),
      and_left (has_key_length x.key) _ h₃,
    )
    (within_all size s c xs (and_right (has_key_length x.key) _ h₃))

pub base_facts : (size : ℕ) (b : Base) → good_base size b ≡ true → BaseFacts size b
base_facts size b h =
    let h₁ = and_right (below_cutoff b.cutoff b.separator) _ h in
    let a = within_all size b.separator b.cutoff b.records (and_right (is_rising b.records) _ h₁) in
    record {
      rising = rising_of_test b.records (and_left (is_rising b.records) _ h₁);
      above_separator = all_map (λ r p. p.0) a;
      below_cutoff_lem = all_map (λ r p. p.1) a;
      fitting = all_map (λ r p. p.2) a;
      key_lengths = all_map (λ r p. p.3) a;
      separator_below_cutoff = and_left (below_cutoff b.cutoff b.separator) _ h;
    }

-- ---- next base

-- the work is ready for a base whose separator is s
record Ready (w : Work) (s : List ℕ) : Type 0 where
  no_rest : w.rest ≡ []
  listed_above : All (AtOrAbove (or_else w.override s)) w.listed
  floor_right : Le (or_else w.override s) s

ready : (size : ℕ) (t : Turn) (w : Work) (g : List Leaf) (c s : List ℕ) → awaits_base t ≡ true → AtTurn size t w g → All (AtOrAbove (current w)) w.listed
    → w.cutoff ≡ some c → Le c s → Ready w s
ready size Open w g c s t f a e l = clash t refl
ready size Waiting w g c s t f a e l =
    let same-bound : f.bound ≡ c = some-injective _ _ (sym f.cutoff_is ∙ e) in
    record {
      no_rest = f.no_rest;
      listed_above = rw f.override_is (rw f.override_is at a);
      floor_right = rw f.override_is (le_of_lt (lt_of_lt_of_le (rw same-bound at f.separator_below_bound) l));
    }
ready size Done w g c s t f a e l = record { no_rest = f.no_rest; listed_above = rw f.no_listed nil; floor_right = rw f.no_override (le_refl (num s)) }

reached_cutoff : (o : Option (List ℕ)) (s : List ℕ) → reaches_cutoff o s ≡ true → (c : List ℕ) × (o ≡ some c) × Le c s
reached_cutoff none s h = clash h refl
reached_cutoff (some c) s h = (c, refl, le_of_not c s h)

cutoff_down : (o : Option (List ℕ)) (a s : List ℕ) → Lt a s → below_cutoff o s ≡ true → below_cutoff o a ≡ true
cutoff_down none a s l h = refl
cutoff_down (some c) a s l h = test_of_lt a c (lt_trans l (lt_of_test s c h))

-- without a rest, the tally is the leaves' records and the listed ones
no_rest_tally : (past listed rest t : List Record) → past ++ (listed ++ rest) ≡ t → rest ≡ [] → t ≡ past ++ listed
no_rest_tally past listed rest t h e = sym h ∙ rw e (ap (λ x. past ++ x) (append-nil listed))

module _ (size : ℕ) (w : Work) (g : List Leaf) (t : List Record) (h : Invariant size w g t) where
  module _ (b : Base) (ok : allowed size w (NextBase b) ≡ true) where
    pub next_base_keeps_the_invariant : Invariant size (with_base w b) g (tallied (NextBase b) t)
    next_base_keeps_the_invariant =
        let s = b.separator in
        let ok₁ = and_right (awaits_base w.turn) _ ok in
        let f = base_facts size b (and_right (reaches_cutoff w.cutoff s) _ ok₁) in
        let q = reached_cutoff w.cutoff s (and_left (reaches_cutoff w.cutoff s) _ ok₁) in
        let r = ready size w.turn w g q.0 s (and_left (awaits_base w.turn) _ ok) h.at_turn (all_left w.listed w.rest h.above_separator) q.1 q.2 in
        let e : t ≡ records_of g ++ w.listed = no_rest_tally (records_of g) w.listed w.rest t h.tally r.no_rest in
        let below : All (λ r. Lt r.key s) t = all_map (λ r p. lt_of_lt_of_le (lt_of_cutoff w.cutoff r.key q.0 p q.1) q.2) h.below_cutoff_lem in
        record {
          tally = rw e (sym (append_assoc (records_of g) w.listed b.records));
          rising = rising_append h.rising f.rising (all_map (λ r p. all_map (λ y a. lt_of_lt_of_le p a) f.above_separator) below);
          leaves = h.leaves;
          links = h.links;
          override_has_records = h.override_has_records;
          above_separator = all_append r.listed_above (all_map (λ y a. le_trans r.floor_right a) f.above_separator);
          below_cutoff_lem = all_append (all_map (λ r p. cutoff_down b.cutoff r.key s p f.separator_below_cutoff) below) f.below_cutoff_lem;
          fitting = all_append (all_left w.listed w.rest h.fitting) f.fitting;
          key_lengths = all_append h.key_lengths f.key_lengths;
          floor_above_separator = r.floor_right;
          floor_above_latest = le_refl (num s);
          latest_below_cutoff = f.separator_below_cutoff;
          at_turn = record { past = all_map (λ r p k a. lt_of_lt_of_le p (le_of_not s k (and_left (not (lt_key k s)) _ a))) (rw e at below) };
        }

  -- ---- cutoff removal

  module _ (ok : allowed size w RemoveCutoff ≡ true) where
    pub cutoff_removal_keeps_the_invariant : Invariant size (effect size w RemoveCutoff) g t
    cutoff_removal_keeps_the_invariant =
        let f = at_waiting size w.turn w g ok h.at_turn in
        let c = f.bound in
        let q : t ≡ records_of g ++ w.listed = no_rest_tally (records_of g) w.listed w.rest t h.tally f.no_rest in
        let below : All (λ r. Lt r.key w.floor) t = rw f.floor_is (all_map (λ r p. lt_of_cutoff w.cutoff r.key c p f.cutoff_is) h.below_cutoff_lem) in
        record {
          tally = rw append-nil (sym q);
          rising = h.rising;
          leaves = h.leaves;
          links = h.links;
          override_has_records = h.override_has_records;
          above_separator = rw append-nil (all_left w.listed w.rest h.above_separator);
          below_cutoff_lem = all_map (λ r p. refl) below;
          fitting = rw append-nil (all_left w.listed w.rest h.fitting);
          key_lengths = h.key_lengths;
          floor_above_separator = h.floor_above_separator;
          floor_above_latest = h.floor_above_latest;
          latest_below_cutoff = refl;
          at_turn = record { past = all_map (λ r p k a. lt_of_lt_of_le p (le_of_not w.floor k (and_left (not (lt_key k w.floor)) _ a))) (rw q at below) };
        }

-- ---- opening

opening_on_a_base : (size : ℕ) (b : Base) → good_base size b ≡ true → Invariant size (opened_on b).work [] b.records
opening_on_a_base size b ok =
    let f = base_facts size b ok in
    record {
      tally = refl;
      rising = f.rising;
      leaves = nil;
      links = links[];
      override_has_records = λ s e. none_is_not_some e;
      above_separator = f.above_separator;
      below_cutoff_lem = f.below_cutoff_lem;
      fitting = f.fitting;
      key_lengths = f.key_lengths;
      floor_above_separator = le_refl (num b.separator);
      floor_above_latest = le_refl (num b.separator);
      latest_below_cutoff = f.separator_below_cutoff;
      at_turn = record { past = nil };
    }

pub opening_has_the_invariant : (size : ℕ) (o : Option Base) → good_opening size o ≡ true → Invariant size (opened o).work (opened o).leaves (opened o).tally
opening_has_the_invariant size (some b) ok = opening_on_a_base size b ok
opening_has_the_invariant size none ok = opening_on_a_base size _ refl
