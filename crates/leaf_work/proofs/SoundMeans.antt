-- What a sound work has, clause by clause. Assumes nothing.
use mathlib.Core.Path.{◌≡◌}
use mathlib.Core.Bool.{Bool, true}
use mathlib.Core.List.{List, [], ◌∷◌}
use Prim.Native.Nat.{ℕ}
use Rattle.leaf_node.specs.Fits.{All, nil, cons}
use Rattle.leaf_work.specs.declared.Work.{Work}
use Rattle.leaf_work.specs.declared.Entry.{Entry}
use Rattle.leaf_work.specs.Sound.{known_turn, known_flags, operations, stored, roomy, risen, rest_above, listed_past, passed_part, listed_fits, gauged, bounded, last_below, cutoff_right, override_right, waiting_right, done_right, floor_above, floor_at_turn, absent_zero, sound}
use Rattle.leaf_work.proofs.Tests.{every_all, all_every}

module _ (size : ℕ) (w : Work) (list : List Entry) (store p : List ℕ) where
  pub record Clauses : Type 0 where
    pub known_turn_lem : known_turn w ≡ true
    pub known_flags_lem : known_flags w ≡ true
    pub operations_right : operations size w list store p ≡ true
    pub store_right : stored size w list store p ≡ true
    pub room_right_lem : roomy size w list store p ≡ true
    pub keys_rise_lem : risen size w list store p ≡ true
    pub rest_above_lem : rest_above size w list store p ≡ true
    pub listed_past_lem : listed_past size w list store p ≡ true
    pub passed_part_lem : passed_part size w list store p ≡ true
    pub listed_fitting : listed_fits size w list store p ≡ true
    pub gauge_right : gauged size w list store p ≡ true
    pub keys_bounded : bounded size w list store p ≡ true
    pub last_below_lem : last_below w ≡ true
    pub cutoff_right_lem : cutoff_right w ≡ true
    pub override_right_lem : override_right size w list store p ≡ true
    pub waiting_right_lem : waiting_right size w list store p ≡ true
    pub done_right_lem : done_right size w list store p ≡ true
    pub floor_above_lem : floor_above w ≡ true
    pub floor_at_turn_lem : floor_at_turn w ≡ true
    pub absent_zero_lem : absent_zero w ≡ true

  pub clauses_of_a_sound_work : sound size w list store p ≡ true → Clauses
  unfolding sound
  clauses_of_a_sound_work h = go (every_all (λ b. b) _ h)
    where
      go : All (λ (b : Bool). b ≡ true) (
          known_turn w
          ∷ known_flags w
          ∷ operations size w list store p
          ∷ stored size w list store p
          ∷ roomy size w list store p
          ∷ risen size w list store p
          ∷ rest_above size w list store p
          ∷ listed_past size w list store p
          ∷ passed_part size w list store p
          ∷ listed_fits size w list store p
          ∷ gauged size w list store p
          ∷ bounded size w list store p
          ∷ last_below w
          ∷ cutoff_right w
          ∷ override_right size w list store p
          ∷ waiting_right size w list store p
          ∷ done_right size w list store p
          ∷ floor_above w
          ∷ floor_at_turn w
          ∷ absent_zero w
          ∷ []
          ) → Clauses
      go (cons c1 (cons c2 (cons c3 (cons c4 (cons c5 (cons c6 (cons c7 (cons c8 (cons c9 (cons c10 (cons c11 (cons c12 (cons c13 (cons c14 (cons c15 (cons c16 (cons c17 (cons c18 (cons c19 (cons c20 nil)))))))))))))))))))) =
          record {
            known_turn_lem = c1;
            known_flags_lem = c2;
            operations_right = c3;
            store_right = c4;
            room_right_lem = c5;
            keys_rise_lem = c6;
            rest_above_lem = c7;
            listed_past_lem = c8;
            passed_part_lem = c9;
            listed_fitting = c10;
            gauge_right = c11;
            keys_bounded = c12;
            last_below_lem = c13;
            cutoff_right_lem = c14;
            override_right_lem = c15;
            waiting_right_lem = c16;
            done_right_lem = c17;
            floor_above_lem = c18;
            floor_at_turn_lem = c19;
            absent_zero_lem = c20;
          }

  pub a_work_with_all_clauses_is_sound : Clauses → sound size w list store p ≡ true
  unfolding sound
  a_work_with_all_clauses_is_sound c =
      all_every (λ b. b)
      (cons c.known_turn_lem
      (cons c.known_flags_lem
      (cons c.operations_right
      (cons c.store_right
      (cons c.room_right_lem
      (cons c.keys_rise_lem
      (cons c.rest_above_lem
      (cons c.listed_past_lem
      (cons c.passed_part_lem
      (cons c.listed_fitting
      (cons c.gauge_right
      (cons c.keys_bounded
      (cons c.last_below_lem
      (cons c.cutoff_right_lem
      (cons c.override_right_lem
      (cons c.waiting_right_lem
      (cons c.done_right_lem
      (cons c.floor_above_lem
      (cons c.floor_at_turn_lem
      (cons c.absent_zero_lem nil))))))))))))))))))))
