-- Changes that Nos. 10, 12 and 13 let pass are right edits, and what they insert is what their entries say. Assumes nothing.
use mathlib.Core.Path.{◌≡◌, refl}
use mathlib.Core.Bool.{Bool, true, false, cond}
use mathlib.Core.Option.{Option, none, some, some-injective}
use mathlib.Core.List.{List, [], ◌∷◌}
use Prim.Native.Nat.{ℕ, ◌+◌, ◌≤◌}
use native.Mathlib.Nat.{lt_trans}
use native.Mathlib.Omega.{arith}
use lib.Dec.{leb}
use lib.ListN.{length, take, drop, length-take, length-drop}
use lib.Seq.{length-take-le}
use borrow.Author.Tests.{leb-true}
use Rattle.bit_ops.specs.Key.{lt_key}
use Rattle.leaf_node.specs.Limits.{value_limit}
use Rattle.leaf_node.specs.Record.{body}
use Rattle.leaf_node.specs.Fits.{All, nil, cons}
use Rattle.leaf_model.specs.Work.{Change, inserted}
use Rattle.leaf_model.specs.Claim.{Lt}
use Rattle.leaf_model.proofs.Tests.{and_left, and_right, none_is_not_some}
use Rattle.leaf_model.proofs.Lists.{all_map}
use Rattle.leaf_model.proofs.Keys.{lt_of_test}
use Rattle.leaf_work.proofs.Tests.{every_all}
use Rattle.row_turns.specs.Changes.{Edit, inserted_body, RisingEdits, edits[], edits∷, EditsRight}
use Rattle.row_changes.specs.Packed.{key_of, is_put, flag_of, length_of, value_length, change_of, edits_of}
use Rattle.row_changes.specs.Tests.{values_length, lengths_fit, keys_rising, put_body, put_bodies}
use Rattle.row_changes.proofs.Entries.{a_key_has_32_bytes}

-- ---- their keys

rising_head : {e : Edit} {es : List Edit} → RisingEdits (e ∷ es) → All (λ x. Lt e.key x.key) es
rising_head (edits∷ a h) = a

rising : (cs : List (List ℕ)) (values : List ℕ) → keys_rising cs ≡ true → RisingEdits (edits_of cs values)
rising [] values h = edits[]
rising (c ∷ []) values h = edits∷ nil edits[]
rising (c ∷ d ∷ cs) values h =
    let r = rising (d ∷ cs) (drop (value_length c) values) (and_right (lt_key (key_of c) (key_of d)) _ h) in
    let l : Lt (key_of c) (key_of d) = lt_of_test (key_of c) (key_of d) (and_left (lt_key (key_of c) (key_of d)) _ h) in
    edits∷ (cons l (all_map (λ x p. lt_trans l p) (rising_head r))) r

keyed : {cs : List (List ℕ)} (values : List ℕ) → All (λ c. length c ≡ 40) cs → All (λ e. length e.key ≡ 32) (edits_of cs values)
unfolding key_of
keyed values nil = nil
keyed values (cons {x = c} h a) = cons (a_key_has_32_bytes c h (take 32 c) refl) (keyed (drop (value_length c) values) a)

-- ---- their values

module _ (c values : List ℕ) where
  put_length : (d : Change) → change_of c values ≡ some d → length d.value ≤ value_length c
  unfolding value_length
  put_length d e = go (is_put c) e
    where
      go : (b : Bool) → ◌≡◌ {A = Option Change} (elim b [ true ↦ some (record { value = take (length_of c) values; flag = flag_of c }) | false ↦ none ]) (some d) → length d.value ≤ cond b (length_of c) 0
      go true e = rw (← some-injective _ d e) (simp length-take (omega arith))
      go false e = none_is_not_some e

fitting : (most : ℕ) (cs : List (List ℕ)) (values : List ℕ) → All (λ c. leb (value_length c) most ≡ true) cs
    → All (λ e. (d : Change) → e.change ≡ some d → length d.value ≤ most) (edits_of cs values)
fitting most [] values nil = nil
fitting most (c ∷ cs) values (cons h a) =
    cons {x = record { key = key_of c; change = change_of c values }} (λ d e. omega (arith, put_length c values d e, leb-true (value_length c) most h)) (fitting most cs (drop (value_length c) values) a)

-- what the entries say is inserted, where the buffer has all values
insertion : (c values : List ℕ) → value_length c ≤ length values → body (inserted (key_of c) (change_of c values)) ≡ put_body c
unfolding value_length put_body
insertion c values h = go (is_put c) h
  where
    go : (b : Bool) → cond b (length_of c) 0 ≤ length values
        → body (inserted (key_of c) (elim b [ true ↦ some (record { value = take (length_of c) values; flag = flag_of c }) | false ↦ none ])) ≡ cond b (34 + length_of c) 0
    go true h = omega (arith, length-take-le (length_of c) values h)
    go false h = refl

pub inserted_bodies_are_those_of_the_entries : (cs : List (List ℕ)) (values : List ℕ) → values_length cs ≤ length values → inserted_body (edits_of cs values) ≡ put_bodies cs
inserted_bodies_are_those_of_the_entries [] values h = refl
inserted_bodies_are_those_of_the_entries (c ∷ cs) values h =
    let i = insertion c values (omega (arith, h)) in
    let r = inserted_bodies_are_those_of_the_entries cs (drop (value_length c) values) (omega (arith, h, length-drop (value_length c) values)) in
    omega (arith, i, r)

-- Nos. 12 and 13
pub changes_that_pass_are_right : (size : ℕ) (cs : List (List ℕ)) (values : List ℕ) → All (λ c. length c ≡ 40) cs → lengths_fit (value_limit size) cs ≡ true → keys_rising cs ≡ true
    → EditsRight size (edits_of cs values)
changes_that_pass_are_right size cs values k f r = record {
  rising = rising cs values r;
  fitting = fitting (value_limit size) cs values (every_all _ cs f);
  keyed = keyed values k;
}
