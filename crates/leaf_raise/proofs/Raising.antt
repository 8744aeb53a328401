-- One record is raised, and records come one below the other. Assumes nothing.
use mathlib.Core.Path.{◌≡◌, sym, ap, ◌∙◌}
use mathlib.Core.List.{List, [], ◌∷◌, ◌++◌, append-nil}
use Prim.Native.Nat.{ℕ, ◌+◌, ◌-◌, ◌≤◌, ◌<◌}
use native.Mathlib.Omega.{arith}
use lib.ListN.{length, set, length-append}
use Rattle.leaf_node.specs.Record.{Record, values, total}
use Rattle.leaf_node.proofs.Lengths.{length_values, values_append}
use Rattle.leaf_work.specs.declared.Entry.{Entry}
use Rattle.leaf_work.specs.Tests.{bit}
use Rattle.leaf_work.specs.Lent.{insert_at}
use Rattle.leaf_work.specs.Digest.{inserts_of}
use Rattle.leaf_work.proofs.Operations.{total_append}
use Rattle.leaf_builder.proofs.Writing.{total_one}
use Rattle.leaf_move.specs.Moving.{under}
use Rattle.leaf_move.proofs.Under.{under_none, length_under, under_under, under_one}
use Rattle.leaf_raise.specs.declared.Top.{Top}
use Rattle.leaf_raise.specs.Raising.{lower_by, Room, Raised}
use Rattle.leaf_raise.proofs.Inserts.{inserts_append, inserts_many}

-- ---- one record

module _ (list : List Entry) (store : List ℕ) (top : Top) (r : Record) (room : Room list store top (r ∷ [])) where
  pub its_value_has_a_place : length r.value ≤ top.to
  its_value_has_a_place = omega (arith, room.short, total_one r)

  module _ (next : Top) (e : next ≡ lower_by top 1 (length r.value)) where
    entry_is : next.entry ≡ top.entry - 1
    entry_is = ap (λ (t : Top). t.entry) e

    to_is : next.to ≡ top.to - length r.value
    to_is = ap (λ (t : Top). t.to) e

    pub its_entry_is_there : next.entry < length list
    its_entry_is_there = omega (arith, entry_is, room.few, room.list_in)

    insert_is : inserts_of (top.to - total (r ∷ [])) (r ∷ []) ≡ insert_at next.to top.to r.key (bit r.flag) ∷ []
    insert_is =
        let a : top.to - total (r ∷ []) ≡ next.to = omega (arith, total_one r, to_is) in
        let b : next.to + length r.value ≡ top.to = omega (arith, to_is, its_value_has_a_place) in
        rw (a, b)

    module _ (list' : List Entry) (store' : List ℕ) (f : list' ≡ set list next.entry (insert_at next.to top.to r.key (bit r.flag))) where
      one_set : set list next.entry (insert_at next.to top.to r.key (bit r.flag)) ≡ under list top.entry (insert_at next.to top.to r.key (bit r.flag) ∷ [])
      one_set =
          let x : Entry = insert_at next.to top.to r.key (bit r.flag) in
          let q : next.entry + 1 ≡ top.entry = omega (arith, entry_is, room.few) in
          under_one list next.entry x (omega (arith, its_entry_is_there)) ∙ ap (λ (j : ℕ). under list j (x ∷ [])) q

      one_value : values (r ∷ []) ≡ r.value
      unfolding values
      one_value = append-nil r.value

      pub a_moved_record_is_raised : store' ≡ under store top.at r.value → Raised list store top (r ∷ []) list' store'
      a_moved_record_is_raised s = record {
        list_is = f ∙ one_set ∙ ap (λ (es : List Entry). under list top.entry es) (sym insert_is);
        store_is = rw one_value s;
      }

-- ---- none

pub nothing_is_raised : (list : List Entry) (store : List ℕ) (top : Top) → Raised list store top [] list store
unfolding values
nothing_is_raised list store top = record {
  list_is = sym (under_none list top.entry);
  store_is = sym (under_none store top.at);
}

pub below_no_record : (top : Top) → top ≡ lower_by top 0 (total [])
unfolding total
below_no_record top =
    let a : top.entry ≡ top.entry - 0 = omega arith in
    let b : top.to ≡ top.to - 0 = omega arith in
    let c : top.at ≡ top.at - 0 = omega arith in
    λ j. record { entry = a j; to = b j; at = c j }

-- ---- what is raised leaves list and store as long as they were

module _ (list : List Entry) (store : List ℕ) (top : Top) (rs : List Record) (room : Room list store top rs) (list₁ : List Entry) (store₁ : List ℕ)
    (h : Raised list store top rs list₁ store₁) where
  pub list_as_long : length list₁ ≡ length list
  list_as_long = rw h.list_is (length_under list top.entry (inserts_of (top.to - total rs) rs) (omega (arith, inserts_many (top.to - total rs) rs, room.few)) room.list_in)

  pub store_as_long : length store₁ ≡ length store
  store_as_long = rw h.store_is (length_under store top.at (values rs) (omega (arith, length_values rs, room.fits)) room.store_in)

-- ---- rs below ss

pub room_for_the_last : (list : List Entry) (store : List ℕ) (top : Top) (rs ss : List Record) → Room list store top (rs ++ ss) → Room list store top ss
room_for_the_last list store top rs ss room = record {
  list_in = room.list_in;
  store_in = room.store_in;
  few = omega (arith, room.few, length-append rs ss);
  short = omega (arith, room.short, total_append rs ss);
  fits = omega (arith, room.fits, total_append rs ss);
}

module _ (list : List Entry) (store : List ℕ) (top : Top) (rs ss : List Record) (room : Room list store top (rs ++ ss)) where
  many : length (rs ++ ss) ≡ length rs + length ss
  many = length-append rs ss

  sums : total (rs ++ ss) ≡ total rs + total ss
  sums = total_append rs ss

  pub tops_join : lower_by (lower_by top (length ss) (total ss)) (length rs) (total rs) ≡ lower_by top (length (rs ++ ss)) (total (rs ++ ss))
  tops_join =
      let a : top.entry - length ss - length rs ≡ top.entry - length (rs ++ ss) = omega (arith, many) in
      let b : top.to - total ss - total rs ≡ top.to - total (rs ++ ss) = omega (arith, sums) in
      let c : top.at - total ss - total rs ≡ top.at - total (rs ++ ss) = omega (arith, sums) in
      λ j. record { entry = a j; to = b j; at = c j }

  module _ (list₁ : List Entry) (store₁ : List ℕ) (h : Raised list store top ss list₁ store₁) where
    abbrev below : ℕ
    below = top.to - total ss

    room_for_ss : Room list store top ss
    room_for_ss = room_for_the_last list store top rs ss room

    list_same : length list₁ ≡ length list
    list_same = list_as_long list store top ss room_for_ss list₁ store₁ h

    store_same : length store₁ ≡ length store
    store_same = store_as_long list store top ss room_for_ss list₁ store₁ h

    pub room_is_left : Room list₁ store₁ (lower_by top (length ss) (total ss)) rs
    room_is_left = record {
      list_in = omega (arith, list_same, room.list_in);
      store_in = omega (arith, store_same, room.store_in);
      few = omega (arith, room.few, many);
      short = omega (arith, room.short, sums);
      fits = omega (arith, room.fits, sums);
    }

    entries_join : inserts_of (top.to - total (rs ++ ss)) (rs ++ ss) ≡ inserts_of (below - total rs) rs ++ inserts_of below ss
    entries_join =
        let a : top.to - total (rs ++ ss) ≡ below - total rs = omega (arith, sums) in
        let b : below - total rs + total rs ≡ below = omega (arith, sums, room.short) in
        ap (λ (k : ℕ). inserts_of k (rs ++ ss)) a ∙ inserts_append (below - total rs) rs ss ∙ ap (λ (k : ℕ). inserts_of (below - total rs) rs ++ inserts_of k ss) b

    pub both_are_raised : (list₂ : List Entry) (store₂ : List ℕ) → Raised list₁ store₁ (lower_by top (length ss) (total ss)) rs list₂ store₂ → Raised list store top (rs ++ ss) list₂ store₂
    both_are_raised list₂ store₂ g = record {
      list_is =
          let a : List Entry = inserts_of (below - total rs) rs in
          let b : List Entry = inserts_of below ss in
          g.list_is ∙ ap (λ (x : List Entry). under x (top.entry - length ss) a) h.list_is ∙ ap (λ (n : ℕ). under (under list top.entry b) (top.entry - n) a) (sym (inserts_many below ss))
          ∙ under_under list top.entry a b (omega (arith, inserts_many below ss, inserts_many (below - total rs) rs, room.few, many)) room.list_in
          ∙ ap (under list top.entry) (sym entries_join);
      store_is =
          g.store_is ∙ ap (λ (x : List ℕ). under x (top.at - total ss) (values rs)) h.store_is
          ∙ ap (λ (n : ℕ). under (under store top.at (values ss)) (top.at - n) (values rs)) (sym (length_values ss))
          ∙ under_under store top.at (values rs) (values ss) (omega (arith, length_values ss, length_values rs, room.fits, sums)) room.store_in
          ∙ ap (under store top.at) (sym (values_append rs ss));
    }
