-- What a digest keeps: raised in the list, it is moved down to the start, and unused entries follow. Assumes nothing.
use mathlib.Core.Path.{◌≡◌, sym, ap, ◌∙◌}
use mathlib.Core.List.{List, ◌++◌, append_assoc}
use Prim.Native.Nat.{ℕ, zero, suc, ◌+◌, ◌-◌, ◌≤◌}
use native.Mathlib.Omega.{arith}
use lib.ListN.{length, take, drop, replicate, length-append, replicate-append-replicate}
use lib.Seq.{length-take-le, take_at, drop_at, drop-drop}
use Rattle.leaf_node.specs.Record.{Record}
use Rattle.leaf_work.specs.declared.Work.{Work}
use Rattle.leaf_work.specs.declared.Entry.{Entry}
use Rattle.leaf_work.specs.Lent.{blank}
use Rattle.leaf_work.specs.Digest.{inserts_of}
use Rattle.leaf_cut.specs.declared.Cursor.{Cursor}
use Rattle.leaf_cut.specs.declared.Gauge.{Gauge}
use Rattle.leaf_cut.specs.declared.Span.{Span}
use Rattle.leaf_cut.specs.Records.{records_from}
use Rattle.leaf_move.specs.Moving.{under, settled, Spare}
use Rattle.leaf_move.proofs.Under.{length_under}
use Rattle.leaf_raise.specs.Raising.{Raised}
use Rattle.leaf_raise.proofs.Inserts.{inserts_many}
use Rattle.leaf_merge.specs.Keeping.{kept_records, Keeps, KeptAs}
use Rattle.leaf_merge.specs.Lifting.{full_top, Raises}
use Rattle.leaf_merge.proofs.Keeping.{what_is_kept_can_be_raised, as_many_as_have_room, places_from_the_start, the_store_can_be_settled, the_settled_store}
use Rattle.digest_keep.specs.Lifting.{room_by}
use Rattle.digest_keep.specs.Keeping.{KeepsIn}

module _ {A : Type 0} where
  drop_replicate : (n m : ℕ) (x : A) → drop n (replicate m x) ≡ replicate (m - n) x
  drop_replicate zero m x = let e : m ≡ m - 0 = omega arith in ap (λ (k : ℕ). replicate k x) e
  drop_replicate (suc n) zero x = let e : 0 ≡ 0 - suc n = omega arith in ap (λ (k : ℕ). replicate k x) e
  drop_replicate (suc n) (suc m) x = let e : m - n ≡ suc m - suc n = omega arith in drop_replicate n m x ∙ ap (λ (k : ℕ). replicate k x) e

  -- new elements right below t, moved down to the start of the first t, and x behind them
  module _ (xs new : List A) (t : ℕ) (few : length new ≤ t) (there : t ≤ length xs) (x : A) where
    front_long : length (take (t - length new) xs) ≡ t - length new
    front_long = length-take-le (t - length new) xs (omega (arith, few, there))

    both_long : length (take (t - length new) xs ++ new) ≡ t
    both_long = length-append (take (t - length new) xs) new ∙ omega (arith, front_long, few)

    first_is : take t (under xs t new) ≡ take (t - length new) xs ++ new
    unfolding under
    first_is = take_at (take (t - length new) xs ++ new) (drop t xs) t both_long

    rest_is : drop t (under xs t new) ≡ drop t xs
    unfolding under
    rest_is = drop_at (take (t - length new) xs ++ new) (drop t xs) t both_long

    settled_is : settled x (take t (under xs t new)) (length new) ≡ new ++ replicate (t - length new) x
    unfolding settled
    settled_is = rw (first_is, both_long, drop_at (take (t - length new) xs) new (t - length new) front_long)

    pub down_to_the_start : (used : ℕ) → used ≤ t → drop used xs ≡ replicate (length xs - used) x
        → settled x (take t (under xs t new)) (length new) ++ drop t (under xs t new) ≡ new ++ replicate (length xs - length new) x
    down_to_the_start used u b =
        let a : used + (t - used) ≡ t = omega (arith, u) in
        let c : length xs - used - (t - used) ≡ length xs - t = omega (arith, u, there) in
        let d : t - length new + (length xs - t) ≡ length xs - length new = omega (arith, few, there) in
        let rest : drop t xs ≡ replicate (length xs - t) x =
        ap (λ (k : ℕ). drop k xs) (sym a) ∙ sym (drop-drop (t - used) used xs) ∙ ap (drop (t - used)) b ∙ drop_replicate (t - used) (length xs - used) x ∙ ap (λ (k : ℕ). replicate k x) c in
        rw (settled_is, rest_is, rest) (append_assoc new (replicate (t - length new) x) (replicate (length xs - t) x)
        ∙ ap (λ (l : List A). new ++ l) (replicate-append-replicate (t - length new) (length xs - t) x ∙ ap (λ (k : ℕ). replicate k x) d))

module _ (w : Work) (list : List Entry) (store page : List ℕ) (at : Cursor) (left : Gauge) (req : KeepsIn w list store page at left)
    (span : Span) (es : span ≡ record { used = w.used; low = w.low }) (room : ℕ) (er : room ≡ room_by w.used left.count (length list)) where
  k : Keeps w list store page at left room
  k = rw er req.keeps

  pub it_can_be_raised : Raises list store page span at left.bytes room
  it_can_be_raised = rw es (what_is_kept_can_be_raised w list store page at left room k)

  module _ (list₁ : List Entry) (store₁ : List ℕ) (h : Raised list store (full_top room store left.bytes) (records_from span list store page at) list₁ store₁) where
    abbrev kept : List Record
    kept = kept_records w list store page at

    raised : Raised list store (full_top room store left.bytes) kept list₁ store₁
    raised = rw es at h

    abbrev inserts : List Entry
    inserts = inserts_of 0 kept

    list_is : list₁ ≡ under list room inserts
    list_is = raised.list_is ∙ rw (places_from_the_start w list store page at left room k)

    many : length inserts ≡ left.count
    many = inserts_many 0 kept ∙ sym k.left_counted

    few : length inserts ≤ room
    few = omega (arith, many, as_many_as_have_room w list store page at left room k)

    as_long : length list₁ ≡ length list
    as_long = ap length list_is ∙ length_under list room inserts few k.room_in

    pub so_many_can_be_settled : (left.count ≤ room) × (room ≤ length list₁)
    so_many_can_be_settled = (omega (arith, few, many), omega (arith, as_long, k.room_in))

    pub its_store_can_be_settled : Spare store₁ left.bytes w.filled
    its_store_can_be_settled = the_store_can_be_settled w list store page at left room k list₁ store₁ raised

    pub it_is_kept : (list₂ : List Entry) (store₂ : List ℕ) → list₂ ≡ settled blank (take room list₁) left.count ++ drop room list₁ → store₂ ≡ settled 0 store₁ left.bytes
        → KeptAs w list store page at list₂ store₂
    it_is_kept list₂ store₂ z s = record {
      list_is =
          z ∙ ap (λ (l : List Entry). settled blank (take room l) left.count ++ drop room l) list_is ∙ ap (λ (c : ℕ). settled blank (take room (under list room inserts)) c ++ drop room (under list room inserts)) (sym many)
          ∙ down_to_the_start list inserts room few k.room_in blank w.used k.used_room req.unused
          ∙ ap (λ (m : ℕ). inserts ++ replicate (length list - m) blank) (many ∙ k.left_counted);
      store_is = the_settled_store w list store page at left room k list₁ store₁ raised store₂ s;
    }
