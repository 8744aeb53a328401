-- The form of a sound work: operations laid out as entries and store bytes, what else is kept of it, and what the model sees in it. Assumes nothing.
use mathlib.Core.Path.{◌≡◌, refl, sym, ap, ◌∙◌}
use mathlib.Core.Bool.{true, false}
use mathlib.Core.List.{List, [], ◌++◌}
use Prim.Native.Nat.{ℕ, ◌+◌, ◌≤◌}
use native.Mathlib.Omega.{arith}
use lib.Dec.{eqb}
use lib.ListN.{length, take, drop, replicate, length-append, length-replicate}
use lib.Seq.{take_at, drop_at}
use borrow.Author.Tests.{eqb-true}
use Rattle.bit_ops.specs.Steps.{zeros}
use Rattle.leaf_node.specs.Record.{total}
use Rattle.leaf_node.specs.Page.{word, count, records_between}
use Rattle.leaf_node.specs.Fits.{All}
use Rattle.leaf_model.specs.Work.{Turn, Open, Waiting, Done, zero_key, above_last, below_cutoff}
use Rattle.leaf_model.specs.Work as model
use Rattle.leaf_work.specs.declared.Work.{Work}
use Rattle.leaf_work.specs.declared.Entry.{Entry}
use Rattle.leaf_work.specs.Tests.{is_set}
use Rattle.leaf_work.specs.Lent.{blank, room_right, turn_number, is_open, is_waiting, is_done, cutoff_of, override_of, last_of, reads_base, regarded}
use Rattle.leaf_work.specs.Pending.{held, listed_places, rest_places, listed_of, rest_of, pending_of}
use Rattle.leaf_work.specs.Verdict.{keys_verdict}
use Rattle.leaf_work.proofs.Tests.{map-append}
use Rattle.leaf_work.proofs.Operations.{Op, records_of_ops, stored_bytes, entries_of, Within, some_put, entries_length, read_ops, chunk_held}

-- `p` is the page as the work regards it
pub record Laid (w : Work) (list : List Entry) (store p : List ℕ) (ops : List Op) : Type 0 where
  pub room : ℕ
  pub spare : ℕ
  pub list_is : list ≡ entries_of p 0 ops ++ replicate room blank
  pub store_is : store ≡ stored_bytes ops ++ zeros spare
  pub used_is : w.used ≡ length ops
  pub filled_is : w.filled ≡ length (stored_bytes ops)
  pub count_is : w.count ≡ length (records_of_ops p ops)
  pub bytes_is : w.bytes ≡ total (records_of_ops p ops)
  pub low_in : w.low ≤ count p
  pub chunks : All (Within w.low) ops
  pub override_has_insert : is_set w.over ≡ true → some_put ops ≡ true

-- the keys of a work record have 32 bytes
pub record Keyed (w : Work) : Type 0 where
  pub latest : length w.latest ≡ 32
  pub cutoff : length w.cutoff ≡ 32
  pub overriding : length w.overriding ≡ 32
  pub floor : length w.floor ≡ 32
  pub last : length w.last ≡ 32

pub record Flags (w : Work) : Type 0 where
  pub mode : w.mode ≤ 1
  pub based : w.based ≤ 1
  pub cut : w.cut ≤ 1
  pub over : w.over ≤ 1
  pub taken : w.taken ≤ 1

-- the turn of a number; a sound work has no other number than 1, 2 or 3
abbrev pub turn_of : ℕ → Turn
turn_of n = elim (eqb n 1) [ true ↦ Open | false ↦ elim (eqb n 2) [ true ↦ Waiting | false ↦ Done ] ]

-- what else soundness asks, of the numbers and keys in the work record and of the room; `page` is the page that is lent
pub record Kept (size : ℕ) (w : Work) (list : List Entry) (store p page : List ℕ) : Type 0 where
  pub right_room : room_right size (length list) (length store) ≡ true
  pub room_list : length (pending_of w list store p) ≤ length list
  pub room_store : total (pending_of w list store p) ≤ length store
  pub base_right : reads_base w ≡ true → keys_verdict size page w.latest (cutoff_of w) ≡ 0
  pub rest_above_lem : All (λ r. above_last (last_of w) r.key ≡ true) (rest_of w store p)
  pub last_below_lem : is_set w.taken ≡ true → below_cutoff (cutoff_of w) w.last ≡ true
  pub cut_based : is_set w.cut ≡ true → is_set w.based ≡ true
  pub base_floor : reads_base w ≡ true → w.floor ≡ w.latest
  pub no_cut : is_set w.cut ≡ false → w.cutoff ≡ zero_key
  pub no_over : is_set w.over ≡ false → w.overriding ≡ zero_key
  pub no_last : is_set w.taken ≡ false → w.last ≡ zero_key
  pub known_turn_lem : w.turn ≡ turn_number (turn_of w.turn)
  pub flags : Flags w
  pub keyed : Keyed w

-- ---- turns

pub turn_of_number : (t : Turn) → turn_of (turn_number t) ≡ t
turn_of_number Open = refl
turn_of_number Waiting = refl
turn_of_number Done = refl

module _ (w : Work) where
  pub open_turn : is_open w ≡ true → turn_of w.turn ≡ Open
  open_turn e = ap turn_of (eqb-true w.turn 1 e)

  pub waiting_turn : is_waiting w ≡ true → turn_of w.turn ≡ Waiting
  waiting_turn e = ap turn_of (eqb-true w.turn 2 e)

  pub done_turn : is_done w ≡ true → turn_of w.turn ≡ Done
  done_turn e = ap turn_of (eqb-true w.turn 3 e)

  pub waiting_is_not_open : is_waiting w ≡ true → is_open w ≡ false
  waiting_is_not_open e = rw (eqb-true w.turn 2 e)

  pub ignored : (page : List ℕ) → is_open w ≡ false → regarded w page ≡ []
  ignored page e = rw e

pub an_ignored_page_has_no_records : count [] ≡ 0
unfolding count word
an_ignored_page_has_no_records = refl

-- ---- the parts of a list and a store that are laid out

module _ (w : Work) (list : List Entry) (store p : List ℕ) (ops : List Op) (h : Laid w list store p ops) where
  pub list_length : length list ≡ length ops + h.room
  list_length =
      ap length h.list_is ∙ omega (arith, length-append (entries_of p 0 ops) (replicate h.room blank), entries_length p 0 ops, length-replicate h.room blank)

  pub store_length : length store ≡ length (stored_bytes ops) + h.spare
  store_length = ap length h.store_is ∙ omega (arith, length-append (stored_bytes ops) (zeros h.spare), length-replicate {A = ℕ} h.spare 0)

  pub used_entries : take w.used list ≡ entries_of p 0 ops
  used_entries = rw h.list_is (take_at (entries_of p 0 ops) (replicate h.room blank) w.used (entries_length p 0 ops ∙ sym h.used_is))

  pub blank_entries : drop w.used list ≡ replicate h.room blank
  blank_entries = rw h.list_is (drop_at (entries_of p 0 ops) (replicate h.room blank) w.used (entries_length p 0 ops ∙ sym h.used_is))

  pub used_bytes : take w.filled store ≡ stored_bytes ops
  used_bytes = rw h.store_is (take_at (stored_bytes ops) (zeros h.spare) w.filled (sym h.filled_is))

  pub blank_bytes : drop w.filled store ≡ zeros h.spare
  blank_bytes = rw h.store_is (drop_at (stored_bytes ops) (zeros h.spare) w.filled (sym h.filled_is))

  pub listed_is : listed_of w list store p ≡ records_of_ops p ops
  listed_is = rw used_entries (read_ops store p 0 ops [] (zeros h.spare) h.store_is refl)

  pub rest_is : rest_of w store p ≡ records_between p w.low (count p)
  rest_is = chunk_held store p w.low (count p)

  pub pending_is : pending_of w list store p ≡ records_of_ops p ops ++ records_between p w.low (count p)
  pending_is = map-append (held store p) (listed_places w list p) (rest_places w p) ∙ rw (listed_is, rest_is)

pub pending_parts : (w : Work) (list : List Entry) (store p : List ℕ) → pending_of w list store p ≡ listed_of w list store p ++ rest_of w store p
pending_parts w list store p = map-append (held store p) (listed_places w list p) (rest_places w p)

-- ---- what the model sees

abbrev pub sees_work : Work → List Entry → List ℕ → List ℕ → model.Work
sees_work w list store p = record {
  turn = turn_of w.turn;
  listed = listed_of w list store p;
  rest = rest_of w store p;
  override = override_of w;
  latest = w.latest;
  cutoff = cutoff_of w;
  floor = w.floor;
  last = last_of w;
}
