-- One record is raised: its value in the store, and its entry. Assumes nothing.
use mathlib.Core.Path.{◌≡◌, refl, sym, ap, ◌∙◌}
use mathlib.Core.Bool.{Bool, not}
use mathlib.Core.List.{List}
use Prim.Native.Nat.{ℕ, ◌+◌, ◌-◌, ◌≤◌, ◌<◌}
use native.Mathlib.Omega.{arith}
use lib.Dec.{eqb}
use lib.ListN.{length, take, drop, length-drop}
use lib.Seq.{length-take-le}
use borrow.Author.Tests.{eq-eqb, ne_eqb}
use Rattle.leaf_node.specs.Record.{Record}
use Rattle.leaf_node.specs.Page.{count, start, length_at, flag_at, key_at, value_at, record_at}
use Rattle.leaf_node.specs.Build.{put}
use Rattle.leaf_node.specs.Steps.{Counted}
use Rattle.leaf_node.specs.declared.Cell.{Cell}
use Rattle.leaf_work.specs.declared.Entry.{Entry}
use Rattle.leaf_work.specs.Tests.{bit}
use Rattle.leaf_work.specs.Lent.{insert_at}
use Rattle.leaf_write.specs.Filling.{insert_record, InsertIn}
use Rattle.leaf_move.specs.Moving.{under}
use Rattle.leaf_move.proofs.Under.{put_under}
use Rattle.leaf_raise.specs.declared.Top.{Top}
use Rattle.leaf_raise.specs.Raising.{lower_by, RecordThere}
use Rattle.digest_keep.specs.declared.Lifted.{Lifted}
use Rattle.digest_keep.specs.Lifting.{lifted_of, RoomFor, last_record, LastThere}

-- ---- a value that is copied

module _ (store : List ℕ) (top : Top) (value : List ℕ) (room : RoomFor (length store) top (length value)) (next : Top) (e : next ≡ lower_by top 1 (length value)) where
  at_is : next.at ≡ top.at - length value
  at_is = ap (λ (t : Top). t.at) e

  pub what_is_copied_stands_under_the_top : (store' : List ℕ) → store' ≡ put store next.at value → store' ≡ under store top.at value
  what_is_copied_stands_under_the_top store' s =
      let q : next.at + length value ≡ top.at = omega (arith, at_is, room.fits) in
      s ∙ put_under store next.at value ∙ ap (λ (j : ℕ). under store j value) q

-- ---- its entry

module _ (top next : Top) (r : Record) (m : ℕ) (l : length r.value ≡ m) (e : next ≡ lower_by top 1 m) where
  lowered : next ≡ lower_by top 1 (length r.value)
  lowered = e ∙ ap (lower_by top 1) (sym l)

  pub the_record_is_lifted : (x : Lifted) → x ≡ record { top = next; entry = insert_at next.to top.to r.key (bit r.flag) } → x ≡ lifted_of top r
  the_record_is_lifted x q = q ∙ ap (λ (t : Top). record { top = t; entry = insert_at t.to top.to r.key (bit r.flag) }) lowered

pub a_copied_record_is_lifted : (key value : List ℕ) (flag : Bool) (top next : Top) → next ≡ lower_by top 1 (length value) → (x : Lifted) → x ≡ record { top = next; entry = insert_at next.to top.to key (bit flag) }
    → x ≡ lifted_of top (record { key = key; value = value; flag = flag })
a_copied_record_is_lifted key value flag top next e = the_record_is_lifted top next (record { key = key; value = value; flag = flag }) (length value) refl e

-- ---- a record of the base

pub a_counted_record_is_there : (page : List ℕ) (n i : ℕ) → Counted page n → i < n → RecordThere page i
a_counted_record_is_there page n i c h = record { there = omega (arith, h, c.counted); laid = rw c.counted at (c.laid (omega (arith, h))) }

module _ (page : List ℕ) (i : ℕ) (cell : Cell) (first : cell.offset ≡ start page i) (size : cell.len ≡ length_at page i) (flag : cell.flag ≡ flag_at page i) where
  value_is : take (cell.offset + cell.len - cell.offset) (drop cell.offset page) ≡ (record_at page i).value
  unfolding record_at value_at
  value_is = let v : cell.offset + cell.len - cell.offset ≡ length_at page i = omega arith in rw (v, first)

  pub its_value_has_room : (bytes : ℕ) (top : Top) → RoomFor bytes top (length (record_at page i).value) → RoomFor bytes top (length (take (cell.offset + cell.len - cell.offset) (drop cell.offset page)))
  its_value_has_room bytes top r = rw value_is r

  record_is : (key : List ℕ) → key ≡ key_at page i → ◌≡◌ {A = Record} (record { key = key; value = take (cell.offset + cell.len - cell.offset) (drop cell.offset page); flag = cell.flag }) (record_at page i)
  unfolding record_at value_at
  record_is key k =
      let v : cell.offset + cell.len - cell.offset ≡ length_at page i = omega arith in
      rw (v, first, flag, k)

  pub a_base_record_is_lifted : (key : List ℕ) → key ≡ key_at page i → (store : List ℕ) (top : Top) (x : Lifted) (store' : List ℕ)
      → x ≡ lifted_of top (record { key = key; value = take (cell.offset + cell.len - cell.offset) (drop cell.offset page); flag = cell.flag })
      → store' ≡ under store top.at (take (cell.offset + cell.len - cell.offset) (drop cell.offset page))
      → (x ≡ lifted_of top (record_at page i)) × (store' ≡ under store top.at (record_at page i).value)
  a_base_record_is_lifted key k store top x store' f g = (f ∙ ap (lifted_of top) (record_is key k), g ∙ ap (under store top.at) value_is)

-- ---- an insert

module _ (store : List ℕ) (e : Entry) (top : Top) (below : InsertIn e top.at) (room : RoomFor (length store) top (length (insert_record store e).value)) where
  value_long : length (insert_record store e).value ≡ e.to - e.from
  unfolding insert_record
  value_long = length-take-le (e.to - e.from) (drop e.from store) (rw (length-drop e.from store) (omega (arith, below.order, below.there, room.store_in)))

  pub an_insert_has_room : (0 < top.entry) × (e.to - e.from ≤ top.to) × (e.to - e.from ≤ top.at)
  an_insert_has_room = (room.entry, omega (arith, room.place, value_long), omega (arith, room.fits, value_long))

  pub an_insert_is_lifted : (next : Top) → next ≡ lower_by top 1 (e.to - e.from) → (x : Lifted) (store' : List ℕ) → x ≡ record { top = next; entry = insert_at next.to top.to e.key (bit (not (eqb e.flag 0))) }
      → store' ≡ under store top.at (take (e.to - e.from) (drop e.from store))
      → (x ≡ lifted_of top (insert_record store e)) × (store' ≡ under store top.at (insert_record store e).value)
  unfolding insert_record
  an_insert_is_lifted next n x store' f g = (the_record_is_lifted top next (insert_record store e) (e.to - e.from) value_long n x f, g)

-- ---- an entry's last record but i

module _ (store page : List ℕ) (e : Entry) (i : ℕ) (top : Top) (h : LastThere store page e i top) where
  module _ (k : e.kind ≡ 1) where
    is_the_insert : last_record store page e i ≡ insert_record store e
    unfolding last_record
    is_the_insert = rw (eq-eqb e.kind 1 k)

    pub the_insert_can_be_lifted : (InsertIn e top.at) × (RoomFor (length store) top (length (insert_record store e).value))
    the_insert_can_be_lifted = (h.insert k, rw is_the_insert at h.room)

    pub the_insert_is_the_last : (x : Lifted) (store' : List ℕ) → (x ≡ lifted_of top (insert_record store e)) × (store' ≡ under store top.at (insert_record store e).value)
        → (x ≡ lifted_of top (last_record store page e i)) × (store' ≡ under store top.at (last_record store page e i).value)
    the_insert_is_the_last x store' f = rw is_the_insert f

  module _ (n : e.kind ≡ 1 → ⊥) where
    is_a_base_record : last_record store page e i ≡ record_at page (e.to - 1 - i)
    unfolding last_record
    is_a_base_record = rw (ne_eqb e.kind 1 n)

    pub the_chunks_last_can_be_lifted : (n : ℕ) → n ≡ count page → (e.to - 1 - i < n) × (RoomFor (length store) top (length (record_at page (e.to - 1 - i)).value))
    the_chunks_last_can_be_lifted m c = (omega (arith, (h.chunk n).there, c), rw is_a_base_record at h.room)

    pub the_chunks_last_is_the_last : (x : Lifted) (store' : List ℕ) → (x ≡ lifted_of top (record_at page (e.to - 1 - i))) × (store' ≡ under store top.at (record_at page (e.to - 1 - i)).value)
        → (x ≡ lifted_of top (last_record store page e i)) × (store' ≡ under store top.at (last_record store page e i).value)
    the_chunks_last_is_the_last x store' f = rw is_a_base_record f
