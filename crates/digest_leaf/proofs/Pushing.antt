-- A page filled entry by entry of the list until it has all its records, and else from the base's rest. Assumes nothing.
use mathlib.Core.Path.{◌≡◌, sym, ap, ◌∙◌}
use mathlib.Core.List.{List}
use Prim.Native.Nat.{ℕ, ◌+◌, ◌≤◌, ◌<◌}
use native.Mathlib.Omega.{arith}
use lib.ListN.{length, get_or, take}
use borrow.Author.Tests.{lt-ltb, le-ltb}
use Rattle.leaf_node.specs.Record.{Record}
use Rattle.leaf_node.specs.Page.{count, records_between}
use Rattle.leaf_node.specs.Build.{pushed}
use Rattle.leaf_work.specs.declared.Entry.{Entry}
use Rattle.leaf_work.specs.Lent.{blank}
use Rattle.leaf_cut.specs.declared.Span.{Span}
use Rattle.leaf_cut.specs.declared.Cursor.{Cursor}
use Rattle.leaf_cut.specs.Records.{records_from, entry_records}
use Rattle.leaf_cut.proofs.Parts.{the_records_from_the_rest_on}
use Rattle.leaf_write.specs.declared.Place.{Place}
use Rattle.leaf_write.proofs.Parts.{part_from}
use Rattle.leaf_write.specs.Filling.{PushedAt, EntryThere, RangeIn, RoomAt}
use Rattle.leaf_write.proofs.Leaves.{Filled, a_filled_page_has_all, the_part_can_be_read, the_part_has_room, a_part_is_pushed}
use Rattle.digest_leaf.specs.Pushing.{RecordsAsked}

module _ (list : List Entry) (store page : List ℕ) (s : Span) (start : Cursor) (d₀ : List ℕ) (first : Place) where
  -- before entry i, of which the first `skip` records are in pages before
  abbrev pub Upon : ℕ → Place → List ℕ → ℕ → Type 0
  Upon skip p d i = Filled list store page s d₀ first start d (record { entry = i; skip = skip }) p

  module _ (asked : RecordsAsked list store page s start first (length d₀)) where
    module _ (skip : ℕ) (p : Place) (d : List ℕ) (i : ℕ) (k : Upon skip p d i) where
      pub the_page_is_full : p.left ≡ 0 → d ≡ pushed d₀ first.index first.at (take first.left (records_from s list store page start))
      the_page_is_full l = a_filled_page_has_all list store page s d₀ first start d (record { entry = i; skip = skip }) p k l

      module _ (more : 0 < p.left) where
        abbrev part : List Record
        part = part_from s list store page (record { entry = i; skip = skip })

        room : RoomAt (length d) p part
        room = the_part_has_room list store page s d₀ first start d (record { entry = i; skip = skip }) p k asked.kept more

        module _ (l : i < s.used) (e : Entry) (q : e ≡ get_or list i blank) where
          part_is : part ≡ entry_records store page e skip
          unfolding part_from
          part_is = rw (lt-ltb i s.used l, q)

          pub a_turn_asks : (EntryThere store page e skip) × (0 < p.left) × (RoomAt (length d) p (entry_records store page e skip))
          a_turn_asks = (
            rw q ((the_part_can_be_read list store page s d₀ first start d (record { entry = i; skip = skip }) p k asked.kept more).entry l),
            more,
            rw part_is at room,
          )

          pub upon_next : (p' : Place) (d' : List ℕ) → PushedAt d p (entry_records store page e skip) d' p' → Upon 0 p' d' (i + 1)
          upon_next p' d' x = a_part_is_pushed list store page s d₀ first start d (record { entry = i; skip = skip }) p k asked.kept more d' p' (rw part_is x.0) (rw part_is x.1)

        module _ (past : s.used ≤ i) where
          part_is_rest : part ≡ records_between page (s.low + skip) (count page)
          unfolding part_from
          part_is_rest = rw (le-ltb i s.used past)

          pub the_rest_asks : (RangeIn page (s.low + skip) (count page)) × (RoomAt (length d) p (records_between page (s.low + skip) (count page)))
          the_rest_asks = ((the_part_can_be_read list store page s d₀ first start d (record { entry = i; skip = skip }) p k asked.kept more).rest past, rw part_is_rest at room)

          pub upon_last : (d' : List ℕ) → d' ≡ pushed d p.index p.at (take p.left (records_between page (s.low + skip) (count page)))
              → d' ≡ pushed d₀ first.index first.at (take first.left (records_from s list store page start))
          upon_last d' x =
              let c = k.there more in
              let e : i ≡ s.used = omega (arith, c.entry_in) in
              x ∙ sym (k.whole ∙ ap (λ (z : List Record). pushed d p.index p.at (take p.left z)) (the_records_from_the_rest_on list store page s asked.kept (record { entry = i; skip = skip }) e (c.rest_in e)))
