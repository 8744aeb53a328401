-- The page of a leaf, record by record and range by range. Assumes nothing.
use mathlib.Core.Path.{◌≡◌, refl, sym, ap, ◌∙◌}
use mathlib.Core.Bool.{not}
use mathlib.Core.List.{List, [], ◌∷◌}
use Prim.Native.Nat.{ℕ, zero, suc, ◌+◌, ◌-◌, ◌≤◌, ◌<◌, min}
use native.Mathlib.Omega.{arith}
use native.Mathlib.Decide.{dec_le}
use lib.Dec.{eqb}
use lib.ListN.{length, take, drop}
use lib.Seq.{take_all}
use Rattle.leaf_node.specs.Record.{Record, total}
use Rattle.leaf_node.specs.Page.{count, start, record_at, run, records_between, values_size}
use Rattle.leaf_node.specs.Build.{pushed}
use Rattle.leaf_node.proofs.Lengths.{length_run}
use Rattle.leaf_node.proofs.Laying.{values_size_is_a_difference, range_length}
use Rattle.leaf_builder.specs.Steps.{CellFits, Chunk}
use Rattle.leaf_work.specs.declared.Entry.{Entry}
use Rattle.leaf_work.specs.Pending.{held}
use Rattle.leaf_cut.specs.Records.{entry_records}
use Rattle.leaf_cut.proofs.Parts.{an_insert_holds_itself, a_chunk_holds_its_records}
use Rattle.leaf_write.specs.declared.Place.{Place}
use Rattle.leaf_write.specs.Filling.{insert_record, place_behind, RangeIn, EntryThere, Filling, RoomAt}

-- ---- the first records of a range

take_run : {A : Type 0} (k m i : ℕ) (f : ℕ → A) → k ≤ m → take k (run m i f) ≡ run k i f
unfolding run
take_run zero m i f h = refl
take_run (suc k) zero i f h = absurd (omega arith)
take_run (suc k) (suc m) i f h = let e = take_run k m (suc i) f (omega arith) in λ j. f i ∷ e j

module _ (p : List ℕ) (from to : ℕ) (place : Place) (few : ℕ) (r : RangeIn p from to) (e : few ≡ min place.left (to - from)) where
  within : few ≤ to - from
  within = omega arith

  first_records : take place.left (records_between p from to) ≡ records_between p from (from + few)
  unfolding records_between
  first_records =
      let d : from + few - from ≡ few = omega arith in
      rw d (elim (dec_le place.left (to - from)) [
        | yes h ↦ let q : place.left ≡ few = omega arith in take_run place.left (to - from) from (record_at p) h ∙ ap (λ (k : ℕ). run k from (record_at p)) q
        | no h ↦
            let q : to - from ≡ few = omega arith in
            take_all place.left (run (to - from) from (record_at p)) (rw (length_run (to - from) from (record_at p)) (omega arith)) ∙ ap (λ (k : ℕ). run k from (record_at p)) q
      ])

  many : length (records_between p from (from + few)) ≡ few
  many = range_length p (count p) r.laid from (from + few) (omega arith) (omega (arith, r.there, r.order)) ∙ omega arith

  sums : total (records_between p from (from + few)) ≡ start p (from + few) - start p from
  unfolding values_size
  sums = values_size_is_a_difference p (count p) r.laid from (from + few) (omega arith) (omega (arith, r.there, r.order))

  pub a_range_has_room : (m : ℕ) → RoomAt m place (records_between p from to) → Chunk p from (from + few) m place.index place.at
  a_range_has_room m f =
      let g : Filling m place.index place.at (records_between p from (from + few)) = rw first_records at f in
      record {
        laid = r.laid;
        order = omega arith;
        there = omega (arith, r.there, r.order);
        room = omega (arith, g.room, many);
        fits = omega (arith, g.fits, sums);
        small = g.small;
      }

  pub a_range_is_pushed : (d x : List ℕ) → x ≡ pushed d place.index place.at (records_between p from (from + few)) → x ≡ pushed d place.index place.at (take place.left (records_between p from to))
  a_range_is_pushed d x q = rw (q, first_records)

  pub a_range_ends : (next : ℕ) → next ≡ place.at + (start p (from + few) - start p from)
      → record { index = place.index + few; at = next; left = place.left - few } ≡ place_behind place (take place.left (records_between p from to))
  a_range_ends next q =
      let n : next ≡ place.at + total (records_between p from (from + few)) = q ∙ sym (ap (λ (k : ℕ). place.at + k) sums) in
      rw (first_records, many, n)

-- ---- one record

one_taken : (k : ℕ) → 0 < k → (x : Record) → take k (x ∷ []) ≡ x ∷ []
one_taken zero l x = absurd (omega arith)
one_taken (suc k) l x = take_all (suc k) (x ∷ []) (omega arith)

-- ---- an insert

module _ (store : List ℕ) (entry : Entry) (p : Place) (l : 0 < p.left) where
  module _ (m : ℕ) (f : RoomAt m p (insert_record store entry ∷ [])) where
    one : Filling m p.index p.at (insert_record store entry ∷ [])
    one = rw (one_taken p.left l (insert_record store entry)) at f

    pub an_insert_has_room : CellFits m p.index p.at (length (take (entry.to - entry.from) (drop entry.from store)))
    unfolding insert_record total
    an_insert_has_room = record { room = omega (arith, one.room); fits = omega (arith, one.fits); small = one.small }

  pub an_insert_is_pushed : (d x : List ℕ)
      → x ≡ pushed d p.index p.at (record { key = entry.key; value = take (entry.to - entry.from) (drop entry.from store); flag = not (eqb entry.flag 0) } ∷ [])
      → x ≡ pushed d p.index p.at (take p.left (insert_record store entry ∷ []))
  unfolding insert_record
  an_insert_is_pushed d x q = rw (one_taken p.left l (insert_record store entry)) q

  pub an_insert_ends : (next : ℕ) → next ≡ p.at + length (take (entry.to - entry.from) (drop entry.from store))
      → record { index = p.index + 1; at = next; left = p.left - 1 } ≡ place_behind p (take p.left (insert_record store entry ∷ []))
  unfolding insert_record total
  an_insert_ends next q =
      let e : next ≡ p.at + total (insert_record store entry ∷ []) = omega (arith, q) in
      rw (one_taken p.left l (insert_record store entry), e)

-- ---- an entry

module _ (store page : List ℕ) (entry : Entry) (skip : ℕ) (h : EntryThere store page entry skip) where
  pub the_records_of_a_chunk : (entry.kind ≡ 1 → ⊥) → entry_records store page entry skip ≡ records_between page (entry.from + skip) entry.to
  the_records_of_a_chunk n = a_chunk_holds_its_records store page entry skip n (h.chunk n).order

  pub the_record_of_an_insert : entry.kind ≡ 1 → entry_records store page entry skip ≡ insert_record store entry ∷ []
  unfolding insert_record held
  the_record_of_an_insert e = an_insert_holds_itself store page entry skip e (h.insert e).0
