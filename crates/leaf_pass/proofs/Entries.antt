-- What the tests of one entry answer, from what the tests below them answered. Assumes nothing.
use mathlib.Core.Path.{◌≡◌, refl, sym, ap, ◌∙◌}
use mathlib.Core.Bool.{Bool, true, false, not, ◌&&◌, cond}
use mathlib.Core.List.{List}
use Prim.Native.Nat.{ℕ, ◌-◌, ◌≤◌, ◌<◌}
use lib.Dec.{eqb, leb, ltb}
use Rattle.std.specs.Prelude.{Option, Some, None}
use Rattle.std.specs.Bool.{then_some}
use Rattle.std.specs.Option.{option_map}
use native.Mathlib.Omega.{arith}
use borrow.Author.Tests.{eq-eqb, ne_eqb, eqb-true, eqb-false, ltb-true, leb-true, lt-ltb, le-ltb, not-true, not-false}
use Rattle.leaf_node.specs.Page.{key_at, values_size}
use Rattle.leaf_node.proofs.Laying.{start_inside, values_size_is_a_difference}
use Rattle.leaf_node.specs.Steps.{Laid, Counted}
use Rattle.leaf_model.proofs.Tests.{and_left, and_right}
use Rattle.bit_ops.specs.Key.{Key, num, eq_key}
use Rattle.bit_ops.proofs.Order.{equal_numbers_are_equal_keys}
use Rattle.leaf_model.specs.Work.{zero_key}
use Rattle.leaf_work.specs.declared.Entry.{Entry}
use Rattle.leaf_work.specs.Tests.{same_bytes, is_zero}
use Rattle.leaf_work.specs.Lent.{an_insert}
use Rattle.leaf_work.specs.Sound.{is_flag, is_blank}
use Rattle.leaf_work.proofs.Tests.{same_bytes_lem, same_bytes_are_equal}
use Rattle.leaf_pass.specs.declared.Tally.{Tally}
use Rattle.leaf_pass.specs.declared.Pass.{Pass}
use Rattle.leaf_pass.specs.declared.Bounds.{Bounds}
use Rattle.leaf_pass.specs.Pass.{Seeing, Small, is_behind, insert_right, with_insert, chunk_lies, chunk_right, with_chunk, insert_passed, chunk_passed, passed_by, passed}

-- ---- keys

pub key_numbers_decide : (a b : List ℕ) (r : Bool) → r ≡ eq_key a b → Key a → Key b → r ≡ same_bytes a b
unfolding eq_key
key_numbers_decide a b r e x y = go (eqb (num a) (num b)) refl
  where
    go : (t : Bool) → eqb (num a) (num b) ≡ t → r ≡ same_bytes a b
    go true f = rw (e, f, same_bytes_lem (equal_numbers_are_equal_keys a b x y (eqb-true _ _ f)))
    go false f = rw (e, f) (differ (same_bytes a b) refl)
      where
        differ : (s : Bool) → same_bytes a b ≡ s → false ≡ s
        differ true g = absurd (eqb-false _ _ f (ap num (same_bytes_are_equal a b g)))
        differ false g = refl

-- ---- entries

pub lies_by : (low : ℕ) (it : Entry) (r : Bool) → r ≡ same_bytes it.key zero_key
    → (eqb it.kind 2 && (ltb it.from it.to && (leb it.to low && (r && eqb it.flag 0)))) ≡ chunk_lies low it
unfolding chunk_lies
lies_by low it r e = rw e

pub insert_by : (b : Bounds) (z : Tally) (it : Entry) (m : ℕ) (s : Bool) → m ≡ it.to - it.from → s ≡ is_behind z.count z.last it.key
    → ((leb it.from it.to && (eqb it.sum 0 && leb it.flag 1))
    && ((eqb it.from z.end && (leb it.to b.filled && leb m b.most)) && s))
    ≡ insert_right b z it
unfolding insert_right
insert_by b z it m s e f = rw (e, f)

pub record Lying (low : ℕ) (from to : ℕ) : Type 0 where
  pub some : from < to
  pub in_low : to ≤ low

pub places_of_a_chunk : (low : ℕ) (e : Entry) → chunk_lies low e ≡ true → Lying low e.from e.to
unfolding chunk_lies
places_of_a_chunk low e h =
    let h₁ = and_right (eqb e.kind 2) (ltb e.from e.to && (leb e.to low && (same_bytes e.key zero_key && is_zero e.flag))) h in
    let h₂ = and_right (ltb e.from e.to) (leb e.to low && (same_bytes e.key zero_key && is_zero e.flag)) h₁ in
    record { some = ltb-true _ _ (and_left (ltb e.from e.to) _ h₁); in_low = leb-true _ _ (and_left (leb e.to low) _ h₂) }

pub record Standing (b : Bounds) (z : Tally) (from to : ℕ) : Type 0 where
  pub order : from ≤ to
  pub begins : from ≡ z.end
  pub inside : to ≤ b.filled
  pub fitting : to - from ≤ b.most

pub place_of_an_insert : (b : Bounds) (z : Tally) (e : Entry) → insert_right b z e ≡ true → Standing b z e.from e.to
unfolding insert_right
place_of_an_insert b z e h =
    let place = eqb e.from z.end && (leb e.to b.filled && leb (e.to - e.from) b.most) in
    let fields = leb e.from e.to && (is_zero e.sum && is_flag e.flag) in
    let h₁ = and_left fields (place && is_behind z.count z.last e.key) h in
    let h₂ = and_left place (is_behind z.count z.last e.key) (and_right fields (place && is_behind z.count z.last e.key) h) in
    let h₃ = and_right (eqb e.from z.end) (leb e.to b.filled && leb (e.to - e.from) b.most) h₂ in
    record {
      order = leb-true _ _ (and_left (leb e.from e.to) _ h₁);
      begins = eqb-true _ _ (and_left (eqb e.from z.end) _ h₂);
      inside = leb-true _ _ (and_left (leb e.to b.filled) _ h₃);
      fitting = leb-true _ _ (and_right (leb e.to b.filled) (leb (e.to - e.from) b.most) h₃);
    }

-- a chunk that lies in the passed part is read from a page that has records
module _ (b : Bounds) (page : List ℕ) (n : ℕ) (it : Entry) (v : Seeing b n) (r : Bool) (e : r ≡ chunk_lies b.low it) where
  pub not_a_chunk : (z : Tally) → not r ≡ true → false ≡ chunk_right b page z it
  unfolding chunk_right
  not_a_chunk z h = rw (← e, not-true r h)

  module _ (h : not r ≡ false) where
    lies : chunk_lies b.low it ≡ true
    lies = rw (← e) (not-false r h)

    pub chunk_order : it.from ≤ it.to
    chunk_order = omega (arith, places_of_a_chunk b.low it lies)

    pub chunk_end : it.to ≤ n
    chunk_end = omega (arith, places_of_a_chunk b.low it lies, v.low_in)

    pub chunk_first : it.from < n
    chunk_first = omega (arith, places_of_a_chunk b.low it lies, v.low_in)

    pub chunk_by : (z : Tally) (sum : ℕ) (k : List ℕ) (s : Bool) → sum ≡ values_size page it.from it.to → k ≡ key_at page it.from
        → s ≡ is_behind z.count z.last k → (eqb it.sum sum && s) ≡ chunk_right b page z it
    unfolding chunk_right
    chunk_by z sum k s f g q = rw (lies, f, q, g)

-- ---- one more entry

pub tallied : (t : Bool) (z : Pass) → option_map (λ y. y.tally) (then_some t z) ≡ cond t (Some z.tally) None
tallied true z = refl
tallied false z = refl

pub by_tests : (b : Bounds) (page : List ℕ) (z : Tally) (e : Entry) {y t : Bool} → ltb z.seen b.used ≡ y → an_insert e ≡ t → passed b page z e ≡ passed_by b page z e y t
unfolding passed
by_tests b page z e g h = λ j. passed_by b page z e (g j) (h j)

module _ (b : Bounds) (z : Tally) (small : Small z) (it : Entry) (n : ℕ) (v : Seeing b n) where
  module _ (t : Bool) (e : t ≡ insert_right b z it) where
    pub a_wrong_insert : t ≡ false → None ≡ insert_passed b z it
    a_wrong_insert h = rw (← e, h)

    module _ (h : t ≡ true) where
      standing : Standing b z it.from it.to
      standing = place_of_an_insert b z it (rw (← e) h)

      pub insert_order : it.from ≤ it.to
      insert_order = standing.order

      pub insert_inside : it.to ≤ 65536
      insert_inside = omega (arith, standing.inside, v.filled_few)

      pub right_insert : Some (with_insert z it) ≡ insert_passed b z it
      right_insert = rw (← e, h)

      pub insert_small : z.seen < b.used → Small (with_insert z it)
      insert_small k = record {
        seen = omega (arith, v.used_few);
        inserts = omega (arith, small.inserts);
        count = omega (arith, small.count);
        bytes = omega (arith, small.bytes, insert_inside);
      }

  module _ (page : List ℕ) (c : Counted page n) (t : Bool) (e : t ≡ chunk_right b page z it) where
    pub a_wrong_chunk : t ≡ false → None ≡ chunk_passed b page z it
    a_wrong_chunk h = rw (← e, h)

    module _ (h : t ≡ true) where
      lying : Lying b.low it.from it.to
      unfolding chunk_right
      lying = places_of_a_chunk b.low it (and_left (chunk_lies b.low it) _ (rw e at h))

      pub right_chunk : (k : List ℕ) → k ≡ key_at page (it.to - 1) → Some (record (with_chunk page z it) { last = k }) ≡ chunk_passed b page z it
      right_chunk k f = rw (← e, h, f)

      pub right_chunk_some : it.from < it.to
      right_chunk_some = lying.some

      pub right_chunk_end : it.to ≤ n
      right_chunk_end = omega (arith, lying.in_low, v.low_in)

      right_laid : Laid page n
      right_laid = c.laid (omega (arith, lying, v.low_in))

      pub right_chunk_sum : it.sum ≤ 65536
      unfolding chunk_right
      right_chunk_sum =
          let f : it.sum ≡ values_size page it.from it.to =
          eqb-true _ _ (and_left (eqb it.sum (values_size page it.from it.to)) _ (and_right (chunk_lies b.low it) _ (rw e at h))) in
          omega (
            arith,
            f,
            c.short,
            values_size_is_a_difference page n right_laid it.from it.to (omega (arith, lying)) right_chunk_end,
            start_inside page n right_laid it.to right_chunk_end,
          )

      pub chunk_count : it.to - it.from ≤ 65536
      chunk_count = omega (arith, right_chunk_end, right_laid.inside, c.short)

      pub chunk_small : (k : List ℕ) → z.seen < b.used → Small (record (with_chunk page z it) { last = k })
      chunk_small k l = record {
        seen = omega (arith, v.used_few);
        inserts = omega (arith, small.inserts);
        count = omega (arith, small.count, chunk_count);
        bytes = omega (arith, small.bytes, right_chunk_sum);
      }

module _ (b : Bounds) (page : List ℕ) (it : Entry) where
  pub behind_the_used : (z : Pass) (t : Bool) (r : Option Pass) → b.used ≤ z.tally.seen → t ≡ is_blank it → r ≡ then_some t z
      → option_map (λ y. y.tally) r ≡ passed b page z.tally it
  behind_the_used z t r l e q =
      ap (option_map (λ (y : Pass). y.tally)) q ∙ tallied t z ∙ ap (λ x. cond x (Some z.tally) None) e ∙ sym (by_tests b page z.tally it (le-ltb z.tally.seen b.used l) refl)

  module _ (z : Tally) (r : Option Tally) (l : z.seen < b.used) where
    pub an_insert_more : it.kind ≡ 1 → r ≡ insert_passed b z it → r ≡ passed b page z it
    an_insert_more k e = e ∙ sym (by_tests b page z it (lt-ltb z.seen b.used l) (eq-eqb it.kind 1 k))

    pub a_chunk_more : (it.kind ≡ 1 → ⊥) → r ≡ chunk_passed b page z it → r ≡ passed b page z it
    a_chunk_more k e = e ∙ sym (by_tests b page z it (lt-ltb z.seen b.used l) (ne_eqb it.kind 1 k))
