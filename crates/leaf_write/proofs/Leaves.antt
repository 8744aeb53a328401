-- The page of a leaf: part after part is pushed, until it is built. Assumes nothing.
use mathlib.Core.Path.{◌≡◌, refl, sym, ap, ◌∙◌}
use mathlib.Core.Bool.{cond}
use mathlib.Core.List.{List, [], ◌∷◌, ◌++◌, append-nil}
use Prim.Native.Nat.{ℕ, zero, suc, ◌+◌, ◌-◌, ◌*◌, ◌≤◌, ◌<◌}
use native.Mathlib.Omega.{arith}
use native.Mathlib.Decide.{dec_lt}
use lib.Dec.{ltb}
use lib.ListN.{length, get_or, take, length-append}
use lib.Seq.{length-take-le, take_all}
use borrow.Author.Tests.{lt-ltb, le-ltb}
use Rattle.leaf_node.specs.Limits.{body_limit}
use Rattle.leaf_node.specs.Record.{Record, values, total}
use Rattle.leaf_node.specs.Page.{count, pointer, record_at, records_between}
use Rattle.leaf_node.specs.Build.{pointers, started, pushed, build}
use Rattle.leaf_node.specs.Fits.{All, Keyed}
use Rattle.leaf_node.specs.Steps.{Laid}
use Rattle.leaf_node.proofs.Lengths.{length_run, body_is_pointers_and_values}
use Rattle.leaf_model.proofs.Lists.{all_left, all_right_lem}
use Rattle.leaf_work.specs.declared.Entry.{Entry}
use Rattle.leaf_work.specs.Lent.{blank}
use Rattle.leaf_work.proofs.Operations.{total_append}
use Rattle.leaf_builder.specs.Steps.{Begins}
use Rattle.leaf_builder.proofs.Putting.{put_none}
use Rattle.leaf_builder.proofs.Pushing.{length_started, length_pushed, pushes_join, pushing_all_records_builds_the_page}
use Rattle.leaf_cut.specs.declared.Gauge.{Gauge}
use Rattle.leaf_cut.specs.declared.Span.{Span}
use Rattle.leaf_cut.specs.declared.Cursor.{Cursor}
use Rattle.leaf_cut.specs.Records.{records_from}
use Rattle.leaf_cut.specs.Steps.{Spread, CursorIn, Kept}
use Rattle.leaf_cut.proofs.Walking.{insert_sizes, chunk_many, an_entry_has_a_record}
use Rattle.leaf_cut.proofs.Parts.{what_is_kept_is_spread, the_records_from_an_entry_on, the_records_from_the_rest_on}
use Rattle.leaf_write.specs.declared.Place.{Place}
use Rattle.leaf_write.proofs.Parts.{part_from, PartThere}
use Rattle.leaf_write.specs.Filling.{place_behind, EntryThere, Filling, RoomAt, LeafFits}

-- ---- records pushed in two goes

take_append : {A : Type 0} (n : ℕ) (xs ys : List A) → take n (xs ++ ys) ≡ take n xs ++ take (n - length (take n xs)) ys
take_append zero xs ys = refl
take_append (suc n) [] ys = let e : suc n - 0 ≡ suc n = omega arith in rw e
take_append {A} (suc n) (x ∷ xs) ys =
    let e : suc n - suc (length (take n xs)) ≡ n - length (take n xs) = omega arith in
    rw e (ap {B = List A} (λ l. x ∷ l) (take_append n xs ys))

module _ (d : List ℕ) (j at : ℕ) (rs ss : List Record) (f : Filling (length d) j at (rs ++ ss)) where
  rs_keyed : All Keyed rs
  rs_keyed = all_left rs ss f.keys

  many : length (rs ++ ss) ≡ length rs + length ss
  many = length-append rs ss

  sums : total (rs ++ ss) ≡ total rs + total ss
  sums = total_append rs ss

  first_goes_in : Filling (length d) j at rs
  first_goes_in = record { keys = rs_keyed; room = omega (arith, many, f.room); fits = omega (arith, sums, f.fits); small = f.small }

  same_long : length (pushed d j at rs) ≡ length d
  same_long = length_pushed d j at rs_keyed (omega (arith, many, f.room)) (omega (arith, sums, f.fits))

  rest_goes_in : Filling (length (pushed d j at rs)) (j + length rs) (at + total rs) ss
  rest_goes_in = rw same_long (record {
    keys = all_right_lem rs ss f.keys;
    room = omega (arith, many, f.room);
    fits = omega (arith, sums, f.fits);
    small = f.small;
  })

  both_go_in : pushed d j at (rs ++ ss) ≡ pushed (pushed d j at rs) (j + length rs) (at + total rs) ss
  both_go_in = sym (pushes_join d j at rs ss rs_keyed (all_right_lem rs ss f.keys) (omega (arith, many, f.room)) (omega (arith, sums, f.fits)))

pub pushed_none : (d : List ℕ) (j at : ℕ) → pushed d j at [] ≡ d
unfolding pushed pointers values
pushed_none d j at = rw (put_none d (34 * j + 2), put_none d at)

-- ---- what a cursor stands before can be read

module _ (list : List Entry) (store page : List ℕ) (s : Span) (h : Kept list store page s) (at : Cursor) (c : CursorIn list page s at) where
  spread : Spread list page s
  spread = what_is_kept_is_spread list store page s h

  laid : 0 < count page → Laid page (count page)
  laid l = h.rest.laid l

  module _ (l : at.entry < s.used) where
    abbrev entry : Entry
    entry = get_or list at.entry blank

    pub the_entry_of_a_cursor_can_be_read : EntryThere store page (get_or list at.entry blank) at.skip
    the_entry_of_a_cursor_can_be_read =
        let e = h.entries at.entry l in
        let k = c.skip_in l in
        record {
          insert = λ q. (
            omega (arith, k, ap length (insert_sizes page entry s (spread.entries at.entry l) h.rest q)),
            record { order = (e.insert q).0; there = (e.insert q).1 },
          );
          chunk = λ q. record {
            order = omega (arith, k, chunk_many page entry s (spread.entries at.entry l) h.rest q);
            there = omega (arith, (e.chunk q).1, h.rest.low_in);
            laid = laid (omega (arith, (e.chunk q).0, (e.chunk q).1, h.rest.low_in));
          };
        }

    pub the_next_entry_is_there : CursorIn list page s (record { entry = at.entry + 1; skip = 0 })
    the_next_entry_is_there = record {
      entry_in = omega arith;
      skip_in = λ m. an_entry_has_a_record page (get_or list (at.entry + 1) blank) s (spread.entries (at.entry + 1) m) h.rest;
      rest_in = λ e. omega (arith, h.rest.low_in);
    }

  rest_at : s.used ≤ at.entry → at.entry ≡ s.used
  rest_at l = omega (arith, c.entry_in)

  pub rest_many : (l : s.used ≤ at.entry) → length (records_from s list store page at) ≡ count page - (s.low + at.skip)
  unfolding records_between
  rest_many l =
      ap length (the_records_from_the_rest_on list store page s h at (rest_at l) (c.rest_in (rest_at l))) ∙ length_run (count page - (s.low + at.skip)) (s.low + at.skip) (record_at page)

  pub a_cursor_has_its_part : 0 < length (records_from s list store page at) → PartThere list store page s at
  a_cursor_has_its_part m = record {
    entry_in = λ l. omega (arith, h.used_in);
    entry = the_entry_of_a_cursor_can_be_read;
    rest = λ l. record { order = c.rest_in (rest_at l); there = omega (arith); laid = laid (omega (arith, m, rest_many l)) };
  }

  -- the records behind its part
  behind : List Record
  behind = cond (ltb at.entry s.used) (records_from s list store page (record { entry = at.entry + 1; skip = 0 })) []

  parted : records_from s list store page at ≡ part_from s list store page at ++ behind
  unfolding part_from behind
  parted = elim (dec_lt at.entry s.used) [
    | yes l ↦ rw (lt-ltb at.entry s.used l) (the_records_from_an_entry_on list store page s h at l (c.skip_in l))
    | no l ↦
        let e : s.used ≤ at.entry = omega arith in
        rw (le-ltb at.entry s.used e, append-nil (records_between page (s.low + at.skip) (count page))) (the_records_from_the_rest_on list store page s h at (rest_at e) (c.rest_in (rest_at e)))
  ]

-- ---- part after part

module _ (list : List Entry) (store page : List ℕ) (s : Span) (d₀ : List ℕ) (first : Place) (start : Cursor) where
  -- a page whose records up to a place were pushed: it still takes those from a cursor on
  pub record Filled (d : List ℕ) (at : Cursor) (p : Place) : Type 0 where
    pub there : 0 < p.left → CursorIn list page s at
    pub more : p.left ≤ length (records_from s list store page at)
    pub room : RoomAt (length d) p (records_from s list store page at)
    pub whole : pushed d₀ first.index first.at (take first.left (records_from s list store page start)) ≡ pushed d p.index p.at (take p.left (records_from s list store page at))
    pub same : length d ≡ length d₀

  module _ (d : List ℕ) (at : Cursor) (p : Place) (w : Filled d at p) where
    pub a_filled_page_has_all : p.left ≡ 0 → d ≡ pushed d₀ first.index first.at (take first.left (records_from s list store page start))
    a_filled_page_has_all z = sym (w.whole ∙ ap (λ (k : ℕ). pushed d p.index p.at (take k (records_from s list store page at))) z ∙ pushed_none d p.index p.at)

    module _ (h : Kept list store page s) (l : 0 < p.left) where
      abbrev part : List Record
      part = part_from s list store page at

      abbrev rs : List Record
      rs = take p.left part

      abbrev rest : List Record
      rest = behind list store page s h at (w.there l)

      abbrev ss : List Record
      ss = take (p.left - length rs) rest

      two : take p.left (records_from s list store page at) ≡ rs ++ ss
      two = ap (take p.left) (parted list store page s h at (w.there l)) ∙ take_append p.left part rest

      fill : Filling (length d) p.index p.at (rs ++ ss)
      fill = rw two at w.room

      pub the_part_can_be_read : PartThere list store page s at
      the_part_can_be_read = a_cursor_has_its_part list store page s h at (w.there l) (omega (arith, w.more))

      pub the_part_has_room : RoomAt (length d) p (part_from s list store page at)
      the_part_has_room = first_goes_in d p.index p.at rs ss fill

      abbrev next : Cursor
      next = record { entry = at.entry + 1; skip = 0 }

      in_an_entry : at.entry < s.used → rest ≡ records_from s list store page next
      unfolding behind
      in_an_entry e = rw (lt-ltb at.entry s.used e)

      in_the_rest : s.used ≤ at.entry → rest ≡ []
      unfolding behind
      in_the_rest e = rw (le-ltb at.entry s.used e)

      all_many : length (records_from s list store page at) ≡ length part + length rest
      all_many = ap length (parted list store page s h at (w.there l)) ∙ length-append part rest

      rest_all : s.used ≤ at.entry → length rs ≡ p.left
      rest_all e = length-take-le p.left part (omega (arith, w.more, all_many, ap length (in_the_rest e)))

      rs_many : (length part ≤ p.left → length rs ≡ length part) × (p.left ≤ length part → length rs ≡ p.left)
      rs_many = ((λ m. ap length (take_all p.left part m)), (λ m. length-take-le p.left part m))

      ss_is : ss ≡ take (p.left - length rs) (records_from s list store page next)
      ss_is = elim (dec_lt at.entry s.used) [
        | yes e ↦ rw (in_an_entry e)
        | no e ↦ let z : p.left - length rs ≡ 0 = omega (arith, rest_all (omega arith)) in rw z
      ]

      next_more : p.left - length rs ≤ length (records_from s list store page next)
      next_more = elim (dec_lt at.entry s.used) [
        | yes e ↦ elim (dec_lt p.left (length part)) [
          | yes m ↦ omega (arith, rs_many.1 (omega arith))
          | no m ↦ omega (arith, rs_many.0 (omega arith), w.more, all_many, ap length (in_an_entry e))
        ]
        | no e ↦ omega (arith, rest_all (omega arith))
      ]

      next_there : 0 < p.left - length rs → CursorIn list page s next
      next_there m = elim (dec_lt at.entry s.used) [ yes e ↦ the_next_entry_is_there list store page s h at (w.there l) e | no e ↦ absurd (omega (arith, rest_all (omega arith))) ]

      further : Filled (pushed d p.index p.at rs) next (place_behind p rs)
      further = record {
        there = next_there;
        more = next_more;
        room = rw (← ss_is) (rest_goes_in d p.index p.at rs ss fill);
        whole = w.whole ∙ ap (pushed d p.index p.at) two ∙ both_go_in d p.index p.at rs ss fill ∙ ap (pushed (pushed d p.index p.at rs) (p.index + length rs) (p.at + total rs)) ss_is;
        same = same_long d p.index p.at rs ss fill ∙ w.same;
      }

      pub a_part_is_pushed : (x : List ℕ) (r : Place) → x ≡ pushed d p.index p.at (take p.left (part_from s list store page at)) → r ≡ place_behind p (take p.left (part_from s list store page at))
          → Filled x (record { entry = at.entry + 1; skip = 0 }) r
      a_part_is_pushed x r q e = rw (q, e) further

-- ---- the page

module _ (d : List ℕ) (leaf : Gauge) (R : List Record) (f : LeafFits (length d) leaf R) where
  leaf_many : length (take leaf.count R) ≡ leaf.count
  leaf_many = length-take-le leaf.count R f.there

  leaf_room : pointer leaf.count + leaf.bytes ≤ length d
  unfolding body_limit
  leaf_room = omega (arith, f.fits.room, f.fits.sized.least, body_is_pointers_and_values (take leaf.count R), leaf_many, f.bytes)

  pub a_leaf_begins : Begins (length d) leaf.count leaf.bytes
  a_leaf_begins = record { room = leaf_room; count = omega (arith, leaf_room, f.fits.sized.most) }

  module _ (x : List ℕ) (first : ℕ) (q : x ≡ started d leaf.count leaf.bytes) (e : first ≡ length d - leaf.bytes) where
    x_long : length x ≡ length d
    x_long = ap length q ∙ length_started d leaf.count leaf.bytes leaf_room

    pub a_leaf_has_room : Filling (length x) 0 first (take leaf.count R)
    a_leaf_has_room = rw x_long (record {
      keys = f.fits.keys;
      room = omega (arith, leaf_many, leaf_room, e);
      fits = omega (arith, leaf_room, e, f.bytes);
      small = omega (arith, f.fits.sized.most);
    })

    pub a_leaf_is_built : (y : List ℕ) → y ≡ pushed x 0 first (take leaf.count R) → y ≡ build (length d) (take leaf.count R)
    a_leaf_is_built y p =
        let rs : List Record = take leaf.count R in
        let a : x ≡ started d (length rs) (total rs) = q ∙ ap (λ (k : ℕ). started d k leaf.bytes) (sym leaf_many) ∙ ap (started d (length rs)) f.bytes in
        let b : first ≡ length d - total rs = e ∙ ap (λ (k : ℕ). length d - k) f.bytes in
        p ∙ ap (λ (z : List ℕ). pushed z 0 first rs) a ∙ ap (λ (k : ℕ). pushed (started d (length rs) (total rs)) 0 k rs) b
        ∙ pushing_all_records_builds_the_page (length d) d rs refl f.fits
