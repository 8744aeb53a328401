-- What the steps of the builder write. Assumes nothing.
use Prim.Native.Nat.{ℕ, ◌+◌, ◌-◌, ◌*◌, ◌/◌, ◌%◌, ◌≤◌, ◌<◌}
use mathlib.Core.Path.{◌≡◌, refl, sym, ap, ◌∙◌}
use mathlib.Core.Bool.{Bool, true, false}
use mathlib.Core.List.{List, [], ◌∷◌, ◌++◌, append-nil}
use native.Mathlib.Omega.{arith}
use native.Mathlib.Nat.{sub_self, add-sub_cancel_left}
use lib.ListN.{length, take, drop, length-take, length-drop}
use borrow.Rule.Slice.PartMut.{put_mid}
use Rattle.std.specs.Int.{w16, to_le_bytes}
use Rattle.bit_ops.specs.Steps.{zeros}
use Rattle.leaf_node.specs.Record.{Record, values, total}
use Rattle.leaf_node.specs.Page.{count, pointer, key_at, offset_at, flag_at, start, length_at, value_at, record_at, run, records_between, values_size}
use Rattle.leaf_node.specs.Build.{le16, tagged, pointers, put, started, pushed}
use Rattle.leaf_node.specs.Cell.{cell_at}
use Rattle.leaf_node.specs.Fits.{All, nil, cons, Keyed}
use Rattle.leaf_node.specs.declared.Cell as node
use Rattle.leaf_node.proofs.Reading.{start_in}
use Rattle.leaf_node.proofs.Lengths.{length_zeros, length_pointers, pointers_append, run_append}
use Rattle.leaf_node.proofs.Laying.{starts_between, start_inside, value_length_lem, key_length, keys_have_32_bytes, values_of_a_range_are_one_part, values_size_is_a_difference, range_length}
use Rattle.leaf_node.proofs.Copying.{put_mid_is_put}
use Rattle.leaf_builder.specs.Steps.{CellFits, Shift, Chunk, pointer_moved}
use Rattle.leaf_builder.proofs.Putting.{put_none, put_put}
use Rattle.leaf_builder.proofs.Pushing.{pushes_join}

-- ---- zeros

-- what the library fills with zeros
pub cleared : (d x : List ℕ) (from m o : ℕ) → x ≡ zeros o → o ≡ m → put_mid from m d x ≡ put d from (zeros m)
cleared d x from m o e q = put_mid_is_put d from m x (zeros m) (rw q at e) (sym (length_zeros m))

-- ---- numbers

-- the library's two bytes of a number, low byte first
pub word_put : (d x : List ℕ) (at w : ℕ) → w < 65536 → x ≡ put d at (to_le_bytes w16 w) → x ≡ put d at (le16 w)
unfolding le16
word_put d x at w h e = e ∙ ap (put d at) (two w h)
  where
    two : (w : ℕ) → w < 65536 → ◌≡◌ {A = List ℕ} (to_le_bytes w16 w) (w % 256 ∷ w / 256 ∷ [])
    two w h =
        let e : w / 256 % 256 ≡ w / 256 = omega arith in
        rw e refl

pub number_flagged : (at : ℕ) (f : Bool) → f ≡ true → at + 32768 ≡ tagged at f
unfolding tagged
number_flagged at f e = rw e

pub number_plain : (at : ℕ) (f : Bool) → f ≡ false → at ≡ tagged at f
unfolding tagged
number_plain at f e = rw e (omega arith)

-- ---- the start and one record

pub begun : (d d₁ d₂ : List ℕ) (n t : ℕ) → d₁ ≡ put d 0 (le16 n) → d₂ ≡ put d₁ (pointer n) (zeros (length d - t - pointer n)) → d₂ ≡ started d n t
unfolding started
begun d d₁ d₂ n t e q = rw (q, e)

pub cell_pushed : (d d₁ d₂ d₃ k v : List ℕ) (j at w : ℕ) (f : Bool) → CellFits (length d) j at (length v) → length k ≡ 32 → d₁ ≡ put d (pointer j) k → w ≡ tagged at f
    → d₂ ≡ put d₁ (34 * j + 34) (le16 w) → d₃ ≡ put d₂ at v → d₃ ≡ pushed d j at (record { key = k; value = v; flag = f } ∷ [])
unfolding pushed pointers values
cell_pushed d d₁ d₂ d₃ k v j at w f c l a b e q =
    let h : pointer j ≤ length d = omega (arith, c.room, c.fits) in
    rw (q, e, a, b, append-nil, append-nil, put_put d (pointer j) k (34 * j + 34) (le16 (tagged at f)) (omega arith) h)

-- ---- one record more

run_one : (i : ℕ) (f : ℕ → Record) → run 1 i f ≡ f i ∷ []
unfolding run
run_one i f = refl

records_more : (p : List ℕ) (from i : ℕ) → from ≤ i → records_between p from (i + 1) ≡ records_between p from i ++ (record_at p i ∷ [])
unfolding records_between
records_more p from i h =
    let a : i + 1 - from ≡ i - from + 1 = omega arith in
    let b : from + (i - from) ≡ i = omega arith in
    rw a (run_append (i - from) 1 from (record_at p) ∙ rw (b, run_one i (record_at p)))

pub records_none : (p : List ℕ) (i : ℕ) → records_between p i i ≡ []
unfolding records_between run
records_none p i = ap (λ (m : ℕ). run m i (record_at p)) (sub_self i)

pointers_one : (at : ℕ) (r : Record) → pointers at (r ∷ []) ≡ r.key ++ le16 (tagged at r.flag)
unfolding pointers
pointers_one at r = rw append-nil

pointers_none : (at : ℕ) → pointers at [] ≡ []
unfolding pointers
pointers_none at = refl

pub total_one : (r : Record) → total (r ∷ []) ≡ length r.value
unfolding total
total_one r = omega arith

pushed_none : (d : List ℕ) (j at : ℕ) → pushed d j at [] ≡ d
unfolding pushed pointers values
pushed_none d j at = rw (put_none, put_none)

-- ---- a chunk

module _ (p : List ℕ) (from to m j at : ℕ) (c : Chunk p from to m j at) where
  starts : (i k : ℕ) → i ≤ k → k ≤ to → start p i ≤ start p k
  starts i k h l = starts_between p (count p) c.laid i k h (omega (arith, c.there))

  pub chunk_order : (a b : ℕ) → a ≡ start p from → b ≡ start p to → a ≤ b
  chunk_order a b e q = omega (arith, starts from to c.order (omega arith))

  pub chunk_end : (b : ℕ) → b ≡ start p to → b ≤ length p
  chunk_end b q = omega (arith, start_inside p (count p) c.laid to c.there)

  offset_is : (i : ℕ) → i < to → offset_at p i ≡ start p i
  offset_is i l = start_in p (count p) i (offset_at p i) refl (omega (arith, c.there)) refl

  pub chunk_shift : (i first place n : ℕ) → from ≤ i → i < to → first ≡ start p from → n ≡ m → place ≡ pointer (j + (i - from)) → Shift p i n place first at
  chunk_shift i first place n h l e q r =
      let a = starts from i h (omega arith) in
      let b = starts i to (omega arith) (omega arith) in
      let o = offset_is i l in
      record {
        inside = omega (arith, c.laid.inside, c.there);
        room = omega (arith, c.room, c.fits);
        order = omega arith;
        small = omega (arith, c.fits, c.small);
      }

  -- the records before i
  module _ (i : ℕ) (h : from ≤ i) (l : i ≤ to) where
    keyed : All Keyed (records_between p from i)
    keyed = keys_have_32_bytes p (count p) c.laid from i h (omega (arith, c.there))

    many : length (records_between p from i) ≡ i - from
    many = range_length p (count p) c.laid from i h (omega (arith, c.there))

    sum : total (records_between p from i) ≡ start p i - start p from
    unfolding values_size
    sum = values_size_is_a_difference p (count p) c.laid from i h (omega (arith, c.there))

-- ---- the pointers of a chunk

pub pointers_start : (p d : List ℕ) (from j at : ℕ) → d ≡ put d (pointer j) (pointers at (records_between p from from))
pointers_start p d from j at = rw (records_none p from, pointers_none at) (sym (put_none d (pointer j)))

pub pointers_more : (p d x y : List ℕ) (from to j at i place first : ℕ) → Chunk p from to (length d) j at → from ≤ i → i < to → place ≡ pointer (j + (i - from))
    → first ≡ start p from → x ≡ put d (pointer j) (pointers at (records_between p from i))
    → y ≡ put x place (pointer_moved p i first at) → y ≡ put d (pointer j) (pointers at (records_between p from (i + 1)))
unfolding record_at
pointers_more p d x y from to j at i place first c h l ep ef ex ey =
    let rs : List Record = records_between p from i in
    let n = many p from to (length d) j at c i h (omega arith) in
    let lp = length_pointers at (keyed p from to (length d) j at c i h (omega arith)) in
    let inside : pointer j ≤ length d = omega (arith, c.room, c.fits) in
    rw (
      ey,
      ex,
      offset_is p from to (length d) j at c i l,
      ef,
      put_put d (pointer j) (pointers at rs) place (key_at p i ++ le16 (tagged (at + (start p i - start p from)) (flag_at p i))) (omega arith) inside,
      records_more p from i h,
      pointers_append at rs (record_at p i ∷ []),
      sum p from to (length d) j at c i h (omega arith),
      pointers_one (at + (start p i - start p from)) (record_at p i),
    )

pub chunk_pushed : (p d x y v : List ℕ) (from to j at a b : ℕ) → Chunk p from to (length d) j at → x ≡ put d (pointer j) (pointers at (records_between p from to))
    → a ≡ start p from → b ≡ start p to → v ≡ take (b - a) (drop a p) → y ≡ put x at v → y ≡ pushed d j at (records_between p from to)
unfolding pushed
chunk_pushed p d x y v from to j at a b c ex ea eb ev ey =
    rw (ey, ex, ev, ea, eb, ← (values_of_a_range_are_one_part p (count p) c.laid from to c.order c.there))

-- ---- a record of a page

module _ (p : List ℕ) (i m j at : ℕ) (c : Chunk p i (i + 1) m j at) where
  pub record_end : start p (i + 1) ≤ length p
  record_end = start_inside p (count p) c.laid (i + 1) c.there

pub record_pushed : (p d x k v : List ℕ) (i j at : ℕ) (c : node.Cell) → c ≡ cell_at p i → k ≡ key_at p i → v ≡ take (c.offset + c.len - c.offset) (drop c.offset p)
    → x ≡ pushed d j at (record { key = k; value = v; flag = c.flag } ∷ []) → x ≡ pushed d j at (record_at p i ∷ [])
unfolding record_at value_at cell_at
record_pushed p d x k v i j at c e q r s = s ∙ rw (r, q, add-sub_cancel_left, e)

pub record_next : (p v : List ℕ) (i m j at r a n : ℕ) → Chunk p i (i + 1) m j at → r ≡ at + length v → v ≡ take (a + n - a) (drop a p) → a ≡ start p i → a + n ≡ start p (i + 1)
    → r ≡ at + (start p (i + 1) - start p i)
record_next p v i m j at r a n c e q ea en =
    let l : length v ≡ a + n - a = rw q (simp (length-take, length-drop) (omega (arith, record_end p i m j at c))) in
    omega arith

-- ---- records cell by cell

pub cells_start : (p d : List ℕ) (from j at : ℕ) → d ≡ pushed d j at (records_between p from from)
cells_start p d from j at = rw (records_none p from) (sym (pushed_none d j at))

module _ (p d : List ℕ) (from to j at i k next : ℕ) (c : Chunk p from to (length d) j at) (h : from ≤ i) (l : i < to) (ek : k ≡ j + (i - from))
    (en : next ≡ at + (start p i - start p from)) where
  up : (start p from ≤ start p i) × (start p i ≤ start p (i + 1)) × (start p (i + 1) ≤ start p to)
  up = (
    starts p from to (length d) j at c from i h (omega arith),
    starts p from to (length d) j at c i (i + 1) (omega arith) (omega arith),
    starts p from to (length d) j at c (i + 1) to (omega arith) (omega arith),
  )

  pub cells_one : (m : ℕ) → m ≡ length d → Chunk p i (i + 1) m k next
  cells_one m e =
      let u = up in
      record {
        laid = c.laid;
        order = omega arith;
        there = omega (arith, c.there);
        room = omega (arith, c.room);
        fits = omega (arith, c.fits);
        small = omega (arith, c.small);
      }

  pub cells_next : (r : ℕ) → r ≡ next + (start p (i + 1) - start p i) → r ≡ at + (start p (i + 1) - start p from)
  cells_next r e = let u = up in omega arith

  pub cells_more : (x y : List ℕ) → x ≡ pushed d j at (records_between p from i) → y ≡ pushed x k next (record_at p i ∷ []) → y ≡ pushed d j at (records_between p from (i + 1))
  unfolding length_at
  cells_more x y ex ey =
      let u = up in
      let rs : List Record = records_between p from i in
      let n = many p from to (length d) j at c i h (omega arith) in
      let t = sum p from to (length d) j at c i h (omega arith) in
      let v = value_length_lem p (count p) c.laid i (omega (arith, c.there)) in
      let w = total_one (record_at p i) in
      let ks : k ≡ j + length rs = omega arith in
      let ns : next ≡ at + total rs = omega arith in
      let kd : All Keyed (record_at p i ∷ []) = cons (key_length p (count p) c.laid i (omega (arith, c.there))) nil in
      ey ∙ rw (ex, ks, ns, records_more p from i h)
      (pushes_join d j at rs (record_at p i ∷ []) (keyed p from to (length d) j at c i h (omega arith)) kd (omega (arith, c.room)) (omega (arith, c.fits)))
