-- A chunk's pointers, each written a single time with its final number. Assumes nothing.
use Prim.Native.Nat.{ℕ, ◌+◌, ◌-◌, ◌*◌, ◌%◌, ◌≤◌, ◌<◌}
use mathlib.Core.Path.{◌≡◌, sym, ap, ◌∙◌, subst}
use mathlib.Core.List.{List, ◌++◌}
use native.Mathlib.Omega.{arith}
use native.Mathlib.Decide.{dec_le}
use lib.Dec.{leb}
use lib.ListN.{length, take, drop, length-append, length-take, length-drop, take-append-drop}
use lib.Seq.{paste, length-take-le, take_at, drop_at, drop-drop}
use borrow.Author.Tests.{le-leb, lt-leb}
use Rattle.bit_ops.specs.Key.{Bytes}
use Rattle.leaf_node.specs.Page.{count, pointer, key_at, number_at, offset_at, flag_at, start, record_at, records_between}
use Rattle.leaf_node.specs.Build.{le16, tagged, pointers, put}
use Rattle.leaf_node.proofs.Lengths.{length_pointers, pointers_append, run_append}
use Rattle.leaf_node.proofs.Laying.{keys_have_32_bytes, range_length}
use Rattle.leaf_node.proofs.RoundTrips.{pointers_of_a_range_are_one_part}
use Rattle.leaf_builder.specs.Steps.{Shift, Chunk, pointer_moved, PointersUpTo}
use Rattle.leaf_builder.proofs.Putting.{length_put, put_stands, put_put, put_is, put_parts}
use Rattle.leaf_builder.proofs.Writing.{pointers_start, pointers_more}

-- ---- one pointer: the number is shifted as a whole, so that its top bit stays

number_shifted : (w at first : ℕ) → w < 65536 → first ≤ w % 32768 → at + (w % 32768 - first) < 32768 → w + at - first ≡ tagged (at + (w % 32768 - first)) (leb 32768 w)
unfolding tagged
number_shifted w at first h l m = elim (dec_le 32768 w) [
  | yes k ↦ rw (le-leb 32768 w k) (omega arith)
  | no k ↦ let s : w < 32768 = omega arith in rw (lt-leb 32768 w s) (omega arith)
]

pub key_has_32_bytes : (p : List ℕ) (i m place first at : ℕ) → Shift p i m place first at → length (key_at p i) ≡ 32
unfolding key_at
key_has_32_bytes p i m place first at s = simp (length-take, length-drop) (omega (arith, s.inside))

pub pointer_put : (p d k x y : List ℕ) (i place first at w : ℕ) → Shift p i (length d) place first at → k ≡ key_at p i → x ≡ put d place k
    → w ≡ number_at p i → w < 65536 → y ≡ put x (place + 32) (le16 (w + at - first)) → y ≡ put d place (pointer_moved p i first at)
unfolding offset_at flag_at
pointer_put p d k x y i place first at w s ek ex ew h ey =
    let n : w + at - first ≡ tagged (at + (number_at p i % 32768 - first)) (leb 32768 (number_at p i)) =
    number_shifted w at first h (omega (arith, s.order)) (omega (arith, s.small)) ∙ rw ew in
    let number : List ℕ = le16 (tagged (at + (offset_at p i - first)) (flag_at p i)) in
    let lk : length (key_at p i) ≡ 32 = key_has_32_bytes p i (length d) place first at s in
    ey ∙ rw (n, ex, ek) (put_put d place (key_at p i) (place + 32) number (omega arith) (omega (arith, s.room)))

-- ---- the pointers of the records before i

module _ (p d : List ℕ) (from to j at : ℕ) (c : Chunk p from to (length d) j at) (i : ℕ) (h : from ≤ i) (l : i ≤ to) where
  pointers_long : length (pointers at (records_between p from i)) ≡ 34 * (i - from)
  pointers_long =
      length_pointers at (keys_have_32_bytes p (count p) c.laid from i h (omega (arith, c.there)))
      ∙ ap (λ (n : ℕ). 34 * n) (range_length p (count p) c.laid from i h (omega (arith, c.there)))

  records_split : records_between p from to ≡ records_between p from i ++ records_between p i to
  unfolding records_between
  records_split =
      let a : to - from ≡ i - from + (to - i) = omega arith in
      let b : from + (i - from) ≡ i = omega arith in
      rw a (run_append (i - from) (to - i) from (record_at p) ∙ rw b)

  -- "final": they are the first ones of the finished page
  pub pointers_before_are_final : take (34 * (i - from)) (pointers at (records_between p from to)) ≡ pointers at (records_between p from i)
  pointers_before_are_final =
      rw (records_split, pointers_append at (records_between p from i) (records_between p i to)) (take_at (pointers at (records_between p from i)) _ (34 * (i - from)) pointers_long)

  room : pointer j + 34 * (i - from) ≤ length d
  room = omega (arith, c.room, c.fits)

  pub put_is_up_to : (x : List ℕ) → x ≡ put d (pointer j) (pointers at (records_between p from i)) → PointersUpTo p from to j at d i x
  put_is_up_to x e =
      let s : List ℕ = pointers at (records_between p from i) in
      let r = pointers_long in
      let front : length (take (pointer j) d) ≡ pointer j = length-take-le (pointer j) d (omega (arith, room)) in
      let behind : length (take (pointer j) d ++ s) ≡ pointer (j + (i - from)) = simp length-append (omega arith) in
      let b : pointer j + length s ≡ pointer (j + (i - from)) = omega arith in
      record {
        final = rw pointers_before_are_final (ap (λ (n : ℕ). take n (drop (pointer j) x)) (sym r) ∙ rw e (put_stands d (pointer j) s (omega (arith, room))));
        later = rw e (ap (drop (pointer (j + (i - from)))) (put_is d (pointer j) s) ∙ drop_at (take (pointer j) d ++ s) (drop (pointer j + length s) d) (pointer (j + (i - from))) behind ∙ rw b);
        earlier = rw (e, put_parts d (pointer j) s) (take_at (take (pointer j) d) (s ++ drop (pointer j + length s) d) (pointer j) front);
        same_length = rw e (length_put d (pointer j) s (omega (arith, room)));
      }

  pub up_to_is_put : (x : List ℕ) → PointersUpTo p from to j at d i x → x ≡ put d (pointer j) (pointers at (records_between p from i))
  up_to_is_put x u =
      let s : List ℕ = pointers at (records_between p from i) in
      let n : ℕ = 34 * (i - from) in
      let r = pointers_long in
      let b : pointer j + n ≡ pointer (j + (i - from)) = omega arith in
      let final : take n (drop (pointer j) x) ≡ s = u.final ∙ pointers_before_are_final in
      let later : drop n (drop (pointer j) x) ≡ drop (pointer j + length s) d = drop-drop n (pointer j) x ∙ rw b (u.later ∙ rw (← b, r)) in
      let whole : take (pointer j) x ++ (take n (drop (pointer j) x) ++ drop n (drop (pointer j) x)) ≡ x = rw (take-append-drop n (drop (pointer j) x)) (take-append-drop (pointer j) x) in
      sym whole ∙ rw (final, later, u.earlier) (sym (put_parts d (pointer j) s))

-- ---- the loop

pub no_pointer_yet : (p d : List ℕ) (from to j at : ℕ) → Chunk p from to (length d) j at → PointersUpTo p from to j at d from d
no_pointer_yet p d from to j at c = put_is_up_to p d from to j at c from (omega arith) c.order d (pointers_start p d from j at)

pub one_pointer_more : (p d x y : List ℕ) (from to j at i place first : ℕ) → Chunk p from to (length d) j at → from ≤ i → i < to → place ≡ pointer (j + (i - from)) → first ≡ start p from
    → PointersUpTo p from to j at d i x → y ≡ put x place (pointer_moved p i first at) → PointersUpTo p from to j at d (i + 1) y
one_pointer_more p d x y from to j at i place first c h l ep ef u ey =
    put_is_up_to p d from to j at c (i + 1) (omega arith) (omega arith) y
    (pointers_more p d x y from to j at i place first c h l ep ef (up_to_is_put p d from to j at c i h (omega arith) x u) ey)

pub all_pointers : (p d x : List ℕ) (from to j at i : ℕ) → Chunk p from to (length d) j at → i ≤ to → to ≤ i → PointersUpTo p from to j at d i x
    → x ≡ put d (pointer j) (pointers at (records_between p from to))
all_pointers p d x from to j at i c h l u =
    let e : i ≡ to = omega arith in
    up_to_is_put p d from to j at c to c.order (omega arith) x (subst (λ (n : ℕ). PointersUpTo p from to j at d n x) e u)

-- ---- values that stay: one copy, byte by byte

module _ (p d : List ℕ) (from to j at : ℕ) (c : Chunk p from to (length d) j at) (stays : at ≡ start p from) (bytes : Bytes p) where
  abbrev block : List ℕ
  block = take (34 * (to - from)) (drop (pointer from) p)

  block_is : block ≡ pointers at (records_between p from to)
  block_is = rw stays (sym (pointers_of_a_range_are_one_part p (count p) c.laid bytes from to c.order c.there))

  -- `paste d b s n` is d after the first n bytes of s were copied to byte b: the copy's own invariant. After each record's 34 bytes the same holds.
  pub a_copy_writes_pointer_after_pointer : (i : ℕ) → from ≤ i → i ≤ to → PointersUpTo p from to j at d i (paste d (pointer j) block (34 * (i - from)))
  a_copy_writes_pointer_after_pointer i h l =
      let n : ℕ = 34 * (i - from) in
      let front : take n block ≡ pointers at (records_between p from i) = ap (take n) block_is ∙ pointers_before_are_final p d from to j at c i h l in
      let long : length (take n block) ≡ n = ap length front ∙ pointers_long p d from to j at c i h l in
      let pasted : paste d (pointer j) block n ≡ put d (pointer j) (take n block) =
      sym (put_is d (pointer j) (take n block) ∙ ap (λ (k : ℕ). (take (pointer j) d ++ take n block) ++ drop (pointer j + k) d) long) in
      put_is_up_to p d from to j at c i h l (paste d (pointer j) block n) (pasted ∙ ap (put d (pointer j)) front)

  copied : (v x : List ℕ) → v ≡ take (34 * to + 2 - (34 * from + 2)) (drop (34 * from + 2) p) → x ≡ put d (34 * j + 2) v → x ≡ put d (pointer j) (pointers at (records_between p from to))
  copied v x ev ex =
      let n : 34 * to + 2 - (34 * from + 2) ≡ 34 * (to - from) = omega (arith, c.order) in
      ex ∙ ap (put d (34 * j + 2)) (ev ∙ ap (λ (k : ℕ). take k (drop (34 * from + 2) p)) n ∙ block_is)

pub one_copy_is_all : (p d v x : List ℕ) (from to j at first : ℕ) → Chunk p from to (length d) j at → first ≡ start p from → first ≡ at → Bytes p
    → v ≡ take (34 * to + 2 - (34 * from + 2)) (drop (34 * from + 2) p) → x ≡ put d (34 * j + 2) v → x ≡ put d (pointer j) (pointers at (records_between p from to))
one_copy_is_all p d v x from to j at first c ef ea bytes ev ex = copied p d from to j at c (sym ea ∙ ef) bytes v x ev ex
