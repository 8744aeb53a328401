-- Splitting: one page written, and what the loop over the pages leaves to be written. Assumes nothing.
use mathlib.Core.Path.{◌≡◌, refl, sym, ap, ◌∙◌}
use mathlib.Core.Bool.{Bool, true, false}
use mathlib.Core.List.{List, ◌++◌, append_assoc}
use Prim.Native.Nat.{ℕ, suc, ◌+◌, ◌-◌, ◌*◌, ◌≤◌, ◌<◌, min}
use native.Mathlib.Nat.{add-sub_cancel_left}
use native.Mathlib.Omega.{arith}
use lib.ListN.{length, take, drop, length-append, length-take, length-drop, drop_of_length-le}
use lib.Seq.{take_all, take-take, drop-drop}
use borrow.Author.Tests.{leb-true, leb-false}
use lib.Dec.{leb}
use Rattle.std.specs.Prelude.{Err}
use Rattle.std.specs.Int.{w16, to_le_bytes}
use Rattle.refusal.specs.declared.Refusal.{Refusal}
use Rattle.refusal.specs.Numbers.{number}
use Rattle.refusal.proofs.Numbers.{not_accepted}
use Rattle.bit_ops.specs.Steps.{zeros}
use Rattle.leaf_node.specs.Build.{put}
use Rattle.leaf_builder.proofs.Putting.{take_drop, put_none, put_put, length_put}
use Rattle.leaf_model.specs.Basics.{joined}
use Rattle.overflow.specs.Count.{page_count}
use Rattle.overflow.specs.Written.{low_bytes, numbers_out, cell_of, page_of, pages_of, split_pages}
use Rattle.overflow.specs.Verdict.{split_verdict}
use Rattle.overflow.specs.Outcome.{padded, split_of}
use Rattle.overflow.specs.Reply.{split_out}
use Rattle.overflow.proofs.Numbers.{length_low, a_number_is_written, numbers_long}
use Rattle.overflow.proofs.Cells.{length_cell}
use Rattle.overflow.proofs.Verdicts.{Lent, accepted_splittings}
use Rattle.overflow.proofs.Chunks.{length_page, a_page_by_its_counts, no_page}

-- ---- one page

pub a_head_is_written : (d s a t b : List ℕ) (at n m : ℕ) → at + 4 ≤ length d → s ≡ to_le_bytes w16 n → a ≡ put d at s → t ≡ to_le_bytes w16 m → b ≡ put a (at + 2) t
    → b ≡ put d at (low_bytes 2 n ++ low_bytes 2 m)
a_head_is_written d s a t b at n m h es ea et eb =
    rw (eb, ea, es ∙ a_number_is_written 2 n, et ∙ a_number_is_written 2 m) (put_put d at (low_bytes 2 n) (at + 2) (low_bytes 2 m) (omega (arith, length_low 2 n)) (omega arith))

pub a_page_is_written : (d b e f g ns bs : List ℕ) (at : ℕ) → at + 4096 ≤ length d → 4 * length ns + length bs ≤ 4092 → b ≡ put d at (low_bytes 2 (length ns) ++ low_bytes 2 (length bs))
    → e ≡ put b (at + 4) (numbers_out ns) → f ≡ put e (at + 4 + 4 * length ns) bs
    → g ≡ put f (at + 4 + 4 * length ns + length bs) (zeros (at + 4096 - (at + 4 + 4 * length ns + length bs))) → g ≡ put d at (page_of ns bs)
unfolding page_of
a_page_is_written d b e f g ns bs at h k eb ee ef eg =
    let l = length_low 2 (length ns) in
    let m = length_low 2 (length bs) in
    let n = numbers_long ns in
    let z : at + 4096 - (at + 4 + 4 * length ns + length bs) ≡ 4092 - (4 * length ns + length bs) = omega arith in
    rw (
      eg,
      z,
      ef,
      ee,
      eb,
      put_put d at (low_bytes 2 (length ns) ++ low_bytes 2 (length bs)) (at + 4) (numbers_out ns) (simp length-append (omega arith)) (omega arith),
      put_put d at (low_bytes 2 (length ns) ++ low_bytes 2 (length bs) ++ numbers_out ns) (at + 4 + 4 * length ns) bs (simp length-append (omega arith)) (omega arith),
      put_put d at (low_bytes 2 (length ns) ++ low_bytes 2 (length bs) ++ numbers_out ns ++ bs) (at + 4 + 4 * length ns + length bs) (zeros (4092 - (4 * length ns + length bs)))
          (simp length-append (omega arith)) (omega arith),
    ) (ap (λ (x : List ℕ). put d at x) (simp append_assoc))

-- ---- all pages

few : {A : Type 0} (k : ℕ) (xs : List A) → length (take k xs) ≤ k
few k xs = simp length-take (omega arith)

counts_fit : (n v a b : ℕ) → a ≡ min 1023 n → b ≡ min (4092 - 4 * min 1023 n) v → 4 * a + b ≤ 4092
counts_fit n v a b ea eb = omega arith

-- the pages before page i are written; those of the numbers from n on and the bytes from `from` on are still to come
pub record Chunked (t : ℕ) (ns v d x : List ℕ) (i n from : ℕ) : Type 0 where
  pub within : i ≤ t
  pub numbers : n ≤ length ns
  pub bytes : from ≤ length v
  pub long : length x ≡ length d
  pub same : put d 0 (joined (pages_of t ns v)) ≡ put x (4096 * i) (joined (pages_of (t - i) (drop n ns) (drop from v)))

module _ (t : ℕ) (ns v d : List ℕ) where
  module _ (x : List ℕ) (i n from : ℕ) (h : Chunked t ns v d x i n from) where
    pub all_pages_are_chunked : t ≤ i → x ≡ put d 0 (joined (pages_of t ns v))
    all_pages_are_chunked l =
        let e : t - i ≡ 0 = omega arith in
        sym (h.same ∙ rw (e, no_page (drop n ns) (drop from v)) (put_none x (4096 * i)))

    module _ (l : i < t) (r : 4096 * t ≤ length d) (a b : ℕ) (ea : a ≡ min 1023 (length ns - n)) (eb : b ≡ min (4092 - 4 * min 1023 (length ns - n)) (length v - from)) where
      pub the_numbers_are_there : n + a ≤ length ns
      the_numbers_are_there = omega (arith, h.numbers)

      pub the_bytes_are_there : from + b ≤ length v
      the_bytes_are_there = omega (arith, h.bytes)

      pub the_counts_fit : 4 * length (take (n + a - n) (drop n ns)) + length (take (from + b - from) (drop from v)) ≤ 4092
      the_counts_fit =
          let la : length (take (n + a - n) (drop n ns)) ≤ a = rw (add-sub_cancel_left n a) (few a (drop n ns)) in
          let lb : length (take (from + b - from) (drop from v)) ≤ b = rw (add-sub_cancel_left from b) (few b (drop from v)) in
          omega (arith, counts_fit (length ns - n) (length v - from) a b ea eb)

      pub one_more_page_is_chunked : (y : List ℕ) → y ≡ put x (4096 * i) (page_of (take (n + a - n) (drop n ns)) (take (from + b - from) (drop from v)))
          → Chunked t ns v d y (i + 1) (n + a) (from + b)
      one_more_page_is_chunked y e =
          let lp : length (page_of (take a (drop n ns)) (take b (drop from v))) ≡ 4096 =
          length_page (take a (drop n ns)) (take b (drop from v)) (rw (add-sub_cancel_left n a, add-sub_cancel_left from b) at the_counts_fit) in
          let ey : y ≡ put x (4096 * i) (page_of (take a (drop n ns)) (take b (drop from v))) = e ∙ rw (add-sub_cancel_left n a, add-sub_cancel_left from b) in
          let k : t - i ≡ suc (t - (i + 1)) = omega arith in
          let q = a_page_by_its_counts (t - (i + 1)) (drop n ns) (drop from v) a b (ea ∙ rw (length-drop n ns)) (eb ∙ rw (length-drop n ns, length-drop from v)) in
          record {
            within = omega arith;
            numbers = the_numbers_are_there;
            bytes = the_bytes_are_there;
            long = rw ey (length_put x (4096 * i) (page_of (take a (drop n ns)) (take b (drop from v))) (omega (arith, h.long))) ∙ h.long;
            same = h.same ∙ rw (k, q, drop-drop a n ns, drop-drop b from v)
                (sym (put_put x (4096 * i) (page_of (take a (drop n ns)) (take b (drop from v))) (4096 * (i + 1)) (joined (pages_of (t - (i + 1)) (drop (n + a) ns) (drop (from + b) v))) (omega arith) (omega (arith, h.long)))
                ∙ rw (← ey));
          }

-- ---- the call

the_first_fifteen : (n : ℕ) (hash ns : List ℕ) → cell_of n hash (take 15 ns) ≡ cell_of n hash ns
unfolding cell_of
the_first_fifteen n hash ns = rw (take-take 15 15 ns (omega arith))

-- the numbers beyond the cell's
others_are_a_part : (t f : ℕ) (ns : List ℕ) → t ≤ length ns → f ≡ min t 15 → take (t - f) (drop f ns) ≡ drop 15 (take t ns)
others_are_a_part t f ns h e = go (leb 15 t) refl
  where
    go : (b : Bool) → leb 15 t ≡ b → take (t - f) (drop f ns) ≡ drop 15 (take t ns)
    go true q =
        let l = leb-true 15 t q in
        let m : f ≡ 15 = omega arith in
        let k : 15 + (t - 15) ≡ t = omega arith in
        rw (m, take_drop 15 (t - 15) ns, k)
    go false q =
        let l = leb-false 15 t q in
        let m : t - f ≡ 0 = omega arith in
        rw m (sym (drop_of_length-le (take t ns) {i = 15} (simp length-take (omega arith))))

-- the cell's numbers
firsts_are_a_part : (t f : ℕ) (ns : List ℕ) → f ≡ min t 15 → take f ns ≡ take 15 (take t ns)
firsts_are_a_part t f ns e = go (leb 15 t) refl
  where
    go : (b : Bool) → leb 15 t ≡ b → take f ns ≡ take 15 (take t ns)
    go true q =
        let m : f ≡ 15 = omega (arith, leb-true 15 t q) in
        rw (m, take-take 15 t ns (leb-true 15 t q))
    go false q =
        let l = leb-false 15 t q in
        let m : f ≡ t = omega arith in
        rw m (sym (take_all 15 (take t ns) (simp length-take (omega arith))))

module _ (value hash numbers area : List ℕ) where
  module _ (r : Refusal) (e : number r ≡ split_verdict (length value) (length numbers) (length area)) where
    pub a_refused_reply : split_out (Err r) ≡ (split_of value hash numbers area).reply
    unfolding split_of
    a_refused_reply = rw (← e, not_accepted r)

    pub a_refused_area : area ≡ (split_of value hash numbers area).area
    unfolding split_of
    a_refused_area = rw (← e, not_accepted r)

  module _ (e : 0 ≡ split_verdict (length value) (length numbers) (length area)) (t f : ℕ) (et : t ≡ page_count (length value)) (ef : f ≡ min t 15) where
    lent : Lent (length value) (length numbers) (length area)
    lent = accepted_splittings (length value) (length numbers) (length area) (sym e)

    pub the_list_has_the_numbers : t ≤ length numbers
    the_list_has_the_numbers = rw et lent.listed

    pub the_first_numbers_are_there : f ≤ length numbers
    the_first_numbers_are_there = omega (arith, the_list_has_the_numbers)

    pub the_area_has_the_pages : 4096 * t ≤ length area
    the_area_has_the_pages = rw et lent.room

    pub a_written_area : (x : List ℕ) → x ≡ put area 0 (joined (pages_of t (take (t - f) (drop f numbers)) value)) → x ≡ (split_of value hash numbers area).area
    unfolding split_of split_pages
    a_written_area x q =
        q ∙ rw (others_are_a_part t f numbers the_list_has_the_numbers ef, et, ← e)

    pub a_written_reply : length hash ≡ 32 → (c : List ℕ) → c ≡ padded (cell_of (length value) hash (take f numbers))
        → record { refusal = 0; cell = c; cell_len = 40 + 4 * f; pages = t } ≡ (split_of value hash numbers area).reply
    unfolding split_of
    a_written_reply lh c q =
        let same : cell_of (length value) hash (take f numbers) ≡ cell_of (length value) hash (take t numbers) =
        rw (firsts_are_a_part t f numbers ef) (the_first_fifteen (length value) hash (take t numbers)) in
        let long : 40 + 4 * f ≡ length (cell_of (length value) hash (take t numbers)) =
        sym (length_cell (length value) hash (take t numbers) lh ∙ simp length-take (omega (arith, the_list_has_the_numbers))) in
        rw (q, same, long, et, ← e)
