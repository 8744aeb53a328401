-- Joining and freeing: what the loops write, and the calls. Assumes nothing.
use mathlib.Core.Path.{◌≡◌, refl, sym, ◌∙◌}
use mathlib.Core.Bool.{Bool, true}
use mathlib.Core.List.{List, ◌++◌}
use Prim.Native.Nat.{ℕ, suc, ◌+◌, ◌-◌, ◌*◌, ◌≤◌, ◌<◌, min}
use native.Mathlib.Nat.{add-zero, add-sub_cancel_left, sub-zero}
use native.Mathlib.Omega.{arith}
use lib.Dec.{leb}
use lib.ListN.{length, take, drop, set, length-set, length-take, length-drop}
use lib.Seq.{drop-drop}
use borrow.Author.Tests.{leb-true}
use Rattle.std.specs.Prelude.{Result, Ok, Err, IfOk}
use Rattle.refusal.specs.declared.Refusal.{Refusal}
use Rattle.refusal.specs.Numbers.{number, number_of}
use Rattle.refusal.proofs.Numbers.{not_accepted}
use Rattle.leaf_node.specs.Build.{put}
use Rattle.leaf_builder.proofs.Putting.{put_none, put_put, length_put}
use Rattle.overflow.specs.Read.{low_number, numbers_read, cell_size, cell_count, cell_numbers_read, pages_in, pages_right, page_bytes, joined_value, freed_numbers}
use Rattle.overflow.specs.Verdict.{all_right, read_verdict, join_verdict, free_verdict}
use Rattle.overflow.specs.Outcome.{join_of, free_of}
use Rattle.overflow.specs.Reply.{joined_out, freed_out}
use Rattle.overflow.specs.declared.LeafJoined.{LeafJoined}
use Rattle.overflow.specs.declared.LeafFreed.{LeafFreed}
use Rattle.overflow.specs.Steps.{RightCell, WrongCell}
use Rattle.overflow.proofs.Counts.{Sized, a_value_has_a_page, all_numbers_stand_in_the_first_page}
use Rattle.overflow.proofs.Numbers.{put_next}
use Rattle.overflow.proofs.Verdicts.{Readable, accepted_readings}
use Rattle.overflow.proofs.Reading.{next_number_read, no_number_read, next_page_in, no_page_in, RightPages, right_pages_in_turn, next_joined, none_joined, bytes_of_a_page, length_numbers_read, numbers_stand_in_the_first_page}
use Rattle.overflow_read.specs.Steps.{Checked, decoded_verdict}
use Rattle.overflow_read.proofs.Checking.{counts_fit, the_number_of_a_wrong_cell, the_number_of_a_reading}

-- ---- the bytes of all pages

-- the bytes of the pages before page i are written; numbers n and bytes b are left
pub record Joined (pages : List ℕ) (t size : ℕ) (v x : List ℕ) (i n b from : ℕ) : Type 0 where
  pub within : i ≤ t
  pub long : length x ≡ length v
  pub sum : from + b ≡ size
  pub right : pages_right n b (pages_in (t - i) (drop (4096 * i) pages)) ≡ true
  pub same : put v 0 (joined_value (pages_in t pages)) ≡ put x from (joined_value (pages_in (t - i) (drop (4096 * i) pages)))

module _ (pages : List ℕ) (t size : ℕ) (v : List ℕ) where
  pub no_page_is_joined : (n : ℕ) → n ≡ t - 15 → Checked pages t size → Joined pages t size v v 0 n size 0
  no_page_is_joined n e k = record { within = omega arith; long = refl; sum = omega arith; right = rw (e, sub-zero t) k.right; same = rw (sub-zero t) }

  module _ (x : List ℕ) (i n b from : ℕ) (h : Joined pages t size v x i n b from) where
    pub all_pages_are_joined : t ≤ i → x ≡ put v 0 (joined_value (pages_in t pages))
    all_pages_are_joined l =
        let e : t - i ≡ 0 = omega arith in
        sym (h.same ∙ rw (e, no_page_in (drop (4096 * i) pages), none_joined) (put_none x from))

    module _ (l : i < t) (c : Checked pages t size) (f : size ≤ length v) (p q : ℕ) (ep : p ≡ min 1023 n) (eq : q ≡ min (4092 - 4 * min 1023 n) b) where
      pub the_bytes_lie_in_the_area : 4096 * i + 4 + 4 * p + q ≤ length pages
      the_bytes_lie_in_the_area = omega (arith, counts_fit n b p q ep eq, c.there)

      pub the_bytes_have_room : from + length (take (4096 * i + 4 + 4 * p + q - (4096 * i + 4 + 4 * p)) (drop (4096 * i + 4 + 4 * p) pages)) ≤ length x
      the_bytes_have_room =
          let s : length (take q (drop (4096 * i + 4 + 4 * p) pages)) ≤ q = simp length-take (omega arith) in
          let m : q ≤ b = omega arith in
          rw (add-sub_cancel_left (4096 * i + 4 + 4 * p) q) (omega (arith, h.sum, h.long))

      turn : RightPages n b (take 4096 (drop (4096 * i) pages)) (pages_in (t - (i + 1)) (drop 4096 (drop (4096 * i) pages)))
      turn =
          let k : t - i ≡ suc (t - (i + 1)) = omega arith in
          right_pages_in_turn n b (take 4096 (drop (4096 * i) pages)) (pages_in (t - (i + 1)) (drop 4096 (drop (4096 * i) pages)))
          (rw (k, next_page_in (t - (i + 1)) (drop (4096 * i) pages)) at h.right)

      bytes_here_lem : page_bytes (take 4096 (drop (4096 * i) pages)) ≡ take q (drop (4096 * i + 4 + 4 * p) pages)
      bytes_here_lem =
          let a : 4096 * i + (4 + 4 * p) ≡ 4096 * i + 4 + 4 * p = omega arith in
          bytes_of_a_page p q (drop (4096 * i) pages) (turn.first.numbers ∙ sym ep) (turn.first.bytes ∙ sym eq) (omega (arith, counts_fit n b p q ep eq))
          ∙ rw (drop-drop (4 + 4 * p) (4096 * i) pages, a)

      pub one_more_page_is_joined : (y : List ℕ) → y ≡ put x from (take (4096 * i + 4 + 4 * p + q - (4096 * i + 4 + 4 * p)) (drop (4096 * i + 4 + 4 * p) pages))
          → Joined pages t size v y (i + 1) (n - p) (b - q) (from + q)
      one_more_page_is_joined y e =
          let here : List ℕ = take q (drop (4096 * i + 4 + 4 * p) pages) in
          let ey : y ≡ put x from (take q (drop (4096 * i + 4 + 4 * p) pages)) = e ∙ rw (add-sub_cancel_left (4096 * i + 4 + 4 * p) q) in
          let lh : length (take q (drop (4096 * i + 4 + 4 * p) pages)) ≡ q = simp (length-take, length-drop) (omega (arith, the_bytes_lie_in_the_area)) in
          let k : t - i ≡ suc (t - (i + 1)) = omega arith in
          let a : 4096 * i + 4096 ≡ 4096 * (i + 1) = omega arith in
          let m : q ≤ b = omega arith in
          record {
            within = omega arith;
            long = rw ey (length_put x from (take q (drop (4096 * i + 4 + 4 * p) pages)) (omega (arith, h.sum, h.long))) ∙ h.long;
            sum = omega (arith, h.sum);
            right = rw (← a, ← (drop-drop 4096 (4096 * i) pages), ep, eq) turn.others;
            same = h.same
                ∙ rw (
                  k,
                  next_page_in (t - (i + 1)) (drop (4096 * i) pages),
                  next_joined (take 4096 (drop (4096 * i) pages)) (pages_in (t - (i + 1)) (drop 4096 (drop (4096 * i) pages))),
                  bytes_here_lem,
                  drop-drop 4096 (4096 * i) pages,
                  a,
                  ey,
                )
                (sym (put_put x from (take q (drop (4096 * i + 4 + 4 * p) pages)) (from + q) (joined_value (pages_in (t - (i + 1)) (drop (4096 * (i + 1)) pages))) (omega arith) (omega (arith, h.sum, h.long))));
          }

-- ---- numbers

-- the numbers before j are listed
pub record Taken (bs : List ℕ) (from count at : ℕ) (d x : List ℕ) (j : ℕ) : Type 0 where
  pub within : j ≤ count
  pub long : length x ≡ length d
  pub same : put d at (numbers_read count (drop from bs)) ≡ put x (at + j) (numbers_read (count - j) (drop (from + 4 * j) bs))

module _ (bs : List ℕ) (from count at : ℕ) (d : List ℕ) where
  pub no_number_is_taken : Taken bs from count at d d 0
  no_number_is_taken = record { within = omega arith; long = refl; same = rw (add-zero at, add-zero from, sub-zero count) }

  module _ (x : List ℕ) (j : ℕ) (h : Taken bs from count at d x j) where
    pub all_numbers_are_taken : count ≤ j → x ≡ put d at (numbers_read count (drop from bs))
    all_numbers_are_taken l =
        let e : count - j ≡ 0 = omega arith in
        sym (h.same ∙ rw (e, no_number_read (drop (from + 4 * j) bs)) (put_none x (at + j)))

    pub one_more_number_is_taken : j < count → at + count ≤ length d → (n : ℕ) → n ≡ low_number (take 4 (drop (from + 4 * j) bs)) → Taken bs from count at d (set x (at + j) n) (j + 1)
    one_more_number_is_taken l r n e =
        let k : count - j ≡ suc (count - (j + 1)) = omega arith in
        let a : from + 4 * j + 4 ≡ from + 4 * (j + 1) = omega arith in
        let b : at + j + 1 ≡ at + (j + 1) = omega arith in
        record {
          within = omega arith;
          long = length-set x (at + j) n ∙ h.long;
          same = h.same
              ∙ rw (
                k,
                next_number_read (count - (j + 1)) (drop (from + 4 * j) bs),
                drop-drop 4 (from + 4 * j) bs,
                a,
                e,
                put_next x (at + j) (low_number (take 4 (drop (from + 4 * j) bs))) (numbers_read (count - (j + 1)) (drop (from + 4 * (j + 1)) bs)) (omega (arith, h.long)),
                b,
              );
        }

-- ---- a cell's numbers and those of its pages

module _ (c pages : List ℕ) (t size : ℕ) (r : RightCell c size t) where
  sized : Sized (cell_size c)
  sized = record { some = rw (← r.sized) r.some; most = rw (← r.sized) r.most }

  few : t - 15 ≤ 1023
  few = rw r.counted (all_numbers_stand_in_the_first_page (cell_size c) sized)

  one : 1 ≤ t
  one = rw r.counted (a_value_has_a_page (cell_size c) sized)

  module _ (k : Checked pages t size) where
    pub the_pages_have_their_numbers : (n : ℕ) → n ≡ t - 15 → 4 + 4 * n ≤ length pages
    the_pages_have_their_numbers n e = omega (arith, few, one, k.there)

    pub all_numbers_are_freed : (d x y : List ℕ) (f n : ℕ) → f ≡ min t 15 → n ≡ t - 15 → x ≡ put d 0 (numbers_read f (drop 40 c)) → y ≡ put x f (numbers_read n (drop 4 pages))
        → y ≡ put d 0 (cell_numbers_read c ++ freed_numbers (pages_in t pages))
    unfolding cell_numbers_read
    all_numbers_are_freed d x y f n ef en ex ey =
        let a : freed_numbers (pages_in t pages) ≡ numbers_read n (drop 4 pages) = rw en (numbers_stand_in_the_first_page t (t - 15) size pages one few k.right) in
        let b : numbers_read (min (cell_count c) 15) (drop 40 c) ≡ numbers_read f (drop 40 c) = rw (ef, r.counted) in
        ey ∙ rw (ex, a, b) (put_put d 0 (numbers_read f (drop 40 c)) f (numbers_read n (drop 4 pages)) (omega (arith, length_numbers_read f (drop 40 c))) (omega arith))

-- ---- the calls

module _ (c pages : List ℕ) (r : Refusal) (w : WrongCell c r) where
  pub a_wrong_cell_joins_nothing : (value : List ℕ) → value ≡ (join_of c pages value).value
  unfolding join_of
  a_wrong_cell_joins_nothing value = rw (← (the_number_of_a_wrong_cell c r w pages (leb (cell_size c) (length value))), not_accepted r)

  pub a_wrong_cell_frees_nothing : (numbers : List ℕ) → numbers ≡ (free_of c pages numbers).numbers
  unfolding free_of
  a_wrong_cell_frees_nothing numbers = rw (← (the_number_of_a_wrong_cell c r w pages (leb (cell_count c) (length numbers))), not_accepted r)

module _ (c pages : List ℕ) (size t : ℕ) (g : RightCell c size t) where
  checked : (fits : Bool) → 0 ≡ decoded_verdict size t pages fits → (fits ≡ true) × Checked pages t size
  unfolding decoded_verdict all_right
  checked fits z =
      let a : Readable c pages fits = accepted_readings c pages fits (sym (z ∙ the_number_of_a_reading c size t pages fits fits g refl)) in
      (a.fitting, record { there = rw g.counted a.there; right = rw (g.counted, g.sized) a.written })

  module _ (value : List ℕ) where
    pub the_number_of_a_join : (n : ℕ) → n ≡ decoded_verdict size t pages (leb size (length value)) → n ≡ read_verdict c pages (leb (cell_size c) (length value))
    the_number_of_a_join n e = e ∙ the_number_of_a_reading c size t pages (leb size (length value)) (leb (cell_size c) (length value)) g (rw g.sized)

    pub a_refused_value : (r : Refusal) → number r ≡ decoded_verdict size t pages (leb size (length value)) → value ≡ (join_of c pages value).value
    unfolding join_of
    a_refused_value r e = rw (← (the_number_of_a_join (number r) e), not_accepted r)

    module _ (e : 0 ≡ decoded_verdict size t pages (leb size (length value))) where
      pub pages_to_join : Checked pages t size
      pages_to_join = (checked (leb size (length value)) e).1

      pub the_buffer_is_long : size ≤ length value
      the_buffer_is_long = leb-true size (length value) (checked (leb size (length value)) e).0

      pub a_joined_value : (x : List ℕ) → x ≡ put value 0 (joined_value (pages_in t pages)) → x ≡ (join_of c pages value).value
      unfolding join_of
      a_joined_value x q = q ∙ rw (← (the_number_of_a_join 0 e), g.counted)

  module _ (numbers : List ℕ) where
    pub the_number_of_a_free : (n : ℕ) → n ≡ decoded_verdict size t pages (leb t (length numbers)) → n ≡ read_verdict c pages (leb (cell_count c) (length numbers))
    the_number_of_a_free n e = e ∙ the_number_of_a_reading c size t pages (leb t (length numbers)) (leb (cell_count c) (length numbers)) g (rw g.counted)

    pub a_refused_list : (r : Refusal) → number r ≡ decoded_verdict size t pages (leb t (length numbers)) → numbers ≡ (free_of c pages numbers).numbers
    unfolding free_of
    a_refused_list r e = rw (← (the_number_of_a_free (number r) e), not_accepted r)

    module _ (e : 0 ≡ decoded_verdict size t pages (leb t (length numbers))) where
      pub pages_to_free : Checked pages t size
      pages_to_free = (checked (leb t (length numbers)) e).1

      pub the_list_is_long : t ≤ length numbers
      the_list_is_long = leb-true t (length numbers) (checked (leb t (length numbers)) e).0

      pub a_freed_list : (x : List ℕ) → x ≡ put numbers 0 (cell_numbers_read c ++ freed_numbers (pages_in t pages)) → x ≡ (free_of c pages numbers).numbers
      unfolding free_of
      a_freed_list x q = q ∙ rw (← (the_number_of_a_free 0 e), g.counted)

-- ---- the replies

module _ (c pages value : List ℕ) where
  pub the_reply_of_a_join : (reply : Result ℕ Refusal) → number_of reply ≡ join_verdict c pages (length value) → IfOk reply (λ len. len ≡ cell_size c) → (out : LeafJoined)
      → out ≡ joined_out reply → out ≡ (join_of c pages value).reply
  unfolding join_of
  the_reply_of_a_join (Ok len) e q out h = h ∙ rw (← e, q)
  the_reply_of_a_join (Err r) e q out h = h ∙ rw (← e, not_accepted r)

module _ (c pages numbers : List ℕ) where
  pub the_reply_of_a_free : (reply : Result ℕ Refusal) → number_of reply ≡ free_verdict c pages (length numbers) → IfOk reply (λ count. count ≡ cell_count c) → (out : LeafFreed)
      → out ≡ freed_out reply → out ≡ (free_of c pages numbers).reply
  unfolding free_of
  the_reply_of_a_free (Ok t) e q out h = h ∙ rw (← e, q)
  the_reply_of_a_free (Err r) e q out h = h ∙ rw (← e, not_accepted r)
