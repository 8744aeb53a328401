-- Numbers and pages written and read back, and read and written again. Assumes nothing.
use mathlib.Core.Path.{◌≡◌, refl, sym, ap, ◌∙◌}
use mathlib.Core.Bool.{true}
use mathlib.Core.List.{List, [], ◌∷◌, ◌++◌, append_assoc}
use Prim.Native.Nat.{ℕ, zero, suc, ◌+◌, ◌-◌, ◌*◌, ◌/◌, ◌%◌, ◌^◌, ◌≤◌, ◌<◌}
use native.Mathlib.Omega.{arith}
use native.Mathlib.Nat.{pow-suc}
use lib.Dec.{eqb}
use lib.ListN.{length, take, drop, length-take, length-drop, take-append-drop}
use lib.Seq.{length-take-le, take-append_seam, drop-append_seam, take_at, drop_at, drop-drop, get_or-drop}
use borrow.Author.Tests.{eqb-true, eq-eqb}
use Rattle.bit_ops.specs.Key.{Bytes}
use Rattle.bit_ops.specs.Steps.{zeros}
use Rattle.leaf_node.specs.Page.{word}
use Rattle.leaf_node.specs.Fits.{All, nil, cons}
use Rattle.leaf_node.proofs.Rules.{both}
use Rattle.overflow.specs.Count.{body_bytes}
use Rattle.overflow.specs.Written.{low_bytes, numbers_out, page_of}
use Rattle.overflow.specs.Read.{low_number, numbers_read, numbers_in, bytes_in, page_numbers, page_bytes, all_zero, page_right}
use Rattle.overflow.proofs.Numbers.{length_low, numbers_long}
use Rattle.overflow.proofs.Reading.{length_numbers_read, numbers_of_their_bytes, RightPage}
use Rattle.overflow_claim.specs.Written.{Number}

-- ---- a number: written, then read

pub low_back : (k n : ℕ) → n < 256 ^ k → low_number (low_bytes k n) ≡ n
unfolding low_bytes low_number
low_back zero n h = omega arith
low_back (suc k) n h =
    let g : n < 256 ^ k * 256 = rw (pow-suc 256 k) at h in
    omega (arith, low_back k (n / 256) (omega arith))

-- read, then written

pub low_again : (k : ℕ) (bs : List ℕ) → length bs ≡ k → Bytes bs → low_bytes k (low_number bs) ≡ bs
unfolding low_bytes low_number
low_again zero [] e b = refl
low_again zero (x ∷ bs) e b = absurd (omega arith)
low_again (suc k) [] e b = absurd (omega arith)
low_again (suc k) (x ∷ bs) e b =
    let l : x < 256 = b 0 in
    let m : (x + 256 * low_number bs) % 256 ≡ x = omega arith in
    let d : (x + 256 * low_number bs) / 256 ≡ low_number bs = omega arith in
    rw (m, d) (ap (λ (y : List ℕ). x ∷ y) (low_again k bs (omega arith) (λ i. b (suc i))))

-- ---- numbers

pub numbers_back : {ns : List ℕ} → All Number ns → (bs : List ℕ) → numbers_read (length ns) (numbers_out ns ++ bs) ≡ ns
unfolding numbers_out numbers_read
numbers_back nil bs = refl
numbers_back (cons {x = n} {xs = ns} h a) bs =
    let t : take 4 (low_bytes 4 n ++ (numbers_out ns ++ bs)) ≡ low_bytes 4 n = take_at (low_bytes 4 n) (numbers_out ns ++ bs) 4 (length_low 4 n) in
    let d : drop 4 (low_bytes 4 n ++ (numbers_out ns ++ bs)) ≡ numbers_out ns ++ bs = drop_at (low_bytes 4 n) (numbers_out ns ++ bs) 4 (length_low 4 n) in
    rw (append_assoc (low_bytes 4 n) (numbers_out ns) bs, t, d, low_back 4 n h) (ap (λ (x : List ℕ). n ∷ x) (numbers_back a bs))

pub bytes_taken : (k : ℕ) (bs : List ℕ) → Bytes bs → Bytes (take k bs)
bytes_taken zero bs b i = omega arith
bytes_taken (suc k) [] b i = omega arith
bytes_taken (suc k) (x ∷ bs) b zero = b 0
bytes_taken (suc k) (x ∷ bs) b (suc i) = bytes_taken k bs (λ j. b (suc j)) i

pub bytes_dropped : (k : ℕ) (bs : List ℕ) → Bytes bs → Bytes (drop k bs)
bytes_dropped k bs b i = rw (get_or-drop k bs i 0) (b (k + i))

pub numbers_again : (n : ℕ) (bs : List ℕ) → length bs ≡ 4 * n → Bytes bs → numbers_out (numbers_read n bs) ≡ bs
unfolding numbers_out numbers_read
numbers_again zero [] e b = refl
numbers_again zero (x ∷ bs) e b = absurd (omega arith)
numbers_again (suc n) bs e b =
    let l : length (take 4 bs) ≡ 4 = length-take-le 4 bs (omega arith) in
    let d : length (drop 4 bs) ≡ 4 * n = simp length-drop (omega arith) in
    rw (low_again 4 (take 4 bs) l (bytes_taken 4 bs b), numbers_again n (drop 4 bs) d (bytes_dropped 4 bs b)) (take-append-drop 4 bs)

low_small : (k : ℕ) (bs : List ℕ) → length bs ≤ k → Bytes bs → low_number bs < 256 ^ k
unfolding low_number
low_small zero [] h b = omega arith
low_small zero (x ∷ bs) h b = absurd (omega arith)
low_small (suc k) [] h b = rw (pow-suc 256 k) (omega (arith, low_small k [] (omega arith) b))
low_small (suc k) (x ∷ bs) h b =
    let l : x < 256 = b 0 in
    rw (pow-suc 256 k) (omega (arith, low_small k bs (omega arith) (λ i. b (suc i))))

pub numbers_are_small : (n : ℕ) (bs : List ℕ) → Bytes bs → All Number (numbers_read n bs)
unfolding numbers_read
numbers_are_small zero bs b = nil
numbers_are_small (suc n) bs b =
    cons (low_small 4 (take 4 bs) (simp length-take (omega arith)) (bytes_taken 4 bs b)) (numbers_are_small n (drop 4 bs) (bytes_dropped 4 bs b))

-- ---- zeros

zeros_pass : (n : ℕ) → all_zero (zeros n) ≡ true
unfolding all_zero
zeros_pass zero = refl
zeros_pass (suc n) = zeros_pass n

what_passes_is_zeros : (bs : List ℕ) → all_zero bs ≡ true → bs ≡ zeros (length bs)
unfolding all_zero
what_passes_is_zeros [] h = refl
what_passes_is_zeros (x ∷ bs) h =
    let p = both (eqb x 0) (all_zero bs) h in
    rw (eqb-true x 0 p.0) (ap (λ (y : List ℕ). 0 ∷ y) (what_passes_is_zeros bs p.1))

-- ---- a page: written, then read

two_back : (w : ℕ) (bs : List ℕ) → w < 65536 → word (low_bytes 2 w ++ bs) 0 ≡ w
unfolding word low_bytes
two_back w bs h = omega arith

module _ (ns bs : List ℕ) (h : 4 * length ns + length bs ≤ body_bytes) where
  abbrev rest : List ℕ
  rest = zeros (body_bytes - (4 * length ns + length bs))

  pub says_numbers : numbers_in (page_of ns bs) ≡ length ns
  unfolding page_of
  says_numbers = two_back (length ns) (low_bytes 2 (length bs) ++ (numbers_out ns ++ (bs ++ rest))) (omega arith)

  pub says_bytes : bytes_in (page_of ns bs) ≡ length bs
  unfolding page_of word low_bytes
  says_bytes = omega arith

  behind_head : drop 4 (page_of ns bs) ≡ numbers_out ns ++ (bs ++ rest)
  unfolding page_of low_bytes
  behind_head = refl

  behind_numbers : drop (4 + 4 * length ns) (page_of ns bs) ≡ bs ++ rest
  behind_numbers =
      sym (drop-drop (4 * length ns) 4 (page_of ns bs))
      ∙ rw behind_head (drop_at (numbers_out ns) (bs ++ rest) (4 * length ns) (numbers_long ns))

  behind_bytes : drop (4 + 4 * length ns + length bs) (page_of ns bs) ≡ rest
  behind_bytes =
      sym (drop-drop (length bs) (4 + 4 * length ns) (page_of ns bs))
      ∙ rw behind_numbers (drop-append_seam bs rest)

  pub bytes_back : page_bytes (page_of ns bs) ≡ bs
  bytes_back = rw (says_numbers, says_bytes, behind_numbers) (take-append_seam bs rest)

  pub numbers_of_page : All Number ns → page_numbers (page_of ns bs) ≡ ns
  numbers_of_page a = rw (says_numbers, behind_head) (numbers_back a (bs ++ rest))

  pub a_written_page_is_right : page_right (length ns) (length bs) (page_of ns bs) ≡ true
  unfolding page_right
  a_written_page_is_right =
      rw (
        eq-eqb (numbers_in (page_of ns bs)) (length ns) says_numbers,
        eq-eqb (bytes_in (page_of ns bs)) (length bs) says_bytes,
        behind_bytes,
      ) (zeros_pass (body_bytes - (4 * length ns + length bs)))

-- ---- a page: read, then written

two : (p : List ℕ) → 2 ≤ length p → Bytes p → low_bytes 2 (word p 0) ≡ take 2 p
unfolding low_bytes word
two [] h b = absurd (omega arith)
two (x ∷ []) h b = absurd (omega arith)
two (x ∷ y ∷ p) h b =
    let l : x < 256 = b 0 in
    let m : y < 256 = b 1 in
    let e : (x + 256 * y) % 256 ≡ x = omega arith in
    let d : (x + 256 * y) / 256 ≡ y = omega arith in
    let f : y % 256 ≡ y = omega arith in
    rw (e, d, f)

word_behind : (p : List ℕ) → word (drop 2 p) 0 ≡ word p 2
unfolding word
word_behind p = rw (get_or-drop 2 p 0 0, get_or-drop 2 p 1 0)

module _ (n b : ℕ) (p : List ℕ) (l : length p ≡ 4096) (h : 4 * n + b ≤ body_bytes) (bytes : Bytes p) (r : RightPage n b p) where
  cut : (k m : ℕ) → drop k p ≡ take m (drop k p) ++ drop (k + m) p
  cut k m = sym (rw (← (drop-drop m k p)) (take-append-drop m (drop k p)))

  pub numbers_length : length (page_numbers p) ≡ n
  numbers_length = length_numbers_read (numbers_in p) (drop 4 p) ∙ r.numbers

  pub bytes_length : length (page_bytes p) ≡ b
  bytes_length = rw (r.bytes, r.numbers) (length-take-le b (drop (4 + 4 * n) p) (simp length-drop (omega arith)))

  pub a_right_page_is_written : page_of (page_numbers p) (page_bytes p) ≡ p
  unfolding page_of
  a_right_page_is_written =
      let x : low_bytes 2 n ≡ take 2 p = rw (← r.numbers) (two p (omega arith) bytes) in
      let y : low_bytes 2 b ≡ take 2 (drop 2 p) = rw (← r.bytes, ← (word_behind p)) (two (drop 2 p) (simp length-drop (omega arith)) (bytes_dropped 2 p bytes)) in
      let ns : numbers_out (numbers_read n (drop 4 p)) ≡ take (4 * n) (drop 4 p) = numbers_here_lem in
      let z : drop (4 + 4 * n + b) p ≡ zeros (body_bytes - (4 * n + b)) =
      what_passes_is_zeros (drop (4 + 4 * n + b) p) r.clear ∙ ap zeros {x = length (drop (4 + 4 * n + b) p)} {y = body_bytes - (4 * n + b)} (simp length-drop (omega arith)) in
      rw (numbers_length, bytes_length, r.bytes, r.numbers, x, y, ns, ← z)
      (sym (sym (take-append-drop 2 p) ∙ ap (λ (q : List ℕ). take 2 p ++ q) (cut 2 2 ∙ ap (λ (q : List ℕ). take 2 (drop 2 p) ++ q) (cut 4 (4 * n) ∙ ap (λ (q : List ℕ). take (4 * n) (drop 4 p) ++ q) (cut (4 + 4 * n) b)))))
    where
      numbers_here_lem : numbers_out (numbers_read n (drop 4 p)) ≡ take (4 * n) (drop 4 p)
      numbers_here_lem =
          let q : List ℕ = take (4 * n) (drop 4 p) in
          let lq : length (take (4 * n) (drop 4 p)) ≡ 4 * n = length-take-le (4 * n) (drop 4 p) (simp length-drop (omega arith)) in
          rw (← (numbers_of_their_bytes n (drop 4 p))) (numbers_again n (take (4 * n) (drop 4 p)) lq (bytes_taken (4 * n) (drop 4 p) (bytes_dropped 4 p bytes)))
