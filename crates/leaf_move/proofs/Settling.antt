-- Bytes that are settled: what is in use is cleared, and the rest is zeros already. Where nothing is moved to the start, all is cleared.
-- Assumes nothing.
use mathlib.Core.Path.{◌≡◌, sym, ap, ◌∙◌}
use Prim.Native.Nat.{ℕ, ◌+◌, ◌-◌, ◌≤◌, ◌<◌, max}
use mathlib.Core.List.{List, ◌++◌}
use native.Mathlib.Omega.{arith}
use lib.ListN.{length, get_or, take, drop, replicate, length-take, length-drop, get_or-replicate, drop_of_length-le, replicate-append-replicate}
use lib.Seq.{ext_get_or, get_or-append-add, get_or-drop, get_or-take}
use Rattle.bit_ops.specs.Steps.{zeros}
use Rattle.leaf_node.specs.Build.{put}
use Rattle.leaf_node.proofs.Lengths.{length_zeros}
use Rattle.leaf_builder.proofs.Putting.{put_same, put_put, put_swap}
use Rattle.leaf_move.specs.Moving.{lowered, settled, Spare}
use Rattle.leaf_move.proofs.Lowering.{top_long, low_long, bytes_that_are_lowered_and_cleared_are_settled}

pub settling_none_clears_all : {A : Type 0} (z : A) (xs : List A) → settled z xs 0 ≡ replicate (length xs) z
unfolding settled
settling_none_clears_all z xs =
    let e : length xs - 0 ≡ length xs = omega arith in
    rw (e, drop_of_length-le xs {i = length xs} (omega arith))

-- nothing is asked of bytes that may all be in use
pub all_may_be_in_use : (d : List ℕ) → Spare d 0 (length d)
all_may_be_in_use d = record { few = omega arith; within = omega arith; zero = λ i h l. absurd (omega arith) }

zeros_join : (a b c : ℕ) → a ≤ b → b ≤ c → zeros (b - a) ++ zeros (c - b) ≡ zeros (c - a)
zeros_join a b c h k =
    let e : b - a + (c - b) ≡ c - a = omega arith in
    replicate-append-replicate (b - a) (c - b) 0 ∙ ap (λ (n : ℕ). replicate n 0) e

-- ---- what is cleared of bytes that are moved down

module _ (before : List ℕ) (count filled : ℕ) (s : Spare before count filled) (low : List ℕ) (e : low ≡ lowered before count) where
  long : length low ≡ length before
  long = low_long before count s.few low e

  as_before : (i : ℕ) → count ≤ i → get_or low i 0 ≡ get_or before i 0
  unfolding lowered
  as_before i h =
      let t = top_long before count s.few low e in
      let a : i ≡ length (drop (length before - count) before) + (i - count) = omega arith in
      let b : count + (i - count) ≡ i = omega arith in
      rw e (ap (λ (j : ℕ). get_or (drop (length before - count) before ++ drop count before) j 0) a
      ∙ get_or-append-add (drop (length before - count) before) (drop count before) (i - count) 0 ∙ get_or-drop count before (i - count) 0 ∙ ap (λ (j : ℕ). get_or before j 0) b)

  still_zeros : (a n : ℕ) → count ≤ a → filled ≤ a → a + n ≤ length before → (0 < n → a + n ≤ length before - count) → take n (drop a low) ≡ zeros n
  still_zeros a n h k r u = ext_get_or 0 (take n (drop a low)) (zeros n) (many ∙ sym (length_zeros n)) (λ i l. at i (omega (arith, many, l)))
    where
      many : length (take n (drop a low)) ≡ n
      many = simp (length-take, length-drop) (omega (arith, long))

      at : (i : ℕ) → i < n → get_or (take n (drop a low)) i 0 ≡ get_or (zeros n) i 0
      at i l =
          get_or-take n (drop a low) i 0 l ∙ get_or-drop a low i 0 ∙ as_before (a + i) (omega arith) ∙ s.zero (a + i) (omega arith) (omega (arith, u (omega arith))) ∙ sym (get_or-replicate n i 0 0 l)

  module _ (used top : ℕ) (eu : used ≡ max count filled) (et : top ≡ max used (length before - count)) where
    used_is : (count ≤ used) × (filled ≤ used) × (used ≤ length before)
    used_is = omega (arith, s.few, s.within)

    top_is : (used ≤ top) × (top ≤ length before)
    top_is = omega (arith, used_is)

    pub bytes_in_use_are_cleared : (x y : List ℕ) → x ≡ put low count (zeros (used - count)) → y ≡ put x top (zeros (length before - top)) → y ≡ settled 0 before count
    bytes_in_use_are_cleared x y ex ey =
        let u = used_is in
        let t = top_is in
        let l = long in
        let few : count ≤ length low = omega (arith, s.few) in
        let a : List ℕ = zeros (used - count) in
        let b : List ℕ = zeros (top - used) in
        let la : length a ≡ used - count = length_zeros (used - count) in
        let lb : length b ≡ top - used = length_zeros (top - used) in
        let same : put low used b ≡ low = put_same low used b (rw lb (still_zeros used (top - used) (omega arith) (omega arith) (omega arith) (λ h. omega arith))) in
        let swapped : put (put low used b) count a ≡ put (put low count a) used b = put_swap low count a used b (omega arith) (omega arith) in
        let behind : put (put low count a) used b ≡ put low count (a ++ b) = put_put low count a used b (omega arith) few in
        let ab : a ++ b ≡ zeros (top - count) = zeros_join count used top (omega arith) (omega arith) in
        let up-to-top : x ≡ put low count (zeros (top - count)) = ex ∙ ap (λ z. put z count a) (sym same) ∙ swapped ∙ behind ∙ ap (put low count) ab in
        let lt : length (zeros (top - count)) ≡ top - count = length_zeros (top - count) in
        let last : put (put low count (zeros (top - count))) top (zeros (length before - top)) ≡ put low count (zeros (top - count) ++ zeros (length before - top)) =
        put_put low count (zeros (top - count)) top (zeros (length before - top)) (omega arith) few in
        let all : zeros (top - count) ++ zeros (length before - top) ≡ zeros (length before - count) = zeros_join count top (length before) (omega arith) (omega arith) in
        bytes_that_are_lowered_and_cleared_are_settled before count s.few low e y
        (ey ∙ ap (λ z. put z top (zeros (length before - top))) up-to-top ∙ last ∙ ap (put low count) all)
