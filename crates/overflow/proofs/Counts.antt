-- The page count: the smallest that holds a value and its numbers, and what is known of it within the limit. Assumes nothing.
use mathlib.Core.Path.{◌≡◌, ◌∙◌, refl}
use mathlib.Core.Bool.{Bool, true, false, not, cond, ◌&&◌}
use Prim.Native.Nat.{ℕ, ◌+◌, ◌-◌, ◌*◌, ◌/◌, ◌≤◌, ◌<◌}
use native.Mathlib.Omega.{arith}
use lib.Dec.{leb, ltb}
use borrow.Author.Tests.{eqb-false, ltb-true, lt-ltb, leb-true, leb-false, le-leb, lt-leb, not-true, not-false}
use Rattle.std.specs.Prelude.{Result, Ok, Err, IfOk}
use Rattle.leaf_node.proofs.Rules.{both}
use Rattle.refusal.specs.declared.Refusal.{Refusal}
use Rattle.refusal.specs.Numbers.{number, number_of}
use Rattle.refusal.proofs.Numbers.{not_accepted}
use Rattle.overflow.specs.Count.{most_numbers, body_bytes, cell_numbers, most_value, size_right, Holds, page_count}
use Rattle.overflow.specs.Verdict.{count_verdict}
use Rattle.overflow.specs.Outcome.{count_of}
use Rattle.overflow.specs.Reply.{pages_out}
use Rattle.overflow.specs.declared.PageCount.{PageCount}
use Rattle.overflow.specs.declared.LeafPageCount.{LeafPageCount}

-- ---- "The page count is the smallest t for which t times 4,092 holds the value and 4 bytes for each page beyond the fifteenth."

module _ (n : ℕ) where
  pub the_count_holds : Holds (page_count n) n
  unfolding page_count
  the_count_holds = go (leb n 61380) refl
    where
      go : (b : Bool) → leb n 61380 ≡ b → Holds (cond b ((n + 4091) / 4092) ((n + 4027) / 4088)) n
      go true e = omega (arith, leb-true n 61380 e)
      go false e = omega (arith, leb-false n 61380 e)

  pub fewer_don't_hold : (t : ℕ) → Holds t n → page_count n ≤ t
  unfolding page_count
  fewer_don't_hold t h = go (leb n 61380) refl
    where
      go : (b : Bool) → leb n 61380 ≡ b → cond b ((n + 4091) / 4092) ((n + 4027) / 4088) ≤ t
      go true e = omega (arith, leb-true n 61380 e, h)
      go false e = omega (arith, leb-false n 61380 e, h)

-- ---- what `total_needed_pages` answers

pub counted_in_the_cell : (n : ℕ) → n ≤ 61380 → (n + 4091) / 4092 ≡ page_count n
unfolding page_count
counted_in_the_cell n h = rw (le-leb n 61380 h)

pub counted_beyond_the_cell : (n : ℕ) → 61380 < n → (n + 4027) / 4088 ≡ page_count n
unfolding page_count
counted_beyond_the_cell n h = rw (lt-leb n 61380 h)

-- ---- within the limit

pub record Sized (n : ℕ) : Type 0 where
  pub some : 0 < n
  pub most : n ≤ most_value

pub right_sizes : (n : ℕ) → size_right n ≡ true → Sized n
unfolding size_right
right_sizes n h = let p = both (ltb 0 n) (leb n most_value) h in record { some = ltb-true 0 n p.0; most = leb-true n most_value p.1 }

pub sizes_are_right : (n : ℕ) → 0 < n → n ≤ most_value → size_right n ≡ true
unfolding size_right
sizes_are_right n h k = rw (lt-ltb 0 n h, le-leb n most_value k)

pub size_is_tested : (n : ℕ) → (ltb 0 n && leb n 1048576) ≡ size_right n
unfolding size_right
size_is_tested n = refl

module _ (n : ℕ) (s : Sized n) where
  pub the_count_is_at_most_257 : page_count n ≤ 257
  the_count_is_at_most_257 = fewer_don't_hold n 257 (omega (arith, s.most))

  pub a_value_has_a_page : 1 ≤ page_count n
  a_value_has_a_page = go (page_count n) (the_count_holds n)
    where
      go : (t : ℕ) → Holds t n → 1 ≤ t
      go t h = omega (arith, h, s.some)

  -- the numbers beyond the fifteenth stand in the first page
  pub all_numbers_stand_in_the_first_page : page_count n - cell_numbers ≤ most_numbers
  all_numbers_stand_in_the_first_page = omega (arith, the_count_is_at_most_257)

  -- all pages but the last are full of numbers and bytes, and some bytes are left for the last
  pub the_last_page_has_bytes : (page_count n - 1) * body_bytes < n + 4 * (page_count n - cell_numbers)
  the_last_page_has_bytes = go (leb ((page_count n - 1) * body_bytes) (n + 4 * (page_count n - cell_numbers) - 1)) refl
    where
      go : (b : Bool) → leb ((page_count n - 1) * body_bytes) (n + 4 * (page_count n - cell_numbers) - 1) ≡ b → (page_count n - 1) * body_bytes < n + 4 * (page_count n - cell_numbers)
      go true e = omega (arith, leb-true ((page_count n - 1) * body_bytes) (n + 4 * (page_count n - cell_numbers) - 1) e, s.some)
      go false e =
          let h = leb-false ((page_count n - 1) * body_bytes) (n + 4 * (page_count n - cell_numbers) - 1) e in
          let f = fewer_don't_hold n (page_count n - 1) (omega (arith, h, s.some, a_value_has_a_page)) in
          absurd (omega (arith, f, a_value_has_a_page))

-- ---- the number of a size, and the page count call

module _ (n : ℕ) where
  pub accepted_sizes : 0 ≡ count_verdict n → size_right n ≡ true
  unfolding count_verdict
  accepted_sizes h = go (size_right n) refl
    where
      go : (b : Bool) → size_right n ≡ b → size_right n ≡ true
      go true e = e
      go false e = absurd (omega (arith, rw e at h))

  pub refused_sizes : (r : Refusal) → number r ≡ count_verdict n → size_right n ≡ false
  unfolding count_verdict
  refused_sizes r h = go (size_right n) refl
    where
      go : (b : Bool) → size_right n ≡ b → size_right n ≡ false
      go true e = absurd (eqb-false (number r) 0 (not_accepted r) (h ∙ rw e))
      go false e = e

  pub the_reply_of_a_count : (reply : Result PageCount Refusal) → number_of reply ≡ count_verdict n → IfOk reply (λ t. (t.0 ≡ page_count n) × (t.0 ≤ 257)) → (out : LeafPageCount)
      → out ≡ pages_out reply → out ≡ count_of n
  unfolding count_of
  the_reply_of_a_count (Ok t) h q out e = e ∙ rw (← h, q.0)
  the_reply_of_a_count (Err r) h q out e = e ∙ rw (← h, not_accepted r)

  module _ (b : Bool) (e : b ≡ size_right n) where
    pub a_wrong_size : not b ≡ true → 21 ≡ count_verdict n
    unfolding count_verdict
    a_wrong_size h = rw (← e, not-true b h)

    pub a_right_size : not b ≡ false → 0 ≡ count_verdict n
    unfolding count_verdict
    a_right_size h = rw (← e, not-false b h)

    pub a_size_is_small : not b ≡ false → n ≤ 1048576
    a_size_is_small h = (right_sizes n (rw (← e) (not-false b h))).most
