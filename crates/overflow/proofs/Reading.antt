-- Pages as they are read: what the check of a page and of all pages tells. Assumes nothing.
use mathlib.Core.Path.{◌≡◌, refl, sym, ap, ◌∙◌}
use mathlib.Core.Bool.{true, ◌&&◌}
use mathlib.Core.List.{List, [], ◌∷◌, ◌++◌, append-nil}
use Prim.Native.Nat.{ℕ, zero, suc, ◌+◌, ◌-◌, ◌*◌, ◌≤◌}
use native.Mathlib.Omega.{arith}
use lib.Dec.{eqb}
use lib.ListN.{length, take, drop}
use lib.Seq.{take-take}
use borrow.Author.Tests.{eqb-true}
use Rattle.leaf_node.proofs.Rules.{both}
use Rattle.leaf_builder.proofs.Putting.{take_drop}
use Rattle.overflow.specs.Count.{page_size, most_numbers}
use Rattle.overflow.specs.Read.{low_number, numbers_read, numbers_in, bytes_in, page_numbers, page_bytes, all_zero, numbers_here, bytes_here, page_right, pages_in, pages_right, joined_value, freed_numbers}

-- ---- clauses, for proofs that keep the definitions shut

pub next_number_read : (n : ℕ) (bs : List ℕ) → numbers_read (suc n) bs ≡ low_number (take 4 bs) ∷ numbers_read n (drop 4 bs)
unfolding numbers_read
next_number_read n bs = refl

pub no_number_read : (bs : List ℕ) → numbers_read 0 bs ≡ []
unfolding numbers_read
no_number_read bs = refl

pub next_page_in : (t : ℕ) (area : List ℕ) → pages_in (suc t) area ≡ take page_size area ∷ pages_in t (drop page_size area)
unfolding pages_in
next_page_in t area = refl

pub no_page_in : (area : List ℕ) → pages_in 0 area ≡ []
unfolding pages_in
no_page_in area = refl

pub next_page_right : (n b : ℕ) (p : List ℕ) (ps : List (List ℕ))
    → pages_right n b (p ∷ ps) ≡ (page_right (numbers_here n) (bytes_here n b) p && pages_right (n - numbers_here n) (b - bytes_here n b) ps)
unfolding pages_right
next_page_right n b p ps = refl

pub no_page_right : (n b : ℕ) → pages_right n b [] ≡ true
unfolding pages_right
no_page_right n b = refl

pub next_joined : (p : List ℕ) (ps : List (List ℕ)) → joined_value (p ∷ ps) ≡ page_bytes p ++ joined_value ps
unfolding joined_value
next_joined p ps = refl

pub none_joined : joined_value [] ≡ []
unfolding joined_value
none_joined = refl

pub next_freed : (p : List ℕ) (ps : List (List ℕ)) → freed_numbers (p ∷ ps) ≡ page_numbers p ++ freed_numbers ps
unfolding freed_numbers
next_freed p ps = refl

pub none_freed : freed_numbers [] ≡ []
unfolding freed_numbers
none_freed = refl

-- ---- parts

-- a part of a front is a part of the whole
pub part_of_a_front : {A : Type 0} (k n m : ℕ) (xs : List A) → k + n ≤ m → take n (drop k (take m xs)) ≡ take n (drop k xs)
part_of_a_front k n m xs h = rw (take_drop k n (take m xs), take-take (k + n) m xs h, take_drop k n xs)

pub length_numbers_read : (n : ℕ) (bs : List ℕ) → length (numbers_read n bs) ≡ n
unfolding numbers_read
length_numbers_read zero bs = refl
length_numbers_read (suc n) bs = ap suc (length_numbers_read n (drop 4 bs))

-- numbers are read of their own bytes alone
pub numbers_of_their_bytes : (n : ℕ) (bs : List ℕ) → numbers_read n (take (4 * n) bs) ≡ numbers_read n bs
numbers_of_their_bytes zero bs = no_number_read (take (4 * 0) bs) ∙ sym (no_number_read bs)
numbers_of_their_bytes (suc n) bs =
    let e : 4 * suc n ≡ 4 + 4 * n = omega arith in
    rw (
      next_number_read n (take (4 * suc n) bs),
      next_number_read n bs,
      e,
      take-take 4 (4 + 4 * n) bs (omega arith),
      ← (take_drop 4 (4 * n) bs),
      numbers_of_their_bytes n (drop 4 bs),
    )

pub numbers_of_a_front : (n k m : ℕ) (bs : List ℕ) → k + 4 * n ≤ m → numbers_read n (drop k (take m bs)) ≡ numbers_read n (drop k bs)
numbers_of_a_front n k m bs h =
    sym (numbers_of_their_bytes n (drop k (take m bs))) ∙ rw (part_of_a_front k (4 * n) m bs h) (numbers_of_their_bytes n (drop k bs))

-- ---- a page that passes

pub record RightPage (n b : ℕ) (p : List ℕ) : Type 0 where
  pub numbers : numbers_in p ≡ n
  pub bytes : bytes_in p ≡ b
  pub clear : all_zero (drop (4 + 4 * n + b) p) ≡ true

pub right_pages : (n b : ℕ) (p : List ℕ) → page_right n b p ≡ true → RightPage n b p
unfolding page_right
right_pages n b p h =
    let e = both (eqb (numbers_in p) n) (eqb (bytes_in p) b && all_zero (drop (4 + 4 * n + b) p)) h in
    let f = both (eqb (bytes_in p) b) (all_zero (drop (4 + 4 * n + b) p)) e.1 in
    record { numbers = eqb-true (numbers_in p) n e.0; bytes = eqb-true (bytes_in p) b f.0; clear = f.1 }

pub record RightPages (n b : ℕ) (p : List ℕ) (ps : List (List ℕ)) : Type 0 where
  pub first : RightPage (numbers_here n) (bytes_here n b) p
  pub others : pages_right (n - numbers_here n) (b - bytes_here n b) ps ≡ true

pub right_pages_in_turn : (n b : ℕ) (p : List ℕ) (ps : List (List ℕ)) → pages_right n b (p ∷ ps) ≡ true → RightPages n b p ps
right_pages_in_turn n b p ps h =
    let e = both (page_right (numbers_here n) (bytes_here n b) p) (pages_right (n - numbers_here n) (b - bytes_here n b) ps) (sym (next_page_right n b p ps) ∙ h) in
    record { first = right_pages (numbers_here n) (bytes_here n b) p e.0; others = e.1 }

-- its bytes, as a part of the area
pub bytes_of_a_page : (n b : ℕ) (area : List ℕ) → numbers_in (take 4096 area) ≡ n → bytes_in (take 4096 area) ≡ b → 4 + 4 * n + b ≤ 4096
    → page_bytes (take 4096 area) ≡ take b (drop (4 + 4 * n) area)
bytes_of_a_page n b area en eb h = rw (eb, en) (part_of_a_front (4 + 4 * n) b 4096 area h)

pub numbers_of_a_page : (n : ℕ) (area : List ℕ) → numbers_in (take 4096 area) ≡ n → 4 + 4 * n ≤ 4096 → page_numbers (take 4096 area) ≡ numbers_read n (drop 4 area)
numbers_of_a_page n area e h = rw e (numbers_of_a_front n 4 4096 area h)

-- ---- freeing: where no number is left, none is freed

none_left_none_freed : (b : ℕ) (ps : List (List ℕ)) → pages_right 0 b ps ≡ true → freed_numbers ps ≡ []
none_left_none_freed b [] h = none_freed
none_left_none_freed b (p ∷ ps) h =
    let r = right_pages_in_turn 0 b p ps h in
    let e : numbers_in p ≡ 0 = r.first.numbers in
    rw (next_freed p ps, e, no_number_read (drop 4 p)) (none_left_none_freed (b - bytes_here 0 b) ps r.others)

pub numbers_stand_in_the_first_page : (t n b : ℕ) (area : List ℕ) → 1 ≤ t → n ≤ most_numbers → pages_right n b (pages_in t area) ≡ true → freed_numbers (pages_in t area) ≡ numbers_read n (drop 4 area)
numbers_stand_in_the_first_page zero n b area l k h = absurd (omega arith)
numbers_stand_in_the_first_page (suc t) n b area l k h =
    let r = right_pages_in_turn n b (take 4096 area) (pages_in t (drop 4096 area)) (rw (next_page_in t area) at h) in
    let m : numbers_here n ≡ n = omega arith in
    let z : n - numbers_here n ≡ 0 = omega arith in
    let o : pages_right 0 (b - bytes_here n b) (pages_in t (drop 4096 area)) ≡ true = rw z at r.others in
    rw (
      next_page_in t area,
      next_freed (take 4096 area) (pages_in t (drop 4096 area)),
      numbers_of_a_page n area (r.first.numbers ∙ m) (omega arith),
      none_left_none_freed (b - bytes_here n b) (pages_in t (drop 4096 area)) o,
    ) (append-nil (numbers_read n (drop 4 area)))
