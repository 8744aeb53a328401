-- What the functions that read a page find, and what a good page gives them. Assumes nothing.
use Prim.Native.Nat.{ℕ, ◌+◌, ◌-◌, ◌≤◌, ◌<◌}
use mathlib.Core.Path.{◌≡◌, refl, sym, ◌∙◌}
use mathlib.Core.List.{List, []}
use native.Mathlib.Nat.{sub_self, add-zero}
use native.Mathlib.Omega.{arith}
use native.Mathlib.Decide.{dec_lt}
use lib.Dec.{leb}
use lib.ListN.{length, get_or, take, drop}
use lib.Seq.{get_or-take, get_or-drop}
use Rattle.std.specs.Int.{w16, from_le_bytes}
use borrow.Author.Tests.{lt-ltb, le-ltb}
use Rattle.leaf_node.specs.Limits.{PageSize, body_limit, record_limit}
use Rattle.leaf_node.specs.Record.{total}
use Rattle.leaf_node.specs.Page.{word, count, pointer, number_at, offset_at, flag_at, start, length_at, values_size, records_between, run}
use Rattle.leaf_node.specs.Good.{KeysRise, Good, page_verdict}
use Rattle.leaf_node.specs.Cell.{cell_at}
use Rattle.leaf_node.specs.Steps.{Laid, Sorted, Counted}
use Rattle.leaf_node.specs.declared.Cell.{Cell}
use Rattle.leaf_node.proofs.Verdicts.{accepted_pages_are_the_good_ones}

-- ---- parts of a page

-- the library's number of two bytes, the first one the lowest
pub word_is : (p : List ℕ) (at : ℕ) (b : List ℕ) (w : ℕ) → b ≡ take 2 (drop at p) → w ≡ from_le_bytes w16 b → w ≡ word p at
unfolding word
word_is p at b w e q =
    let x : get_or b 0 0 ≡ get_or p at 0 = rw (e, get_or-take 2 (drop at p) 0 0 (omega arith), get_or-drop at p 0 0, add-zero) refl in
    let y : get_or b 1 0 ≡ get_or p (at + 1) 0 = rw (e, get_or-take 2 (drop at p) 1 0 (omega arith), get_or-drop at p 1 0) refl in
    rw (q, x, y) (omega arith)

pub start_in : (p : List ℕ) (n i r : ℕ) → n ≡ count p → i < n → r ≡ offset_at p i → r ≡ start p i
unfolding start
start_in p n i r e h q = simp (lt-ltb i (count p) (omega arith), q)

pub start_end : (p : List ℕ) (n i : ℕ) → n ≡ count p → n ≤ i → length p ≡ start p i
unfolding start
start_end p n i e h = simp (le-ltb i (count p) (omega arith))

pub cell_is : (p : List ℕ) (i a b w : ℕ) → a ≡ start p i → b ≡ start p (i + 1) → w ≡ number_at p i
    → ◌≡◌ {A = Cell} (record { offset = a; len = b - a; flag = leb 32768 w }) (cell_at p i)
unfolding cell_at length_at flag_at
cell_is p i a b w q r s = rw (q, r, s)

pub flag_is : (p : List ℕ) (i w : ℕ) → w ≡ number_at p i → leb 32768 w ≡ flag_at p i
unfolding flag_at
flag_is p i w s = rw s

-- ---- good pages

module _ (size : ℕ) (p : List ℕ) (s : PageSize size) (g : Good size p) where
  pub pointers_inside : pointer (count p) ≤ length p
  unfolding record_limit body_limit
  pointers_inside = omega (arith, s.least, g.sized, g.few)

  pub starts_in_order : (i : ℕ) → i < count p → start p i ≤ start p (i + 1)
  starts_in_order i l =
      let a = start_in p (count p) i (offset_at p i) refl l refl in
      elim (dec_lt (i + 1) (count p)) [
        | yes k ↦ let b = start_in p (count p) (i + 1) (offset_at p (i + 1)) refl k refl in omega (arith, g.offsets.never_fall i k)
        | no k ↦ let b : length p ≡ start p (i + 1) = start_end p (count p) (i + 1) refl (omega arith) in omega (arith, g.offsets.none_passes i l)
      ]

  pub pointers_end_before_values : pointer (count p) ≤ start p 0
  pointers_end_before_values = elim (dec_lt 0 (count p)) [
    | yes k ↦ let b = start_in p (count p) 0 (offset_at p 0) refl k refl in omega (arith, g.offsets.first k)
    | no k ↦ let b : length p ≡ start p 0 = start_end p (count p) 0 refl (omega arith) in omega (arith, pointers_inside)
  ]

  pub good_pages_are_laid : Laid p (count p)
  good_pages_are_laid = record { counted = refl; inside = pointers_inside; steps = starts_in_order }

  pub good_pages_rise : Sorted p (count p)
  good_pages_rise = record { counted = refl; inside = pointers_inside; rise = g.keys }

-- ---- a page that was checked

module _ (size : ℕ) (p : List ℕ) (v : ℕ) (e : v ≡ page_verdict size p) (z : v ≡ 0) (s : PageSize size) where
  checked : Good size p
  checked = (accepted_pages_are_the_good_ones size p).0 (sym e ∙ z)

  pub checked_long : 2 ≤ length p
  checked_long = omega (arith, checked.sized, s.least)

  pub checked_laid : (n : ℕ) → n ≡ count p → Laid p n
  checked_laid n q = rw q (good_pages_are_laid size p s checked)

  pub checked_rising : (n : ℕ) → n ≡ count p → Sorted p n
  checked_rising n q = rw q (good_pages_rise size p s checked)

  pub checked_keys : (n : ℕ) → 0 < n → KeysRise p
  checked_keys n h = checked.keys

  pub checked_counted : (n : ℕ) → n ≡ count p → Counted p n
  checked_counted n q = record { counted = q; laid = λ h. checked_laid n q; short = omega (arith, checked.sized, s.most) }

-- ---- a page with its records

pub nothing_between : (p : List ℕ) (from to : ℕ) → from ≡ to → 0 ≡ values_size p from to
unfolding values_size records_between run total
nothing_between p from to e = rw (e, sub_self) refl

pub nothing_counted : record { counted : Counted [] 0 }
unfolding count word
nothing_counted = record { counted = record { counted = refl; laid = λ h. absurd (omega arith); short = omega arith } }
