-- Bytes past a record's end are zero; how a count and a place go on. Assumes nothing.
use mathlib.Core.Path.{◌≡◌, sym}
use mathlib.Core.Bool.{Bool, true, false, not, cond}
use mathlib.Core.List.{List}
use Prim.Native.Nat.{ℕ, ◌+◌, ◌*◌, ◌<◌, ◌≤◌}
use lib.Dec.{eqb, ltb}
use lib.ListN.{length, get_or, get_or-eq_default}
use borrow.Author.Tests.{eq-eqb, ne_eqb, lt-ltb, le-ltb}
use borrow.Author.Rules.{rules}
use Rattle.replay.specs.Counts.{one_more, count_if}

pub byte_past_the_end : (s : List ℕ) (at : ℕ) → length s ≤ at → 0 ≡ get_or s at 0
byte_past_the_end s at h = sym (get_or-eq_default s 0 {n = at} h)

pub number_past_the_end : (s : List ℕ) (at : ℕ) → length s ≤ at → 0 ≡ get_or s at 0 + 256 * get_or s (at + 1) 0
number_past_the_end s at h =
    let low = byte_past_the_end s at h in
    let high = byte_past_the_end s (at + 1) (search rules) in
    search (low, high, rules)

pub counted : (p : Bool) (x r : ℕ) → p ≡ true → r ≡ one_more x → r ≡ count_if p x
counted p x r e q = rw (e, q)

pub not_counted : (p : Bool) (x : ℕ) → p ≡ false → x ≡ count_if p x
not_counted p x e = rw e

pub counted_otherwise : (p : Bool) (x r : ℕ) → p ≡ false → r ≡ one_more x → r ≡ count_if (not p) x
counted_otherwise p x r e q = rw (e, q)

pub not_counted_otherwise : (p : Bool) (x : ℕ) → p ≡ true → x ≡ count_if (not p) x
not_counted_otherwise p x e = rw e

pub bytes_left_fail : (left x r : ℕ) → (left ≡ 0 → ⊥) → r ≡ one_more x → r ≡ count_if (not (eqb left 0)) x
bytes_left_fail left x r ne q = rw (ne_eqb left 0 ne, q)

pub no_bytes_left : (left x : ℕ) → left ≡ 0 → x ≡ count_if (not (eqb left 0)) x
no_bytes_left left x e = rw (eq-eqb left 0 e)

-- a place that goes on by n bytes

module _ (at n : ℕ) where
  pub the_place_goes_on : at < 65536 → at + n ≡ cond (ltb at 65536) (at + n) at
  the_place_goes_on h = rw (lt-ltb at 65536 h)

  pub the_place_stays : 65536 ≤ at → at ≡ cond (ltb at 65536) (at + n) at
  the_place_stays h = rw (le-ltb at 65536 h)
