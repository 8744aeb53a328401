-- What the tests of work record, list and base answer, from what the tests below them answered. Assumes nothing.
use mathlib.Core.Path.{◌≡◌, refl}
use mathlib.Core.Bool.{Bool, not, ◌&&◌, ◌||◌}
use mathlib.Core.List.{List, [], ◌∷◌}
use Prim.Native.Nat.{ℕ, ◌+◌, ◌-◌, ◌*◌, ◌≤◌, ◌<◌}
use lib.Dec.{eqb, leb, ltb}
use lib.ListN.{length}
use native.Mathlib.Omega.{arith}
use borrow.Author.Tests.{lt-ltb, le-ltb}
use Rattle.leaf_node.specs.Limits.{merge_below}
use Rattle.leaf_node.specs.Page.{word, count, key_at, values_size}
use Rattle.leaf_node.specs.Steps.{Counted}
use Rattle.leaf_model.specs.Work.{above_last, below_cutoff}
use Rattle.leaf_work.specs.declared.Work.{Work}
use Rattle.leaf_work.specs.Tests.{implies, is_zero, is_set}
use Rattle.leaf_work.specs.Lent.{last_of, cutoff_of}
use Rattle.leaf_work.specs.Sound.{lets_in, known_turn, known_flags, last_below, cutoff_right, floor_above, floor_at_turn, absent_zero}
use Rattle.leaf_pass.specs.declared.Tally.{Tally}
use Rattle.leaf_pass.specs.Pass.{is_behind}
use Rattle.leaf_check.specs.Settled.{listed_right, waiting_fits, turn_right, room_for, rest_right, pass_right, record_right}

-- ---- the work record

module _ (w : Work) where
  pub record_by : (a b c : Bool) → a ≡ (known_turn w && (known_flags w && (last_below w && cutoff_right w))) → b ≡ (floor_above w && floor_at_turn w) → c ≡ absent_zero w
      → (a && (b && c)) ≡ record_right w
  unfolding record_right
  record_by a b c e f g = rw (e, f, g)

-- ---- what the entries come to

module _ (w : Work) (z : Tally) where
  pub listed_by : (a : Bool) → a ≡ lets_in w z.last
      → (eqb w.filled z.end && (eqb w.count z.count && (eqb w.bytes z.bytes && (eqb z.count 0 || not a)))) ≡ listed_right w z
  unfolding listed_right
  listed_by a e = rw e

  pub waiting_by : (size least : ℕ) → least ≡ merge_below size
      → (eqb z.inserts w.used && (is_set w.over && (is_set w.cut && (ltb 0 (34 * z.count + z.bytes) && ltb (34 * z.count + z.bytes) least)))) ≡ waiting_fits size w z
  unfolding waiting_fits
  waiting_by size least e = rw e

  pub turn_by : (size n : ℕ) (a b c d : Bool) → a ≡ implies (is_set w.over) (ltb 0 z.inserts) → b ≡ waiting_fits size w z → c ≡ implies (eqb w.turn 2) b
      → d ≡ implies (eqb w.turn 3) (eqb z.count 0 && leb n w.low) → (a && (c && d)) ≡ turn_right size w z n
  unfolding turn_right
  turn_by size n a b c d e f g h = rw (e, g, f, h)

  module _ (page : List ℕ) (n : ℕ) (c : Counted page n) where
    pub room_by : (entries bytes rest : ℕ) → rest ≡ values_size page w.low n → (leb (z.count + (n - w.low)) entries && leb (z.bytes + rest) bytes) ≡ room_for w z page entries bytes
    unfolding room_for
    room_by entries bytes rest e = rw (e, ← c.counted)

    pub rest_none : (a : Bool) → n ≤ w.low → a ≡ (is_zero z.count || below_cutoff (cutoff_of w) z.last) → a ≡ rest_right w z page
    unfolding rest_right
    rest_none a h e = rw (le-ltb w.low (count page) (omega (arith, c.counted)), rest_right, e)

    pub rest_by : (x y : List ℕ) (p q r : Bool) → w.low < n → x ≡ key_at page w.low → y ≡ key_at page (n - 1) → p ≡ is_behind z.count z.last x → q ≡ above_last (last_of w) x
        → r ≡ below_cutoff (cutoff_of w) y → (p && (q && r)) ≡ rest_right w z page
    unfolding rest_right
    rest_by x y p q r h e f g k l = rw (lt-ltb w.low (count page) (omega (arith, c.counted)), rest_right, g, k, l, e, f, ← c.counted)

    pub pass_right_by : (size entries bytes : ℕ) (p q r s : Bool) → p ≡ listed_right w z → q ≡ turn_right size w z n → r ≡ room_for w z page entries bytes → s ≡ rest_right w z page
        → (p && (q && (r && s))) ≡ pass_right size w z page entries bytes
    unfolding pass_right
    pass_right_by size entries bytes p q r s e f g h = rw (e, f, g, h, ← c.counted)

-- ---- the page

pub no_page : (size : ℕ) (page : List ℕ) → length page ≡ 0 → 0 ≡ count page
unfolding count word
no_page size [] e = refl
no_page size (x ∷ xs) e = absurd (omega arith)
