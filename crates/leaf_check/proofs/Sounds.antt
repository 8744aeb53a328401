-- The test of soundness, step by step. Assumes nothing.
use mathlib.Core.Path.{◌≡◌, sym, ◌∙◌}
use mathlib.Core.Bool.{Bool, true, false, not, ◌&&◌}
use mathlib.Core.List.{List}
use Prim.Native.Nat.{ℕ}
use lib.Dec.{leb}
use lib.ListN.{length, drop}
use borrow.Author.Tests.{not-true, not-false}
use Rattle.std.specs.Prelude.{Option, Some, None}
use Rattle.std.specs.Option.{option_map_or}
use Rattle.leaf_node.specs.Limits.{PageSize}
use Rattle.leaf_node.specs.Page.{count}
use Rattle.leaf_work.specs.declared.Work.{Work}
use Rattle.leaf_work.specs.declared.Entry.{Entry}
use Rattle.leaf_work.specs.Tests.{every, is_zero}
use Rattle.leaf_work.specs.Lent.{separator_of}
use Rattle.leaf_work.specs.Sound.{sound}
use Rattle.leaf_pass.specs.declared.Tally.{Tally}
use Rattle.leaf_pass.specs.declared.Bounds.{Bounds}
use Rattle.leaf_pass.specs.Pass.{passed_all, begun}
use Rattle.leaf_check.specs.Settled.{Regardable, bounds_of, pass_right, record_right, entries_sound, sound_by}
use Rattle.leaf_check.proofs.Decided.{the_pass_decides}

module _ (size : ℕ) (q : PageSize size) (w : Work) (list : List Entry) (store p : List ℕ) (g : Regardable size p) where
  decided : sound_by size w list store p ≡ sound size w list store p
  decided = the_pass_decides size q w list store p g

  abbrev inside : ℕ → Bool
  inside n = leb w.used (length list) && (leb w.filled (length store) && leb w.low n)

  module _ (t : Bool) (e : t ≡ record_right w) where
    pub wrong_record : not t ≡ true → false ≡ sound size w list store p
    unfolding sound_by
    wrong_record h = rw (← decided, ← e, not-true t h)

    module _ (h : not t ≡ false) (n : ℕ) (c : n ≡ count p) where
      pub not_within : not (leb w.used (length list) && (leb w.filled (length store) && leb w.low n)) ≡ true → false ≡ sound size w list store p
      unfolding sound_by
      not_within i = rw (← decided, ← e, not-false t h, ← c, not-true (inside n) i)

      module _ (i : not (leb w.used (length list) && (leb w.filled (length store) && leb w.low n)) ≡ false) (s : Bool) (f : s ≡ every is_zero (drop w.filled store)) where
        pub not_clear : not s ≡ true → false ≡ sound size w list store p
        unfolding sound_by
        not_clear j = rw (← decided, ← e, not-false t h, ← c, not-false (inside n) i, ← f, not-true s j)

        pub the_entries_decide : (a : Bool) → not s ≡ false → a ≡ entries_sound size w list p (length store) → a ≡ sound size w list store p
        unfolding sound_by
        the_entries_decide a j v = rw (← decided, ← e, not-false t h, ← c, not-false (inside n) i, ← f, not-false s j) v

-- what the entries come to
module _ (size : ℕ) (w : Work) (list : List Entry) (p : List ℕ) (bytes : ℕ) (b : Bounds) (k : b ≡ bounds_of size w) (x : Tally)
    (o : x ≡ begun (separator_of w)) (r : Option Tally) (m : r ≡ passed_all b p x list) where
  whole_is : entries_sound size w list p bytes ≡ option_map_or (λ z. pass_right size w z p (length list) bytes) r false
  unfolding entries_sound
  whole_is = rw (m, k, o)

  pub a_wrong_entry : r ≡ None → false ≡ entries_sound size w list p bytes
  a_wrong_entry n = sym (rw n at whole_is)

  pub settles : (z : Tally) (a : Bool) → r ≡ Some z → a ≡ pass_right size w z p (length list) bytes → a ≡ entries_sound size w list p bytes
  settles z a n v = v ∙ sym (rw n at whole_is)
