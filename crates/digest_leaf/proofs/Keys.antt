-- The key of the first record from a cursor on, by the cursor's entry. Assumes nothing.
use mathlib.Core.Path.{◌≡◌}
use mathlib.Core.Option.{none, some}
use mathlib.Core.List.{List}
use Prim.Native.Nat.{ℕ, ◌+◌, ◌≤◌, ◌<◌}
use native.Mathlib.Omega.{arith}
use lib.ListN.{get_or}
use borrow.Author.Tests.{lt-ltb, le-ltb}
use Rattle.leaf_node.specs.Page.{count, key_at}
use Rattle.leaf_work.specs.declared.Entry.{Entry}
use Rattle.leaf_work.specs.Lent.{blank}
use Rattle.leaf_cut.specs.declared.Span.{Span}
use Rattle.leaf_cut.specs.declared.Cursor.{Cursor}
use Rattle.leaf_cut.specs.Steps.{Spread, CursorIn}
use Rattle.leaf_cut.proofs.Walking.{chunk_many}
use Rattle.leaf_write.specs.Filling.{entry_key, key_from}
use Rattle.digest_leaf.specs.Keys.{KeyAsked}

module _ (list : List Entry) (page : List ℕ) (s : Span) (at : Cursor) where
  module _ (l : at.entry < s.used) (e : Entry) (q : e ≡ get_or list at.entry blank) where
    pub an_entry_asks : Spread list page s → CursorIn list page s at → KeyAsked page e at.skip
    an_entry_asks spread c = record {
      chunk = λ n.
          let h = rw (← q) at (spread.entries at.entry l) in
          let k = rw (← q) at (c.skip_in l) in
          let m : e.from + at.skip < count page = omega (arith, (h.chunk n).1, spread.rest.low_in, k, chunk_many page e s h spread.rest n) in
          omega (arith, (spread.rest.laid (omega arith)).inside);
    }

    pub an_entrys_key_is_first : (k : List ℕ) → k ≡ entry_key page e at.skip → some k ≡ key_from s list page at
    unfolding key_from
    an_entrys_key_is_first k h = rw (lt-ltb at.entry s.used l, ← q, h)

  module _ (l : s.used ≤ at.entry) where
    pub the_rests_key_is_first : s.low + at.skip < count page → (k : List ℕ) → k ≡ key_at page (s.low + at.skip) → some k ≡ key_from s list page at
    unfolding key_from
    the_rests_key_is_first m k h = rw (le-ltb at.entry s.used l, lt-ltb (s.low + at.skip) (count page) m, h)

    pub no_record_is_left : count page ≤ s.low + at.skip → none ≡ key_from s list page at
    unfolding key_from
    no_record_is_left m = rw (le-ltb at.entry s.used l, le-ltb (s.low + at.skip) (count page) m)
