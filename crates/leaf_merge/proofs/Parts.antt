-- How many records of an entry are not kept. Assumes nothing.
use mathlib.Core.Path.{◌≡◌}
use Prim.Native.Nat.{ℕ}
use borrow.Author.Tests.{eq-eqb, ne_eqb}
use Rattle.leaf_cut.specs.declared.Cursor.{Cursor}
use Rattle.leaf_merge.specs.Lifting.{skip_at}

pub the_entry_of_the_cursor_skips : (at : Cursor) (e : ℕ) → e ≡ at.entry → at.skip ≡ skip_at at e
unfolding skip_at
the_entry_of_the_cursor_skips at e q = rw (eq-eqb e at.entry q)

pub another_entry_does_not_skip : (at : Cursor) (e : ℕ) → (e ≡ at.entry → ⊥) → 0 ≡ skip_at at e
unfolding skip_at
another_entry_does_not_skip at e q = rw (ne_eqb e at.entry q)
