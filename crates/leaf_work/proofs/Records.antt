-- What `is_in_scope` and `separator` read of the work record. Assumes nothing.
use mathlib.Core.Path.{◌≡◌}
use mathlib.Core.Bool.{Bool, true}
use mathlib.Core.List.{List}
use Prim.Native.Nat.{ℕ}
use borrow.Author.Tests.{eq-eqb, ne_eqb}
use Rattle.bit_ops.specs.Key.{lt_key}
use Rattle.leaf_work.specs.declared.Work.{Work}
use Rattle.leaf_work.specs.Lent.{separator_of}
use Rattle.leaf_work.specs.Outcome.{in_scope_of}

pub every_key_is_in_scope : (w : Work) (k : List ℕ) → w.cut ≡ 0 → true ≡ in_scope_of w k
every_key_is_in_scope w k e = rw (eq-eqb w.cut 0 e)

pub keys_below_the_cutoff_are_in_scope : (w : Work) (k : List ℕ) (r : Bool) → (w.cut ≡ 0 → ⊥) → r ≡ lt_key k w.cutoff → r ≡ in_scope_of w k
keys_below_the_cutoff_are_in_scope w k r ne e = rw (ne_eqb w.cut 0 ne, e)

pub the_latest_separator_is_current : (w : Work) → w.over ≡ 0 → w.latest ≡ separator_of w
the_latest_separator_is_current w e = rw (eq-eqb w.over 0 e)

pub the_override_is_current : (w : Work) → (w.over ≡ 0 → ⊥) → w.overriding ≡ separator_of w
the_override_is_current w ne = rw (ne_eqb w.over 0 ne)
