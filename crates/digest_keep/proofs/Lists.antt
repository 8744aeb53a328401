-- An entry's kind. Assumes nothing.
use mathlib.Core.Path.{◌≡◌, refl}
use mathlib.Core.Logic.{◌⊎◌, inl, inr}
use mathlib.Core.Bool.{Bool, true, false}
use lib.Dec.{eqb}
use borrow.Author.Tests.{eqb-true, eqb-false}
use Rattle.leaf_work.specs.declared.Entry.{Entry}

-- an entry is an insert, or it is none
pub either_kind : (e : Entry) → (e.kind ≡ 1) ⊎ (e.kind ≡ 1 → ⊥)
either_kind e = go (eqb e.kind 1) refl
  where
    go : (b : Bool) → eqb e.kind 1 ≡ b → (e.kind ≡ 1) ⊎ (e.kind ≡ 1 → ⊥)
    go true q = inl (eqb-true e.kind 1 q)
    go false q = inr (eqb-false e.kind 1 q)
