-- What is known of every refusal. Assumes nothing.
use mathlib.Core.Path.{◌≡◌, refl}
use native.Mathlib.Omega.{arith}
use Rattle.refusal.specs.declared.Refusal.{Refusal}
use Rattle.refusal.specs.declared.Refusal.TheVariants.{PageLength, TooManyRecords, BadOffsets, LongPageValue, KeysNotRising, BadBounds, RoomLength, Unsound, OutOfTurn, NoSuchIndex, EqualKeys, LongValue, KeyTooLow, KeyPastCutoff, ListFull, StoreFull, ShortArea, LongRow, BadWeight, OddTree, OverflowLength, ShortBuffer, BadOverflow, HeavyTree}
use Rattle.std.specs.Prelude.{Result, Ok, Err}
use Rattle.std.specs.Result.{IsErr, IsErrAnd}
use Rattle.refusal.specs.Numbers.{number}

-- no refusal has the number of an accepted call
pub refused : (e : Refusal) → number e ≡ 0 → ⊥
refused PageLength z = absurd (omega arith)
refused TooManyRecords z = absurd (omega arith)
refused BadOffsets z = absurd (omega arith)
refused LongPageValue z = absurd (omega arith)
refused KeysNotRising z = absurd (omega arith)
refused BadBounds z = absurd (omega arith)
refused RoomLength z = absurd (omega arith)
refused Unsound z = absurd (omega arith)
refused OutOfTurn z = absurd (omega arith)
refused NoSuchIndex z = absurd (omega arith)
refused EqualKeys z = absurd (omega arith)
refused LongValue z = absurd (omega arith)
refused KeyTooLow z = absurd (omega arith)
refused KeyPastCutoff z = absurd (omega arith)
refused ListFull z = absurd (omega arith)
refused StoreFull z = absurd (omega arith)
refused ShortArea z = absurd (omega arith)
refused LongRow z = absurd (omega arith)
refused BadWeight z = absurd (omega arith)
refused OddTree z = absurd (omega arith)
refused OverflowLength z = absurd (omega arith)
refused ShortBuffer z = absurd (omega arith)
refused BadOverflow z = absurd (omega arith)
refused HeavyTree z = absurd (omega arith)

-- a refusal that a `?` passes on, to a caller that answers something else
module _ {A : Type 0} (r : Result A Refusal) (e : Refusal) where
  pub passed_on : IsErr r × IsErrAnd r (λ x. x ≡ e) → r ≡ Err e
  passed_on h = go r h
    where
      go : (r : Result A Refusal) → IsErr r × IsErrAnd r (λ x. x ≡ e) → r ≡ Err e
      go (Ok x) (z, h) = absurd h
      go (Err x) (z, h) = rw h refl
