-- The test for an accepted call tells refusals from it. Assumes nothing.
use mathlib.Core.Path.{◌≡◌}
use mathlib.Core.Bool.{false}
use lib.Dec.{eqb}
use borrow.Author.Tests.{ne_eqb}
use Rattle.refusal.specs.declared.Refusal.{Refusal}
use Rattle.refusal.specs.Numbers.{number}
use Rattle.refusal.proofs.Refused.{refused}

pub not_accepted : (r : Refusal) → eqb (number r) 0 ≡ false
not_accepted r = ne_eqb (number r) 0 (refused r)
