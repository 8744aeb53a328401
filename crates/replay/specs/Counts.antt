-- Counts of answers that passed and failed.
use Rattle.std.specs.Prelude.{◌≡◌, Bool, true, false, not, ℕ, ◌+◌, ltb}
use Rattle.replay.specs.declared.score.Score.{Score}

-- one more, up to the greatest number that a count can hold
abbrev pub one_more : ℕ → ℕ
one_more x = elim (ltb x 18446744073709551615) [ true ↦ x + 1 | false ↦ x ]

abbrev pub count_if : Bool → ℕ → ℕ
count_if true x = one_more x
count_if false x = x

-- an answer more, that passed or failed
pub record Counted (answer : Bool) (before after : Score) : Type 0 where
  pub passed : after.passed ≡ count_if answer before.passed
  pub failed : after.failed ≡ count_if (not answer) before.failed
  pub more : after.more ≡ before.more
