-- What moving within a list makes of it.
use Rattle.std.specs.Prelude.{◌≡◌, List, ◌++◌, ℕ, ◌-◌, ◌≤◌, ◌<◌, length, get_or, take, drop, replicate}

-- new elements in the places right below index t
unfoldable pub under : {A : Type 0} → List A → ℕ → List A → List A
under xs t new = take (t - length new) xs ++ new ++ drop t xs

-- the last `count` elements moved to the start
unfoldable pub lowered : {A : Type 0} → List A → ℕ → List A
lowered xs count = drop (length xs - count) xs ++ drop count xs

-- the last `count` elements at the start, and z behind them
unfoldable pub settled : {A : Type 0} → A → List A → ℕ → List A
settled z xs count = drop (length xs - count) xs ++ replicate (length xs - count) z

-- of the bytes before the last `count` only the first `filled` may be in use: the others are zeros
pub record Spare (d : List ℕ) (count filled : ℕ) : Type 0 where
  pub few : count ≤ length d
  pub within : filled ≤ length d
  pub zero : (i : ℕ) → filled ≤ i → i < length d - count → get_or d i 0 ≡ 0
