-- A record, and what a list of records takes in a page. It is the one type of record in this repository.
use Rattle.std.specs.Prelude.{Bool, List, [], ◌∷◌, ◌++◌, ℕ, ◌+◌, length}

pub record Record : Type 0 where
  pub key : List ℕ
  pub value : List ℕ
  pub flag : Bool

-- what a record adds to a body: its pointer and its value
abbrev pub cost : Record → ℕ
cost r = 34 + length r.value

-- the body size of a list of records
abbrev pub body : List Record → ℕ
body [] = 0
body (r ∷ rs) = cost r + body rs

-- all values, one after the other, and how many bytes they are
unfoldable pub values : List Record → List ℕ
values [] = []
values (r ∷ rs) = r.value ++ values rs

unfoldable pub total : List Record → ℕ
total [] = 0
total (r ∷ rs) = length r.value + total rs
