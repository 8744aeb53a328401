-- The lists of records that a page takes: what the theorems about building ask of them.
use Rattle.std.specs.Prelude.{ℕ, ◌≤◌, ◌<◌, ◌≡◌, List, [], ◌∷◌, length}
use Rattle.bit_ops.specs.Key.{num}
use Rattle.leaf_node.specs.Limits.{PageSize, body_limit, value_limit}
use Rattle.leaf_node.specs.Record.{Record, body}

-- every element of a list is P
pub data All {A : Type 0} (P : A → Type 0) : List A → Type 0 where
  nil : All P []
  cons : {x : A} {xs : List A} → P x → All P xs → All P (x ∷ xs)

-- a record with a key of 32 bytes
abbrev pub Keyed : Record → Type 0
Keyed r = length r.key ≡ 32

-- a record whose value a page takes
abbrev pub Fitting : ℕ → Record → Type 0
Fitting size r = length r.value ≤ value_limit size

-- "keys strictly rise": each is below all that come after it
pub data Rising : List Record → Type 0 where
  rise[] : Rising []
  rise∷ : {x : Record} {xs : List Record} → All (λ y. num x.key < num y.key) xs → Rising xs → Rising (x ∷ xs)

-- the records fit into one page of `size` bytes
pub record Fits (size : ℕ) (rs : List Record) : Type 0 where
  pub sized : PageSize size
  pub keys : All Keyed rs
  pub room : body rs ≤ body_limit size

-- the records of a good page
pub record Proper (size : ℕ) (rs : List Record) : Type 0 where
  pub fits : Fits size rs
  pub fitting : All (Fitting size) rs
  pub rise : Rising rs
