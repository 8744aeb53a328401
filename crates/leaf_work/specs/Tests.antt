-- Small tests, flags and keys that are there or not.
use Rattle.std.specs.Prelude.{Bool, true, false, not, List, [], ◌∷◌, ℕ, eqb}
use Rattle.std.specs.Borrow.{Bor}
use Rattle.std.specs.Prelude as std
use Rattle.std.proofs.Math.Option.{Option, none, some}

-- the test holds of every element
abbrev pub every : {A : Type 0} → (A → Bool) → List A → Bool
every f [] = true
every f (x ∷ xs) = elim (f x) [ true ↦ every f xs | false ↦ false ]

-- two lists of bytes are one
abbrev pub same_bytes : List ℕ → List ℕ → Bool
same_bytes [] [] = true
same_bytes [] (y ∷ ys) = false
same_bytes (x ∷ xs) [] = false
same_bytes (x ∷ xs) (y ∷ ys) = elim (eqb x y) [ true ↦ same_bytes xs ys | false ↦ false ]

abbrev pub implies : Bool → Bool → Bool
implies true b = b
implies false b = true

abbrev pub is_zero : ℕ → Bool
is_zero n = eqb n 0

-- a flag is a number: nonzero is set, and a call sets 1
abbrev pub is_set : ℕ → Bool
is_set n = not (is_zero n)

abbrev pub bit : Bool → ℕ
bit true = 1
bit false = 0

-- "`Option<Key>`: a flag beside a key, zeros when absent"
abbrev pub key_if : Bool → List ℕ → Option (List ℕ)
key_if true k = some k
key_if false k = none

-- a key that is lent or not
abbrev pub lent_key : std.Option (Bor (List ℕ)) → Option (List ℕ)
lent_key std.None = none
lent_key (std.Some k) = some k.now
