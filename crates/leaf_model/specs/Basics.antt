-- Lists joined and cleared, and whether a list has an element.
use Rattle.std.specs.Prelude.{Bool, true, false, List, [], ◌∷◌, ◌++◌, ℕ, ◌-◌, length, take, replicate}

-- the lists of a list, one after another
abbrev pub joined : {A : Type 0} → List (List A) → List A
joined [] = []
joined (x ∷ xs) = x ++ joined xs

-- z from index `from` on
unfoldable pub cleared : {A : Type 0} → A → List A → ℕ → List A
cleared z xs from = take from xs ++ replicate (length xs - from) z

abbrev pub nonempty : {A : Type 0} → List A → Bool
nonempty [] = false
nonempty (x ∷ xs) = true
