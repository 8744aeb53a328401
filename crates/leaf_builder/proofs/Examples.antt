-- A computed example of what M-103 calls the later pointers. Assumes nothing.
use mathlib.Core.Path.{◌≡◌, refl}
use mathlib.Core.List.{[], ◌∷◌, ◌++◌}
use lib.ListN.{replicate}
use Rattle.leaf_builder.specs.Steps.{behind}

-- the pointers of two records go from pointer 1 on: what is later begins with pointer 3, at byte 104
later_pointers : behind (replicate 104 1 ++ (2 ∷ 3 ∷ [])) 4 6 1 ≡ 2 ∷ 3 ∷ []
later_pointers = refl
