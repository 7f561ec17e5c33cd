-- Lists of vertices that are built up from a function.
use Rattle.std.specs.Prelude.{ℕ, zero, suc, ℤ, List, [], ◌∷◌, ◌++◌}

-- a vertex with its list, or nothing where it has no neighbour
abbrev pub entry_of : ℕ → List (ℕ × ℤ) → List (ℕ × List (ℕ × ℤ))
entry_of u [] = []
entry_of u (x ∷ xs) = (u, x ∷ xs) ∷ []

-- the vertices below a number that have neighbours
abbrev pub built : (ℕ → List (ℕ × ℤ)) → ℕ → List (ℕ × List (ℕ × ℤ))
built f zero = []
built f (suc u) = built f u ++ entry_of u (f u)
