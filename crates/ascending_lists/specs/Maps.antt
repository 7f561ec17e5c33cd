-- Finite maps from numbers below 2 ^ 32, as the lists of their entries in ascending order of keys.
use Rattle.std.specs.Prelude.{ℕ, ◌+◌, ◌^◌, ◌≤◌, ◌==◌, if◌then◌else◌, Option, Some, None, List, [], ◌∷◌}

-- the keys rise from low up to high, each once
abbrev pub Rises : {V : Type 0} → ℕ → ℕ → List (ℕ × V) → Type 0
Rises low high [] = low ≤ high
Rises low high (e ∷ es) = (low ≤ e.0) × Rises (e.0 + 1) high es

-- the entries are those of a map: each key is below all later keys, and below 2 ^ 32
abbrev pub IsMap : {V : Type 0} → List (ℕ × V) → Type 0
IsMap es = Rises 0 (2 ^ 32) es

-- the value at a key
abbrev pub lookup : {V : Type 0} → ℕ → List (ℕ × V) → Option V
lookup k [] = None
lookup k (e ∷ es) = if e.0 == k then Some e.1 else lookup k es
