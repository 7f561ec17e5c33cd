-- Neighbours of vertices with their weights, and the edges that they make.
use Rattle.std.specs.Prelude.{[], ◌≡◌, ◌≢◌, ℕ, ℤ, ◌==◌, if◌then◌else◌, Option, List, ◌∷◌, ◌++◌, MatchOption}
use Rattle.weighted_edges.specs.Edge.{Edge}
use Rattle.tree_batch.specs.Edge.{edges_from}

-- the destinations of the edges from u with their weights, in order
abbrev pub destinations_of : ℕ → List Edge → List (ℕ × ℤ)
destinations_of u [] = []
destinations_of u (e ∷ es) = if e.0 == u then (e.1, e.2) ∷ destinations_of u es else destinations_of u es

-- the sources of the edges to v with their weights, in order
abbrev pub sources_of : ℕ → List Edge → List (ℕ × ℤ)
sources_of v [] = []
sources_of v (e ∷ es) = if e.1 == v then (e.0, e.2) ∷ sources_of v es else sources_of v es

-- these neighbours, or none where there is no neighbour
abbrev pub HasNeighbours : List (ℕ × ℤ) → Option (List (ℕ × ℤ)) → Type 0
HasNeighbours xs o = MatchOption o (xs ≡ []) (λ s. (s ≡ xs) × (xs ≢ []))

-- the edges from vertices to their neighbours
abbrev pub edges_of : List (ℕ × List (ℕ × ℤ)) → List Edge
edges_of [] = []
edges_of (e ∷ es) = edges_from e.0 e.1 ++ edges_of es
