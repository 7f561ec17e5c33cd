-- The edges into some destinations.
use Rattle.std.specs.Prelude.{[], ℕ, ℤ, Bool, List, ◌∷◌, ◌++◌}
use Rattle.std.specs.List.{filter}
use Rattle.weighted_edges.specs.Edge.{Edge}
use Rattle.flat_snapshot.specs.Neighbours.{sources_of}
use Rattle.edge_fold.specs.Contributions.{column}

-- those entries whose neighbour passes; an entry is a neighbour and a weight
abbrev pub passing : (from : ℕ → Bool) → List (ℕ × ℤ) → List (ℕ × ℤ)
passing from entries = filter (λ e. from e.0) entries

-- those of a graph with these edges, from the sources that pass
abbrev pub columns : (from : ℕ → Bool) → List Edge → (destinations : List ℕ) → List Edge
columns from es [] = []
columns from es (v ∷ vs) = column v (passing from (sources_of v es)) ++ columns from es vs
