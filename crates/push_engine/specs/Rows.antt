-- The edges from some sources.
use Rattle.std.specs.Prelude.{[], ℕ, List, ◌∷◌, ◌++◌}
use Rattle.weighted_edges.specs.Edge.{Edge}
use Rattle.flat_snapshot.specs.Neighbours.{destinations_of}
use Rattle.edge_fold.specs.Contributions.{row}

-- those of a graph with these edges
abbrev pub rows : List Edge → (sources : List ℕ) → List Edge
rows es [] = []
rows es (u ∷ us) = row u (destinations_of u es) ++ rows es us
