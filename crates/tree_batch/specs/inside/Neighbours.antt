-- Beside `Neighbours`: definitions that no public contract cites.
use Rattle.std.specs.Prelude.{[], ℕ, ℤ, Option, List, Some, None}
use Rattle.weighted_edges.specs.Edge.{Edge}
use Rattle.ascending_lists.specs.Maps.{lookup}
use Rattle.pages.specs.Vertices.{neighbours_of}
use Rattle.tree_batch.specs.Edge.{Ends, edges_from}

-- the weight of the second end as a neighbour of the first, if it is one
abbrev pub weight_between : List (ℕ × List (ℕ × ℤ)) → Ends → Option ℤ
weight_between es p = lookup p.1 (neighbours_of p.0 es)

-- the edges from a vertex to what is left of its neighbours
abbrev pub edges_left : ℕ → Option (List (ℕ × ℤ)) → List Edge
edges_left u None = []
edges_left u (Some xs) = edges_from u xs
