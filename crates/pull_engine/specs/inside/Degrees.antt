-- The numbers of edges to the vertices of a graph.
use Rattle.std.specs.Prelude.{ℕ, List, length, map}
use Rattle.std.specs.List.{range_with_len}
use Rattle.flat_snapshot.specs.Digraph.{Digraph}
use Rattle.flat_snapshot.specs.Neighbours.{sources_of}

-- those of all vertices, in their order
abbrev pub in_degrees : Digraph → List ℕ
in_degrees g = map (λ v. length (sources_of v g.edges)) (range_with_len 0 g.vertices)
