-- The edges that are gone over to find what an apply may change otherwise than a former one.
use Rattle.std.specs.Prelude.{ℕ, ◌+◌, if◌then◌else◌, Option, None, List, [], ◌∷◌, length}
use Rattle.weighted_edges.specs.Edge.{Edge}
use Rattle.kernels.specs.declared.endpoint_filter.EndpointFilter.{EndpointFilter}
use Rattle.flat_snapshot.specs.Neighbours.{destinations_of, sources_of}
use Rattle.edge_apply.specs.declared.apply.Apply.{Apply}
use Rattle.follow_engine.specs.declared.differences.Differences.{Differences}
use Rattle.follow_engine.specs.Reached.{may_pass}

-- how many edges go from those sources that an end may let through
abbrev pub edges_from_some : List Edge → Option EndpointFilter → (sources : List ℕ) → ℕ
edges_from_some edges end [] = 0
edges_from_some edges end (u ∷ us) = (if may_pass end u then length (destinations_of u edges) else 0) + edges_from_some edges end us

-- how many edges are gone over to mark the destinations that are reached
abbrev pub marking_work : Apply → Differences → ℕ
marking_work a d = edges_from_some a.flat.now.edges None d.sources.now + edges_from_some a.flat.now.edges a.from d.entries.now

-- how many edges there are to these destinations
abbrev pub edges_to : List Edge → (destinations : List ℕ) → ℕ
edges_to edges [] = 0
edges_to edges (v ∷ vs) = length (sources_of v edges) + edges_to edges vs
