-- Directed graphs as their vertices and edges, and the graph after a batch.
use Rattle.std.specs.Prelude.{[], ◌≡◌, ℕ, ℤ, nat_le, nat_eq, Bool, true, ◌&&◌, Some, List, ◌∷◌}
use Rattle.std.specs.List.{flat_map, list_any}
use Rattle.weighted_edges.specs.Edge.{Edge}
use Rattle.tree_batch.specs.declared.batch.Entry.{Entry}
use Rattle.tree_batch.specs.Edge.{Ends, weight_in, edge_at, all_ends, IsWithin, IsAscending, vertices_after, weight_after}

-- a directed graph: how many vertices it has, and its edges in ascending order
pub record Digraph : Type 0 where
  pub vertices : ℕ
  pub edges : List Edge

-- whether a graph may have n vertices
abbrev pub is_vertex_count : ℕ → Bool
is_vertex_count n = nat_le 1 n && nat_le n 16777216

-- whether b is a power of two from 1 to 256
abbrev pub is_chunk_size : ℕ → Bool
is_chunk_size b = list_any (nat_eq b) (1 ∷ 2 ∷ 4 ∷ 8 ∷ 16 ∷ 32 ∷ 64 ∷ 128 ∷ 256 ∷ [])

-- what is true of each graph
pub record IsDigraph (g : Digraph) : Type 0 where
  pub count : is_vertex_count g.vertices ≡ true
  pub ascending : IsAscending g.edges
  pub within : (p : Ends) (w : ℤ) → weight_in p g.edges ≡ Some w → IsWithin g.vertices p

-- n vertices and no edges
abbrev pub empty_graph : ℕ → Digraph
empty_graph n = record { vertices = n; edges = [] }

-- the graph after a batch: it may have grown, and between any two of its vertices the edge is there that is there after the batch, with its weight
abbrev pub graph_after : Digraph → List Entry → Digraph
graph_after g batch = let n = vertices_after g.vertices batch in
    record { vertices = n; edges = flat_map (λ p. edge_at p (weight_after g.edges batch p)) (all_ends n) }

-- the graph after batches, one after another
abbrev pub graph_through : Digraph → List (List Entry) → Digraph
graph_through g [] = g
graph_through g (batch ∷ batches) = graph_through (graph_after g batch) batches
