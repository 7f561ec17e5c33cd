-- Two graphs that differ in few edges.
use Rattle.std.specs.Prelude.{◌≡◌, List}
use Rattle.edge_differences.specs.Listed.{AreSameBut}
use Rattle.flat_snapshot.specs.Digraph.{Digraph}
use Rattle.tree_batch.specs.Edge.{Ends}

-- the graphs have as many vertices and, but for the listed ends, the same edges
pub record AreAlikeBut (listed : List Ends) (graph former : Digraph) : Type 0 where
  pub vertices : former.vertices ≡ graph.vertices
  pub edges : AreSameBut listed graph.edges former.edges
