-- Beside `FlatEdges`: definitions that no public contract cites.
use Rattle.std.specs.Prelude.{◌≡◌, ℕ, ℤ, List, length}
use Rattle.pages.specs.Vertices.{neighbours_of}
use Rattle.tree_batch.specs.inside.Digraph.{digraph}
use Rattle.tree_batch.specs.Digraph.{IsDigraph}
use Rattle.tree_batch.specs.Neighbours.{destinations_of, sources_of, edges_of}
use Rattle.flat_snapshot.specs.inside.Lists.{degrees_of}
use Rattle.flat_snapshot.specs.FlatEdges.{AreDegreesOf}

-- The neighbours along the edges of a graph of n vertices and those against them, with m edges.
pub record IsFlat (n m : ℕ) (outgoing incoming : List (ℕ × List (ℕ × ℤ))) : Type 0 where
  pub graph : IsDigraph (digraph n (edges_of outgoing))
  pub count : m ≡ length (edges_of outgoing)
  pub out : AreDegreesOf (λ u. destinations_of u (edges_of outgoing)) (degrees_of outgoing)
  pub into : AreDegreesOf (λ v. sources_of v (edges_of outgoing)) (degrees_of incoming)
  pub destinations : (u : ℕ) → neighbours_of u outgoing ≡ destinations_of u (edges_of outgoing)
  pub sources : (v : ℕ) → neighbours_of v incoming ≡ sources_of v (edges_of outgoing)
