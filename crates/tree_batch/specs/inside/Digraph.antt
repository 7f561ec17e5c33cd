-- Beside `Digraph`: definitions that no public contract cites.
use Rattle.std.specs.Prelude.{ℕ, List}
use Rattle.weighted_edges.specs.Edge.{Edge}
use Rattle.tree_batch.specs.Digraph.{Digraph}

abbrev pub digraph : ℕ → List Edge → Digraph
digraph n es = record { vertices = n; edges = es }
