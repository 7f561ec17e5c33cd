-- Beside `Folded`: definitions that no public contract cites.
use Rattle.std.specs.Prelude.{List}
use Rattle.weighted_edges.specs.Edge.{Edge}
use Rattle.edge_fold.specs.declared.pairs.PairColumns.{PairColumns}
use Rattle.edge_fold.specs.Contributions.{pairs}

-- the edges of columns of pairs
abbrev pub edges_in : PairColumns → List Edge
edges_in c = pairs c.sources.now c.destinations.now c.weights.now
