use Rattle.std.proofs.Common.{◌≡◌, ◌++◌, length}
use Rattle.tree_batch.specs.Neighbours.{edges_of}
use Rattle.tree_batch.specs.inside.Neighbours.{edges_left}
use Rattle.tree_batch.proofs.edges.EdgeIterIterator.next.Given as goal

-- a vertex that was begun has no edge left when another begins
abbrev pub invariant-rounds : goal.invariant-rounds
invariant-rounds l = edges_left l.self-inside.source l.self-inside.destinations ++ edges_of l.self-inside.vertices ≡ l.fn.self

abbrev pub decreases-rounds : goal.decreases-rounds
decreases-rounds l = length l.self-inside.vertices
