use Rattle.edge_differences.proofs.Indices.{AreFirst}
use Rattle.edge_differences.proofs.distinct.distinct.Given as goal

-- the ends at the first indices, each once
abbrev pub invariant-positions : goal.invariant-positions
invariant-positions l = AreFirst l.indices l.position l.sorted.items
