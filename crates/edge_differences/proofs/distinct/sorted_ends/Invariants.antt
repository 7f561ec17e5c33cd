use Rattle.std.proofs.Common.{take}
use Rattle.edge_differences.proofs.Indices.{HaveIndices}
use Rattle.edge_differences.proofs.distinct.sorted_ends.Given as goal

-- the indices of the first ends
abbrev pub invariant-ends : goal.invariant-ends
invariant-ends l = HaveIndices (take l.pair-index l.ends) l.indices.items
