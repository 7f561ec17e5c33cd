use Rattle.std.proofs.Common.{◌<◌, ℕ}
use Rattle.vertex_sets.specs.VertexSet.{IsAscendingBelow, IsAnswer}
use Rattle.vertex_sets.proofs.list.from_test.Given as goal

abbrev pub invariant-loop-vertex : goal.invariant-loop-vertex
invariant-loop-vertex g l = record {
  ascending : IsAscendingBelow l.vertex l.list.items;
  tested : (v : ℕ) → v < l.vertex → IsAnswer (goal.F-post g l.test) l.list.items v;
}
