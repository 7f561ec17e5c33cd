use Rattle.std.proofs.Common.{◌≡◌}
use Rattle.vertex_sets.specs.VertexSet.{all_vertices}
use Rattle.vertex_sets.proofs.list.full.Given as goal

abbrev pub invariant-loop-vertex : goal.invariant-loop-vertex
invariant-loop-vertex l = l.list.items ≡ all_vertices l.vertex
