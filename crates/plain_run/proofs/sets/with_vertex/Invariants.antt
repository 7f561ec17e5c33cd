use Rattle.std.proofs.Common.{◌≡◌, ◌++◌, length}
use Rattle.algorithm_meaning.specs.VertexSets.{inserted}
use Rattle.plain_run.proofs.sets.with_vertex.Given as goal

-- what is there, and what is left with the vertex, are all
abbrev pub invariant-members : goal.invariant-members
invariant-members l = l.more.items ++ inserted l.vertex l.left ≡ inserted l.vertex l.members

abbrev pub decreases-members : goal.decreases-members
decreases-members l = length l.left
