-- Proofs of `vertex_applies_leave_others`, src/laws.rt.
use Rattle.algorithm_meaning.proofs.VertexApplies.{entry_after_vertices}
use Rattle.algorithm_meaning.proofs.laws.vertex_applies_leave_others.Goals as goal

pub returns : goal.returns
returns c = entry_after_vertices
