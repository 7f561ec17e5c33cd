-- Proofs of `of`, src/set.rt.
use Rattle.std.proofs.Common.{refl}
use Rattle.vertex_sets.proofs.StoredSets.{valid_set}
use Rattle.vertex_sets.proofs.set.VertexSet.of.Goals as goal

pub returns-clause-valid : goal.returns-clause-valid
returns-clause-valid c = valid_set c.args.vertices c.args.members _ c.requires refl
