-- Proofs of `flags`, src/set.rt.
use Rattle.vertex_sets.proofs.StoredSets.{flags_of}
use Rattle.vertex_sets.proofs.set.VertexSet.flags.Goals as goal

pub returns-in-Flagged-clause-members : goal.returns-in-Flagged-clause-members
returns-in-Flagged-clause-members c =
    rw c.deref.ensures.value (flags_of c.self.inside.vertices c.self.inside.members c.args.self.now c.self.invariant c.self.view_is c.in-Flagged.set c.in-Flagged.is)
