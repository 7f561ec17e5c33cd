-- Proofs of `words`, src/set.rt.
use Rattle.vertex_sets.proofs.StoredSets.{words_of}
use Rattle.vertex_sets.proofs.set.VertexSet.words.Goals as goal

pub returns-in-Worded-clause-members : goal.returns-in-Worded-clause-members
returns-in-Worded-clause-members c =
    rw c.deref.ensures.value (words_of c.self.inside.vertices c.self.inside.members c.args.self.now c.self.invariant c.self.view_is c.in-Worded.set c.in-Worded.is)
