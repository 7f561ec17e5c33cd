-- Proofs of `write`, src/state.rt.
use Rattle.std.proofs.Common.{sym, subst}
use Rattle.vectors.specs.Vectors.{VectorsValue}
use Rattle.run_state.specs.inside.NamedSets.{HaveLength}
use Rattle.run_state.proofs.Lengths.{after_all_changes}
use Rattle.run_state.proofs.state.State.write.Goals as goal

pub invariant_of-self : goal.invariant_of-self
invariant_of-self c =
    let s = c.self.inside in
    subst (λ (v : VectorsValue). HaveLength s.vector_count s.sets.vertices v.vectors) (sym c.write.ensures)
    (after_all_changes s.vector_count s.sets.vertices s.vectors.vectors c.args.changes.now.vectors.items c.self.invariant)
