-- Proofs of `set_entry`, src/state.rt.
use Rattle.std.proofs.Common.{sym, subst}
use Rattle.vectors.specs.Vectors.{VectorsValue}
use Rattle.run_state.specs.inside.NamedSets.{HaveLength}
use Rattle.run_state.proofs.Lengths.{after_entry}
use Rattle.run_state.proofs.state.State.set_entry.Goals as goal

pub invariant_of-self : goal.invariant_of-self
invariant_of-self c =
    let s = c.self.inside in
    subst (λ (v : VectorsValue). HaveLength s.vector_count s.sets.vertices v.vectors) (sym c.set.ensures)
    (after_entry s.vector_count s.sets.vertices s.vectors.vectors c.args.vector c.args.vertex _ c.self.invariant)
