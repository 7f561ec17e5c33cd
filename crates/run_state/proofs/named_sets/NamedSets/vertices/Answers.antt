-- Proofs of `vertices`, src/named_sets.rt.
use Rattle.std.proofs.Common.{subst}
use Rattle.run_state.specs.inside.NamedSets.{AreAscending}
use Rattle.run_state.specs.State.{RunState}
use Rattle.run_state.proofs.Named.{named_ascending}
use Rattle.run_state.proofs.named_sets.NamedSets.vertices.Goals as goal

pub returns-clause-ascending : goal.returns-clause-ascending
returns-clause-ascending c =
    let s = c.self.inside in
    subst (λ (r : RunState). AreAscending r) c.self.view_is (named_ascending s.vertices s.names.items s.members.items c.self.invariant.each)
