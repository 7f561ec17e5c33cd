-- Proofs of `vertices`, src/state.rt.
use Rattle.std.proofs.Common.{subst}
use Rattle.run_state.specs.State.{IsRunState}
use Rattle.run_state.proofs.Runs.{is_run_state}
use Rattle.run_state.proofs.state.State.vertices.Goals as goal

pub returns-clause-valid : goal.returns-clause-valid
returns-clause-valid c =
    let s = c.self.inside in
    subst IsRunState c.self.view_is
    (is_run_state s.vectors s.sets s.integers.items s.conditions.items s.text.items s.turns s.vector_count c.self.invariant c.vertices.ensures.ascending)
