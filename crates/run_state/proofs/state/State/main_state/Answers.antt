-- Proofs of `main_state`, src/state.rt.
use Rattle.std.proofs.Common.{slice_get, take, ap, sym, ◌∙◌}
use Rattle.algorithm_meaning.specs.Value.{members_of}
use Rattle.run_state.specs.inside.NamedSets.{size_of}
use Rattle.run_state.specs.State.{RunState}
use Rattle.run_state.proofs.Runs.{has_first_sizes}
use Rattle.run_state.proofs.state.State.main_state.Goals as goal

pub returns-clause-main : goal.returns-clause-main
returns-clause-main c =
    let s = c.self.inside in
    let d = c.args.depth in
    let view = c.self.view_is in
    record {
      vectors = ap (λ (r : RunState). r.state.vectors) view;
      sizes = λ p.
          has_first_sizes s.sets.state d.sets c.first-sizes.result.now (c.first-sizes.ensures ∙ ap (take d.sets) c.sizes.ensures) p
          ∙ ap (λ (r : RunState). size_of (members_of (slice_get (take d.sets r.state.sets) p))) view;
      integers = c.first-integers.ensures ∙ ap (take d.integers) c.deref.ensures.value ∙ ap (λ (r : RunState). take d.integers r.state.scope.integers) view;
      conditions = c.first-conditions.ensures ∙ ap (take d.conditions) c.deref-2.ensures.value ∙ ap (λ (r : RunState). take d.conditions r.state.scope.conditions) view;
      source = sym (ap (λ (r : RunState). r.state.scope.source) view);
      destination = sym (ap (λ (r : RunState). r.state.scope.destination) view);
      weight = sym (ap (λ (r : RunState). r.state.scope.weight) view);
    }
