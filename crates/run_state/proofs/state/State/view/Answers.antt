-- Proofs of `view`, src/state.rt.
use Rattle.std.proofs.Common.{ℤ, List, slice_get, ap, sym, subst, ◌∙◌, arith}
use Rattle.algorithm_meaning.specs.Value.{members_of}
use Rattle.kernels.specs.Registers.{HasSizes}
use Rattle.run_state.specs.inside.NamedSets.{size_of}
use Rattle.run_state.specs.State.{RunState}
use Rattle.run_state.proofs.Runs.{has_sizes}
use Rattle.run_state.proofs.state.State.view.Goals as goal

pub returns-clause-seen : goal.returns-clause-seen
returns-clause-seen c = λ p g are vertices edges.
    let s = c.self.inside in
    let view = c.self.view_is in
    let has : HasSizes c.sizes.result.now s.sets.state = subst (λ (zs : List ℤ). HasSizes zs s.sets.state) (sym c.sizes.ensures) (has_sizes s.sets.state) in
    record {
      functions = are;
      sets = λ index. c.members.ensures index ∙ ap (λ (r : RunState). members_of (slice_get r.state.sets index)) view;
      sizes = λ index. has index ∙ ap (λ (r : RunState). size_of (members_of (slice_get r.state.sets index))) view;
      vectors = ap (λ (r : RunState). r.state.vectors) view;
      vertices = vertices;
      edges = edges;
    }

pub returns-clause-entries : goal.returns-clause-entries
returns-clause-entries c = λ x h.
    let same = c.vertices.ensures.valid.vectors x h in
    omega arith
