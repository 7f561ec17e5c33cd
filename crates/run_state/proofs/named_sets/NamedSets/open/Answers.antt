-- Proofs of `open`, src/named_sets.rt.
use Rattle.std.proofs.Common.{[], refl, ap, sym, ◌∙◌}
use Rattle.algorithm_meaning.specs.State.{GraphValue}
use Rattle.vertex_sets.specs.VertexSet.{VertexSubset}
use Rattle.run_state.specs.State.{RunState}
use Rattle.run_state.proofs.named_sets.NamedSets.open.Goals as goal

pub push-requires : goal.push-requires
push-requires c =
    let g : GraphValue = record { vertices = c.args.vertices; edges = [] } in
    ap (λ (s : VertexSubset). s.vertices) c.in_ok-all.ensures ∙ sym (ap (λ (r : RunState). r.vertices) (c.names.invariant g refl))
