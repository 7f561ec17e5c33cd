-- Proofs of `open`, src/state.rt.
use Rattle.std.proofs.Common.{◌≡◌, ℕ, ℤ, List, length, map, replicate, ap, sym, ◌∙◌}
use Rattle.run_state.specs.State.{RunState, graph_value}
use Rattle.run_state.proofs.Lengths.{opened_lengths}
use Rattle.run_state.proofs.state.State.open.Goals as goal

pub invariant_of-result : goal.invariant_of-result
invariant_of-result c =
    let vs = c.args.vectors.now in
    let g = graph_value c.args.graph.now in
    let count : c.in_ok-sets.sets.vertices ≡ g.vertices = ap (λ (r : RunState). r.vertices) (c.in_ok-sets.ensures g (sym c.vertices.ensures.count)) ∙ c.vertices.ensures.count in
    ap (λ (xs : List (List ℤ)). map (λ (ys : List ℤ). length ys) xs) c.in_ok-opened.ensures.vectors
    ∙ opened_lengths g vs
    ∙ ap (λ (n : ℕ). replicate (length vs) n) (sym count)

pub returns-clause-vertices : goal.returns-clause-vertices
returns-clause-vertices c =
    ap (λ (r : RunState). r.vertices) (c.in_ok-sets.ensures (graph_value c.args.graph.now) (sym c.vertices.ensures.count)) ∙ c.vertices.ensures.count
