-- Proofs of `run_total`, src/in_degrees.rt.
use Rattle.std.proofs.Common.{◌≡◌, ◌+◌, ◌-◌, ◌*◌, min, ap₂, ◌∙◌, arith}
use Rattle.std.proofs.lemmas.List.FromFn.{length-map-range_with_len}
use Rattle.crew.proofs.DegreeRows.{run_below, run_weight}
use Rattle.pull_engine.specs.inside.Degrees.{in_degrees}
use Rattle.pull_engine.proofs.DegreeTotals.{degree, few_edges, none_past, whole_total}
use Rattle.pull_engine.proofs.in_degrees.InDegreesDegreeList.run_total.Goals as goal

pub returns : goal.returns
returns c =
    let g = c.args.self.now.flat.now in
    let s = 64 * c.args.run in
    let count = c.vertices-vertices.ensures.count in
    let width : c.min.result ≡ min (g.vertices - s) 64 = omega (arith, count, c.min.ensures) in
    ap₂ (λ e n. e + n) c.edges_into-edges.ensures width ∙ run_weight (degree g.edges) g.vertices s 64 (none_past g c.vertices-vertices.ensures.graph)

pub overflow_add-result : goal.overflow_add-result
overflow_add-result c =
    let g = c.args.self.now.flat.now in
    let few = few_edges g c.vertices-vertices.ensures.graph in
    let whole = whole_total g c.vertices-vertices.ensures.graph in
    let part = run_below (in_degrees g) (64 * c.args.run) 64 in
    let is = returns c in
    omega (arith, few.0, few.1, whole, part, is)

pub overflow_sub-vertices : goal.overflow_sub-vertices
overflow_sub-vertices c =
    let g = c.args.self.now.flat.now in
    let long = length-map-range_with_len (degree g.edges) 0 g.vertices in
    let count = c.vertices-vertices.ensures.count in
    omega (arith, c.requires.inside, long, count)
