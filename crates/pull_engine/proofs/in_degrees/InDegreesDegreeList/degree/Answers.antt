-- Proofs of `degree`, src/in_degrees.rt.
use Rattle.std.proofs.Common.{◌≡◌, ◌+◌, ◌<◌, sym, ◌∙◌, arith}
use Rattle.std.proofs.lemmas.List.FromFn.{get_or-map-range_with_len, length-map-range_with_len}
use Rattle.pull_engine.proofs.DegreeTotals.{degree, few_edges}
use Rattle.pull_engine.proofs.in_degrees.InDegreesDegreeList.degree.Goals as goal

pub overflow_cast-index : goal.overflow_cast-index
overflow_cast-index c =
    let g = c.args.self.now.flat.now in
    let long = length-map-range_with_len (degree g.edges) 0 g.vertices in
    let few = few_edges g c.vertices.ensures.graph in
    omega (arith, c.requires, long, few.1)

pub returns : goal.returns
returns c =
    let g = c.args.self.now.flat.now in
    let i = c.args.index in
    let long = length-map-range_with_len (degree g.edges) 0 g.vertices in
    let inside : i < g.vertices = omega (arith, c.requires, long) in
    let first : 0 + i ≡ i = omega arith in
    c.in_degree.ensures ∙ sym (get_or-map-range_with_len (degree g.edges) 0 g.vertices i i 0 inside first)
