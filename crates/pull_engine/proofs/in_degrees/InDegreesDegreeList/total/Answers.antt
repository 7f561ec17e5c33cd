-- Proofs of `total`, src/in_degrees.rt.
use Rattle.std.proofs.Common.{◌+◌, ap₂, ◌∙◌, arith}
use Rattle.pull_engine.proofs.DegreeTotals.{few_edges, whole_total}
use Rattle.pull_engine.proofs.in_degrees.InDegreesDegreeList.total.Goals as goal

pub overflow_add-result : goal.overflow_add-result
overflow_add-result c =
    let few = few_edges c.args.self.now.flat.now c.vertices.ensures.graph in
    let edges = c.edge_count.ensures in
    let count = c.vertices.ensures.count in
    omega (arith, few.0, few.1, edges, count)

pub returns : goal.returns
returns c = ap₂ (λ e n. e + n) c.edge_count.ensures c.vertices.ensures.count ∙ whole_total c.args.self.now.flat.now c.vertices.ensures.graph
