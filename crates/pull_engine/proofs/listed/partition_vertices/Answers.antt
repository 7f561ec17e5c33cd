-- Proofs of `partition_vertices`, src/listed.rt.
use Rattle.std.proofs.Common.{ℕ, sym, ap, ◌∙◌}
use Rattle.std.proofs.lemmas.List.FromFn.{length-map-range_with_len}
use Rattle.std.proofs.lemmas.Result.{IfOk-weaker}
use Rattle.crew.specs.Boundaries.{boundaries}
use Rattle.pull_engine.specs.inside.Degrees.{in_degrees}
use Rattle.pull_engine.proofs.DegreeTotals.{degree}
use Rattle.pull_engine.proofs.listed.partition_vertices.Goals as goal

pub by_degrees-requires-clause-degrees : goal.by_degrees-requires-clause-degrees
by_degrees-requires-clause-degrees c edge_aware =
    let g = c.args.flat.now in
    length-map-range_with_len (degree g.edges) 0 g.vertices ∙ sym c.vertices-count.ensures.count

pub returns-clause-ends : goal.returns-clause-ends
returns-clause-ends c =
    let g = c.args.flat.now in
    IfOk-weaker c.by_degrees.result _ _
    (λ partition is. is ∙ ap (λ (n : ℕ). boundaries c.args.parallelization c.args.workers n (in_degrees g)) c.vertices-count.ensures.count)
    c.by_degrees.ensures.ends
