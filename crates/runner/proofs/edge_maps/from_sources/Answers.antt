-- Proofs of `from_sources`, src/edge_maps.rt.
use Rattle.std.proofs.Common.{Option, subst}
use Rattle.vertex_sets.specs.VertexSet.{VertexSubset}
use Rattle.runner.specs.HybridSources.{AreSourcesOf}
use Rattle.runner.proofs.HybridSources.{changes_from_set}
use Rattle.runner.proofs.edge_maps.from_sources.Goals as goal

pub returns-in-Some-clause-changes : goal.returns-in-Some-clause-changes
returns-in-Some-clause-changes c cs changes =
    let a = c.args.apply in
    let has = subst (λ (s : Option VertexSubset). AreSourcesOf a s) c.in-Some.is c.requires in
    changes_from_set a c.in-Some.set cs has changes
