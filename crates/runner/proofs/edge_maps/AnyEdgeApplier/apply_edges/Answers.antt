-- Proofs of `apply_edges` of each engine, src/edge_maps.rt.
use Rattle.std.proofs.Common.{sym, subst}
use Rattle.flat_snapshot.specs.Digraph.{Digraph}
use Rattle.runner.proofs.EdgeMaps.{apply_is_meant, from_both}
use Rattle.runner.proofs.edge_maps.AnyEdgeApplier.apply_edges.Goals as goal

pub edge_map-requires : goal.edge_map-requires
edge_map-requires over c =
    subst (λ (g : Digraph). over.E.ApplyEngine.is_ready c.args.self.now g) (sym c.apply_of-apply.ensures.graph) c.requires.ready

pub returns-clause-changes : goal.returns-clause-changes
returns-clause-changes over c =
    from_both _ _ _ c.edge_map.result
    (λ cs once changes. apply_is_meant c.args.run c.args.asked c.apply_of-apply.result cs.vectors.items c.vertices.ensures.graph c.apply_of-apply.ensures once changes)
    c.edge_map.ensures.once c.edge_map.ensures.changes

pub returns-clause-ready : goal.returns-clause-ready
returns-clause-ready over c =
    subst (λ (g : Digraph). over.E.ApplyEngine.is_ready c.edge_map.new.by g) c.apply_of-apply.ensures.graph c.edge_map.ensures.ready
