-- Proofs of `apply_forked`, src/graph.rt.
use Rattle.std.proofs.Common.{◌≡◌, false, sym, refl}
use Rattle.tree_batch.specs.Edge.{misfits}
use Rattle.tree_batch.specs.inside.Sorted.{sorted_pairs}
use Rattle.tree_batch.proofs.AllEdges.{few_vertices}
use Rattle.tree_batch.proofs.Deciding.{all_inside}
use Rattle.tree_batch.proofs.Lacking.{lacks_memory}
use Rattle.tree_batch.proofs.Neighbourhoods.{graph_made, graph_is_after}
use Rattle.tree_batch.proofs.graph.Graph.apply_forked.Goals as goal

pub updates_forked-requires-after_bounds : goal.updates_forked-requires-after_bounds
updates_forked-requires-after_bounds g c κs within = all_inside c.self.inside.vertices c.args.batch.now (few_vertices c.self.inside.vertices c.self.invariant.graph.count) (sym c.if-misfits.ensures)

pub invariant_of-result : goal.invariant_of-result
invariant_of-result g c =
    let h = c.self.inside in
    let inside : misfits h.vertices c.args.batch.now ≡ false = sym c.if-misfits.ensures in
    graph_made h.vertices h.edge_count h.outgoing.entries h.incoming.entries c.self.invariant c.args.batch.now inside (sorted_pairs c.in_ok-updates.updates)
    (sorted_pairs c.in_ok-transposed.transposed) c.in_ok-updates.ensures.same c.in_ok-transposed.ensures.same c.in_ok-outs.outs c.in_ok-ins.ins c.in_ok-outs.ensures c.in_ok-ins.ensures _ _
    c.vertices_after.ensures refl

pub returns : goal.returns
returns g c =
    let h = c.self.inside in
    let inside : misfits h.vertices c.args.batch.now ≡ false = sym c.if-misfits.ensures in
    rw (← c.self.view_is) (
      inside,
      graph_is_after h.vertices h.edge_count h.outgoing.entries h.incoming.entries c.self.invariant c.args.batch.now inside (sorted_pairs c.in_ok-updates.updates)
          (sorted_pairs c.in_ok-transposed.transposed) c.in_ok-updates.ensures.same c.in_ok-transposed.ensures.same c.in_ok-outs.outs c.in_ok-ins.ins c.in_ok-outs.ensures c.in_ok-ins.ensures _
          c.vertices_after.ensures,
    )

pub returns-in_err-updates : goal.returns-in_err-updates
returns-in_err-updates g c = rw (← c.self.view_is) (lacks_memory _ c.args.batch.now _ c.from_residual.ensures.0 c.from_residual.ensures.1 (sym c.if-misfits.ensures))

pub returns-in_err-outs : goal.returns-in_err-outs
returns-in_err-outs g c = rw (← c.self.view_is) (lacks_memory _ c.args.batch.now _ c.from_residual-in_err-outs.ensures.0 c.from_residual-in_err-outs.ensures.1 (sym c.if-misfits.ensures))

pub returns-in_err-transposed : goal.returns-in_err-transposed
returns-in_err-transposed g c = rw (← c.self.view_is) (lacks_memory _ c.args.batch.now _ c.from_residual-in_err-transposed.ensures.0 c.from_residual-in_err-transposed.ensures.1
    (sym c.if-misfits.ensures))

pub returns-in_err-ins : goal.returns-in_err-ins
returns-in_err-ins g c = rw (← c.self.view_is) (lacks_memory _ c.args.batch.now _ c.from_residual-in_err-ins.ensures.0 c.from_residual-in_err-ins.ensures.1 (sym c.if-misfits.ensures))
