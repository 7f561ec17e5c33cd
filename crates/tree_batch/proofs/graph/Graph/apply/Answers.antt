-- Proofs of `apply`, src/graph.rt.
use Rattle.std.proofs.Common.{◌≡◌, false, sym, refl}
use Rattle.tree_batch.specs.Edge.{misfits}
use Rattle.tree_batch.specs.inside.Sorted.{sorted_pairs}
use Rattle.tree_batch.proofs.AllEdges.{few_vertices}
use Rattle.tree_batch.proofs.Deciding.{all_inside}
use Rattle.tree_batch.proofs.Lacking.{lacks_memory}
use Rattle.tree_batch.proofs.Neighbourhoods.{graph_made, graph_is_after}
use Rattle.tree_batch.proofs.graph.Graph.apply.Goals as goal

pub updates-requires : goal.updates-requires
updates-requires c = (all_inside c.self.inside.vertices c.args.batch.now (few_vertices c.self.inside.vertices c.self.invariant.graph.count) (sym c.if-misfits.ensures))

pub invariant_of-result : goal.invariant_of-result
invariant_of-result c =
    let g = c.self.inside in
    let inside : misfits g.vertices c.args.batch.now ≡ false = sym c.if-misfits.ensures in
    graph_made g.vertices g.edge_count g.outgoing.entries g.incoming.entries c.self.invariant c.args.batch.now inside (sorted_pairs c.in_ok-updates.updates)
    (sorted_pairs c.in_ok-transposed.transposed) c.in_ok-updates.ensures.same c.in_ok-transposed.ensures.same c.in_ok-out.out c.in_ok-into.into c.in_ok-out.ensures c.in_ok-into.ensures _ _
    c.vertices_after.ensures refl

pub returns : goal.returns
returns c =
    let g = c.self.inside in
    let inside : misfits g.vertices c.args.batch.now ≡ false = sym c.if-misfits.ensures in
    rw (← c.self.view_is) (
      inside,
      graph_is_after g.vertices g.edge_count g.outgoing.entries g.incoming.entries c.self.invariant c.args.batch.now inside (sorted_pairs c.in_ok-updates.updates)
          (sorted_pairs c.in_ok-transposed.transposed) c.in_ok-updates.ensures.same c.in_ok-transposed.ensures.same c.in_ok-out.out c.in_ok-into.into c.in_ok-out.ensures c.in_ok-into.ensures _
          c.vertices_after.ensures,
    )

pub returns-in_err-updates : goal.returns-in_err-updates
returns-in_err-updates c = rw (← c.self.view_is) (lacks_memory _ c.args.batch.now _ c.from_residual.ensures.0 c.from_residual.ensures.1 (sym c.if-misfits.ensures))

pub returns-in_err-out : goal.returns-in_err-out
returns-in_err-out c = rw (← c.self.view_is) (lacks_memory _ c.args.batch.now _ c.from_residual-in_err-out.ensures.0 c.from_residual-in_err-out.ensures.1 (sym c.if-misfits.ensures))

pub returns-in_err-transposed : goal.returns-in_err-transposed
returns-in_err-transposed c = rw (← c.self.view_is) (lacks_memory _ c.args.batch.now _ c.from_residual-in_err-transposed.ensures.0 c.from_residual-in_err-transposed.ensures.1
    (sym c.if-misfits.ensures))

pub returns-in_err-into : goal.returns-in_err-into
returns-in_err-into c = rw (← c.self.view_is) (lacks_memory _ c.args.batch.now _ c.from_residual-in_err-into.ensures.0 c.from_residual-in_err-into.ensures.1 (sym c.if-misfits.ensures))
