-- Proofs of `sharing`, src/flat.rt.
use Rattle.std.proofs.Common.{◌≡◌, ◌∙◌, ap}
use Rattle.tree_batch.specs.inside.Digraph.{digraph}
use Rattle.tree_batch.specs.Neighbours.{edges_of}
use Rattle.flat_snapshot.proofs.Snapshots.{flat_made, digraph_is}
use Rattle.flat_snapshot.proofs.Following.{destinations_below, sources_below}
use Rattle.flat_snapshot.proofs.flat.Flat.sharing.Goals as goal

pub following-requires-clause-blocks : goal.following-requires-clause-blocks
following-requires-clause-blocks c =
    let g = c.args.graph.now in
    rw (c.vertices-vertices.ensures.count) (destinations_below g c.outgoing_tree-outs.result.now.entries c.vertices-vertices.ensures.graph c.outgoing_tree-outs.ensures.blocks)

pub following-requires-2-clause-blocks : goal.following-requires-2-clause-blocks
following-requires-2-clause-blocks c =
    let g = c.args.graph.now in
    rw (c.vertices-vertices.ensures.count) (sources_below g c.incoming_tree-ins.result.now.entries c.vertices-vertices.ensures.graph c.incoming_tree-ins.ensures.blocks)

pub invariant_of-result : goal.invariant_of-result
invariant_of-result c =
    rw (c.in_ok-outgoing.ensures, c.in_ok-incoming.ensures)
    (flat_made c.args.graph.now c.vertices-vertices.result c.edge_count.result c.outgoing_tree-outs.result.now.entries c.incoming_tree-ins.result.now.entries c.vertices-vertices.ensures.graph c.vertices-vertices.ensures.count
    c.edge_count.ensures
    c.outgoing_tree-outs.ensures.blocks c.outgoing_tree-outs.ensures.edges c.incoming_tree-ins.ensures.blocks)

pub returns : goal.returns
returns c =
    let g = c.args.graph.now in
    let same : edges_of c.in_ok-outgoing.outgoing ≡ g.edges = ap edges_of c.in_ok-outgoing.ensures ∙ c.outgoing_tree-outs.ensures.edges in
    ap (λ n. digraph n (edges_of c.in_ok-outgoing.outgoing)) c.vertices-vertices.ensures.count ∙ ap (digraph g.vertices) same ∙ digraph_is g
