-- Proofs of `in_`, src/graph.rt.
use Rattle.tree_batch.proofs.Neighbourhoods.{sources_are}
use Rattle.tree_batch.proofs.graph.Graph.in_.Goals as goal

pub returns : goal.returns
returns c =
    let g = c.self.inside in
    rw (← c.self.view_is, sources_are g.vertices g.edge_count g.outgoing.entries g.incoming.entries c.self.invariant c.args.destination) c.neighbours.ensures
