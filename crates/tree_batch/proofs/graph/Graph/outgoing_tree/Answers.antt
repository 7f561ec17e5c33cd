-- Proofs of `outgoing_tree`, src/graph.rt.
use Rattle.tree_batch.proofs.BlocksOf.{destination_blocks}
use Rattle.tree_batch.proofs.graph.Graph.outgoing_tree.Goals as goal

pub returns-clause-blocks : goal.returns-clause-blocks
returns-clause-blocks c =
    let g = c.self.inside in
    rw (← c.self.view_is) (destination_blocks g.vertices g.edge_count g.outgoing.entries g.incoming.entries c.self.invariant)
