-- Proofs of `incoming_tree`, src/graph.rt.
use Rattle.tree_batch.proofs.BlocksOf.{source_blocks}
use Rattle.tree_batch.proofs.graph.Graph.incoming_tree.Goals as goal

pub returns : goal.returns
returns c =
    let g = c.self.inside in
    rw (← c.self.view_is) (record { blocks = source_blocks g.vertices g.edge_count g.outgoing.entries g.incoming.entries c.self.invariant })
