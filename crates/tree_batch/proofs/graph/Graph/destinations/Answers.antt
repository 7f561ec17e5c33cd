-- Proofs of `destinations`, src/graph.rt.
use Rattle.std.proofs.Common.{◌^◌}
use Rattle.vertex_blocks.specs.Blocks.{lists_of}
use Rattle.tree_batch.proofs.Adjacency.{destinations_are}
use Rattle.tree_batch.proofs.Neighbourhoods.{graph_rises}
use Rattle.tree_batch.proofs.graph.Graph.destinations.Goals as goal

pub returns : goal.returns
returns c =
    let out = c.self.inside.outgoing.entries in
    rw (← c.self.view_is, destinations_are 0 (2 ^ 24) c.args.source (lists_of out) (graph_rises out c.self.invariant.out)) c.neighbours.ensures
