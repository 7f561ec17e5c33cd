-- Proofs of `weight`, src/graph.rt.
use Rattle.std.proofs.Common.{◌^◌}
use Rattle.vertex_blocks.specs.Blocks.{lists_of}
use Rattle.tree_batch.proofs.Adjacency.{edge_weights}
use Rattle.tree_batch.proofs.Neighbourhoods.{graph_rises}
use Rattle.tree_batch.proofs.graph.Graph.weight.Goals as goal

pub returns-in-Some : goal.returns-in-Some
returns-in-Some c =
    let out = c.self.inside.outgoing.entries in
    let is = c.in-Some.ensures in
    rw (← c.self.view_is, edge_weights 0 (2 ^ 24) (lists_of out) (c.args.source, c.args.destination) (graph_rises out c.self.invariant.out), ← is.0) c.get.ensures

pub returns-in-None : goal.returns-in-None
returns-in-None c =
    let out = c.self.inside.outgoing.entries in
    let none = c.in-None.ensures in
    rw (← c.self.view_is, edge_weights 0 (2 ^ 24) (lists_of out) (c.args.source, c.args.destination) (graph_rises out c.self.invariant.out), none)
