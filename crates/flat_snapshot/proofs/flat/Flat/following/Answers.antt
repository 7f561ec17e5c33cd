-- Proofs of `following`, src/flat.rt.
use Rattle.std.proofs.Common.{◌∙◌, ap}
use Rattle.tree_batch.specs.Neighbours.{destinations_of, sources_of}
use Rattle.flat_snapshot.proofs.Following.{same_out, same_in}
use Rattle.flat_snapshot.proofs.flat.Flat.following.Goals as goal

pub sharing-requires-clause-out : goal.sharing-requires-clause-out
sharing-requires-clause-out c = λ u off.
    let was = c.args.former.now.edges in
    let now = c.args.graph.now.edges in
    let changed = c.in_ok-changed.changed in
    c.former.invariant.destinations u ∙ ap (λ d. destinations_of u d.edges) c.former.view_is
    ∙ same_out now was c.args.edges.now changed.outgoing.items c.requires.edges c.in_ok-changed.ensures.outgoing u off

pub sharing-requires-clause-into : goal.sharing-requires-clause-into
sharing-requires-clause-into c = λ v off.
    let was = c.args.former.now.edges in
    let now = c.args.graph.now.edges in
    let changed = c.in_ok-changed.changed in
    c.former.invariant.sources v ∙ ap (λ d. sources_of v d.edges) c.former.view_is
    ∙ same_in now was c.args.edges.now changed.incoming.items c.requires.edges c.in_ok-changed.ensures.incoming v off
