-- Proofs of `changes`, src/follower.rt.
use Rattle.std.proofs.Common.{sym, subst}
use Rattle.flat_snapshot.specs.Digraph.{Digraph}
use Rattle.run_records.proofs.follower.Follower.changes.Goals as goal

pub edge_map-requires : goal.edge_map-requires
edge_map-requires over c =
    let ready = over.E.ApplyEngine.is_ready in
    subst (λ by. ready by c.args.apply.now.flat.now) (sym c.followed.ensures.engine)
    (subst (λ (g : Digraph). ready c.args.self.now.by g) (sym c.requires.apply.graph) c.requires.engine)

pub returns-clause-engine : goal.returns-clause-engine
returns-clause-engine over c =
    subst (λ (g : Digraph). over.E.ApplyEngine.is_ready c.edge_map.new.by g) c.requires.apply.graph c.edge_map.ensures.ready
