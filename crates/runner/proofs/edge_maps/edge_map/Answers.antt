-- Proofs of `edge_map`, src/edge_maps.rt.
use Rattle.std.proofs.Common.{sym, subst}
use Rattle.std.proofs.lemmas.Result.{IfOk-weaker}
use Rattle.flat_snapshot.specs.Digraph.{Digraph}
use Rattle.runner.proofs.edge_maps.edge_map.Goals as goal

pub push-requires-clause-ready : goal.push-requires-clause-ready
push-requires-clause-ready over c =
    subst (λ (g : Digraph). over.E.ApplyEngine.is_ready c.sources.new.self g) (sym c.from_sources-apply.ensures.graph) c.sources.ensures.ready

pub pull-requires-clause-ready : goal.pull-requires-clause-ready
pull-requires-clause-ready over c =
    subst (λ (g : Digraph). over.E.ApplyEngine.is_ready c.sources.new.self g) (sym c.from_sources-apply.ensures.graph) c.sources.ensures.ready

pub returns-in-Push-clause-changes : goal.returns-in-Push-clause-changes
returns-in-Push-clause-changes over c =
    IfOk-weaker c.push.result _ _ (λ cs changes. c.from_sources-apply.ensures.changes cs.vectors.items changes) c.push.ensures.changes

pub returns-in-Push-clause-ready : goal.returns-in-Push-clause-ready
returns-in-Push-clause-ready over c =
    subst (λ (g : Digraph). over.E.ApplyEngine.is_ready c.push.new.self g) c.from_sources-apply.ensures.graph c.push.ensures.ready

pub returns-clause-changes : goal.returns-clause-changes
returns-clause-changes over c =
    IfOk-weaker c.pull.result _ _ (λ cs changes. c.from_sources-apply.ensures.changes cs.vectors.items changes) c.pull.ensures.changes

pub returns-clause-ready : goal.returns-clause-ready
returns-clause-ready over c =
    subst (λ (g : Digraph). over.E.ApplyEngine.is_ready c.pull.new.self g) c.from_sources-apply.ensures.graph c.pull.ensures.ready
