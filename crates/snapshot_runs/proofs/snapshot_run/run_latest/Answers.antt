-- Proofs of `run_latest`, src/snapshot_run.rt.
use Rattle.std.proofs.Common.{◌∙◌, ap}
use Rattle.std.specs.Arc.{arc_value}
use Rattle.algorithm_meaning.specs.Meaning.{meaning}
use Rattle.plans.specs.PlanOf.{IsCompiled, program_of}
use Rattle.flat_snapshot.specs.Digraph.{Digraph}
use Rattle.run_state.specs.State.{graph_value}
use Rattle.shared_graph.proofs.Versions.{newest_is}
use Rattle.snapshot_runs.proofs.snapshot_run.run_latest.Goals as goal

pub returns-clause-number : goal.returns-clause-number
returns-clause-number g c =
    (newest_is g.J.Naming.vertices g.J.Naming.room c.latest.new.self.shown c.in_ok-snapshot.snapshot.number
    (arc_value c.in_ok-snapshot.snapshot.graph) c.latest.ensures.legal c.in_ok-snapshot.ensures.newest).0

pub returns-clause-outcome : goal.returns-clause-outcome
returns-clause-outcome g c =
    let plan = c.args.plan.now in
    let newest = newest_is g.J.Naming.vertices g.J.Naming.room c.latest.new.self.shown c.in_ok-snapshot.snapshot.number
    (arc_value c.in_ok-snapshot.snapshot.graph) c.latest.ensures.legal c.in_ok-snapshot.ensures.newest in
    λ (of : IsCompiled plan). c.in_ok-outcome.ensures of
    ∙ ap (λ (d : Digraph). meaning (program_of plan) (graph_value d) c.args.turns) (c.deref.ensures ∙ newest.1)
