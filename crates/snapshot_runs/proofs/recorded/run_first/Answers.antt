-- Proofs of `run_first`, src/recorded.rt.
use Rattle.std.proofs.Common.{◌∙◌}
use Rattle.std.specs.Arc.{arc_value}
use Rattle.snapshot_runs.proofs.Recording.{outcome_on, recorded_run}
use Rattle.snapshot_runs.proofs.recorded.run_first.Goals as goal

pub returns-clause-run : goal.returns-clause-run
returns-clause-run g c =
    let plan = arc_value c.args.plan.now in
    let flat = arc_value c.in_ok-graph.graph in
    recorded_run g.J.Naming.vertices g.J.Naming.room c.args.turns plan c.latest.new.self.shown c.in_ok-snapshot.snapshot.number (arc_value c.in_ok-snapshot.snapshot.graph) flat c.in_ok-run.run'
    c.latest.ensures.legal c.in_ok-snapshot.ensures.newest (c.in_ok-graph.ensures ∙ c.deref.ensures)
    (outcome_on plan flat c.args.turns c.in_ok-run.run'.outcome c.in_ok-run.ensures.means) c.in_ok-run.ensures.kept
