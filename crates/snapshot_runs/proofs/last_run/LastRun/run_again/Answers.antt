-- Proofs of `run_again`, src/last_run.rt.
use Rattle.std.proofs.Common.{◌∙◌}
use Rattle.std.specs.Arc.{arc_value}
use Rattle.snapshot_runs.proofs.Recording.{recorded_run}
use Rattle.snapshot_runs.proofs.last_run.LastRun.run_again.Goals as goal

pub returns-clause-run : goal.returns-clause-run
returns-clause-run g c =
    recorded_run g.J.Naming.vertices g.J.Naming.room c.args.turns (arc_value c.args.self.now.run_record.plan) c.newest_since.new.reader.shown c.in_ok-snapshot.snapshot.number
    (arc_value c.in_ok-snapshot.snapshot.graph) (arc_value c.in_ok-graph.graph) c.in_ok-run.run'
    c.newest_since.ensures.legal c.in_ok-snapshot.ensures.newest (c.in_ok-graph.ensures ∙ c.deref.ensures) c.in_ok-run.ensures.means c.in_ok-run.ensures.kept
