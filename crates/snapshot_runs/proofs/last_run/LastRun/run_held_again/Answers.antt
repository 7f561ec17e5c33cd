-- Proofs of `run_held_again`, src/last_run.rt.
use Rattle.std.proofs.Common.{◌∙◌}
use Rattle.std.specs.Arc.{arc_value}
use Rattle.snapshot_runs.proofs.Recording.{recorded_on}
use Rattle.snapshot_runs.proofs.last_run.LastRun.run_held_again.Goals as goal

pub returns-then-is_on : goal.returns-then-is_on
returns-then-is_on g c =
    recorded_on (arc_value c.args.self.now.run_record.plan) c.args.held.now.graph (arc_value c.graph.result.now) c.args.turns c.run_beside.result
    (c.graph.ensures ∙ c.if-is_on.ensures) c.run_beside.ensures.means c.run_beside.ensures.kept
