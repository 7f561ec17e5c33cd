-- Proofs of `run_recorded`, src/recorded_run.rt.
use Rattle.std.specs.Arc.{arc_value}
use Rattle.run_records.proofs.recorded_run.run_recorded.Goals as goal

pub run_with-requires-clause-follower : goal.run_with-requires-clause-follower
run_with-requires-clause-follower over c = c.of_nothing-follower.ensures.follower (arc_value c.args.plan).functions (arc_value c.args.graph)
