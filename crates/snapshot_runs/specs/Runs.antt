-- Runs of one plan, one after another.
use Rattle.std.specs.Arc.{arc_value}
use Rattle.plans.specs.declared.plan.Plan.{Plan}
use Rattle.shared_graph.specs.declared.naming.Naming as naming
use Rattle.snapshot_runs.specs.declared.runs.Runs.{Runs}
use Rattle.snapshot_runs.specs.declared.runs.RunsState.{RunsState}
use Rattle.snapshot_runs.specs.declared.runs.RunsState.TheVariants.{Planned, Recorded}

-- the plan that is kept, alone or with the record of a run
abbrev pub plan_of_state : {J : Type 0} {g : naming.Ghosts J} → RunsState J g → Plan
plan_of_state (Planned plan) = arc_value plan
plan_of_state (Recorded last) = arc_value last.run_record.plan

-- the plan of runs
abbrev pub plan_of_runs : {J : Type 0} {g : naming.Ghosts J} → Runs J g → Plan
plan_of_runs runs = plan_of_state runs.state
